use Rattle.std.proofs.Common.{◌≡◌, ◌++◌, rules, subst}
use Rattle.crossbeam_queue.specs.Passes.{view}
use Rattle.group_feed.specs.declared.line.Hand.{Hand}
use Rattle.group_feed.specs.Line.{both, parcels}
use Rattle.group_feed.proofs.LineSteps.{all_taken, merges, totals}
use Rattle.group_feed.proofs.ends.meet.Goals as goal

pub absorb-requires-clause-rule : goal.absorb-requires-clause-rule
absorb-requires-clause-rule g c = merges g.N.Graph.lists _ _ _ _ c.requires.feeds c.requires.takes

pub learn_as-requires-clause-rule : goal.learn_as-requires-clause-rule
learn_as-requires-clause-rule g c = totals g.N.Graph.lists _ _ (search rules) (search rules)

pub returns : goal.returns
returns g c =
    let w : Hand = both (view c.args.feeder) (view c.args.taker) in
    let is : view c.absorb.new.pass ≡ w = c.absorb.ensures.rule in
    let told = c.learn_as.ensures.rule in
    all_taken w told.0 c.requires.through (subst (λ (v : Hand). parcels v.pushed v.ended ≡ parcels v.taken v.through ++ told.0) is told.1)
