use Rattle.std.proofs.Common.{ap, ◌∙◌}
use Rattle.group_feed.specs.declared.line.Hand.{Hand}
use Rattle.group_feed.proofs.LineSteps.{pops}
use Rattle.group_feed.proofs.ends.next.Goals as goal

pub pop_as-requires-clause-rule : goal.pop_as-requires-clause-rule
pop_as-requires-clause-rule g c = (pops g.N.Graph.lists _ _ (ap (λ (v : Hand). v.takes) c.loop.invariant.3 ∙ c.requires.takes), λ items views _ _. tt)
