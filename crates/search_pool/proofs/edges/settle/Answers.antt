use Rattle.std.proofs.Common.{true, false, inl, inr}
use Rattle.std.proofs.lemmas.Bool.{OnFalse_at, both_ways}
use Rattle.search_stack.proofs.Driving.{settles}
use Rattle.search_pool.proofs.EdgesKept.{away_from, done_keeps, done_runs, done_seen, held_noted, held_runs, moves_on}
use Rattle.search_pool.proofs.edges.settle.Goals as goal

pub open_node-requires-clause-away : goal.open_node-requires-clause-away
open_node-requires-clause-away g c κs within = away_from c.requires.running c.in-Won.ensures.later

pub returns-then-back-clause-goes_on : goal.returns-then-back-clause-goes_on
returns-then-back-clause-goes_on g c =
    let runs = held_runs c.args.node c.requires.running c.in-Held.ensures.pass c.in-Held.ensures.view in
    let same = settles c.args.search.now c.back.new.self c.args.node c.back.result c.requires.last c.back.ensures.on.0 c.back.ensures.lowered
    (λ isnt. OnFalse_at isnt c.back.ensures.unchanged) in
    moves_on false runs same.0.keeps.nodes c.back.ensures.wants_nothing
    (c.back.ensures.good c.args.claims.now.lists c.args.claims.now.roots c.claim.new.pass.view.seen true runs.working.good (inl c.if-back.true))

pub returns-else-back-clause-goes_on : goal.returns-else-back-clause-goes_on
returns-else-back-clause-goes_on g c =
    let runs = held_runs c.args.node c.requires.running c.in-Held.ensures.pass c.in-Held.ensures.view in
    let noted = held_noted c.args.node c.requires.running c.in-Held.ensures.pass c.in-Held.ensures.view in
    let stays = OnFalse_at c.if-back.false c.back.ensures.unchanged in
    rw stays (
      runs,
      record {
        last = c.requires.last;
        held = noted;
        away = λ on. both_ways c.back.result c.if-back.false (c.back.ensures.on.1 on);
      },
    )

pub returns-in-Done-clause-goes_on : goal.returns-in-Done-clause-goes_on
returns-in-Done-clause-goes_on g c =
    let runs = done_runs c.args.node c.requires.running c.in-Done.ensures.pass c.in-Done.ensures.view in
    let seen = done_seen c.args.node c.requires.running c.in-Done.ensures.pass c.in-Done.ensures.view in
    let same = settles c.args.search.now c.back-in-Done.new.self c.args.node c.back-in-Done.result c.requires.last c.back-in-Done.ensures.on.0 c.back-in-Done.ensures.lowered
    (λ isnt. OnFalse_at isnt c.back-in-Done.ensures.unchanged) in
    moves_on false runs same.0.keeps.nodes c.back-in-Done.ensures.wants_nothing
    (c.back-in-Done.ensures.good c.args.claims.now.lists c.args.claims.now.roots c.claim.new.pass.view.seen true runs.working.good (inr seen))

pub returns-in-Done-clause-seen : goal.returns-in-Done-clause-seen
returns-in-Done-clause-seen g c = done_keeps c.args.node c.requires.running c.in-Done.ensures.pass c.in-Done.ensures.view
