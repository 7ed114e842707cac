-- A worker that has taken the turn has it, also with one group more released, and may give it back at any time.
use Rattle.std.proofs.Common.{false}
use Rattle.search_pool.proofs.worker.release.release.Goals as goal
use Rattle.search_pool.proofs.TurnLaws.{is_turn_of, took_turn}
use Rattle.search_pool.proofs.TurnReleasing.{goes_on_with, has_turn}

pub returns-then-has_failed : goal.returns-then-has_failed
returns-then-has_failed g c =
    let took =
    took_turn c.turn-turn.result c.book-book.ensures.value c.turn-turn.ensures.table c.turn-turn.ensures.view c.turn-turn.ensures.taken
    c.turn-turn.ensures.lent in
    c.stop.ensures c.args.claims.now (is_turn_of c.requires.at_work.working took)

pub groups-init : goal.groups-init
groups-init g c =
    let took =
    took_turn c.turn-turn.result c.book-book.ensures.value c.turn-turn.ensures.table c.turn-turn.ensures.view c.turn-turn.ensures.taken
    c.turn-turn.ensures.lent in
    (tt, tt, has_turn c.requires.at_work.working took c.args.worker.seen_roots c.requires.at_work.within c.requires.at_work.seen, c.requires.ripe)

pub release_top-requires-clause-ripe : goal.release_top-requires-clause-ripe
release_top-requires-clause-ripe g c = c.groups.invariant.3

pub release_top-requires-clause-under : goal.release_top-requires-clause-under
release_top-requires-clause-under g c = (c.args.claims.now, c.args.worker.seen_roots, c.groups.invariant.2)

pub stop-requires-then-is_err : goal.stop-requires-then-is_err
stop-requires-then-is_err g c = (c.release_top.ensures c.args.claims.now c.args.worker.seen_roots c.groups.invariant.2).may

pub returns-then-is_err : goal.returns-then-is_err
returns-then-is_err g c =
    c.stop-then-is_err.ensures c.args.claims.now (c.release_top.ensures c.args.claims.now c.args.worker.seen_roots c.groups.invariant.2).of

pub give_back-requires : goal.give_back-requires
give_back-requires g c = (c.release_top.ensures c.args.claims.now c.args.worker.seen_roots c.groups.invariant.2).may

pub returns-then-not-is_ripe : goal.returns-then-not-is_ripe
returns-then-not-is_ripe g c =
    c.give_back.ensures.at_work c.args.claims.now false
    (goes_on_with (c.release_top.ensures c.args.claims.now c.args.worker.seen_roots c.groups.invariant.2)) c.requires.at_work.handed

pub groups-preserved : goal.groups-preserved
groups-preserved g c =
    (tt, tt, c.release_top.ensures c.args.claims.now c.args.worker.seen_roots c.groups.invariant.2, c.is_ripe.ensures.ripe.0 c.if-not-is_ripe.false)
