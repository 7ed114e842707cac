-- A worker that holds back takes a ready search, or goes on with nothing.
use Rattle.std.proofs.Common.{◌∙◌, false, refl}
use Rattle.search_pool.specs.Working.{IsAtWork}
use Rattle.search_pool.proofs.worker.idle.hold_back.Goals as goal
use Rattle.search_pool.proofs.TurnIdling.{may_take}
use Rattle.search_pool.proofs.TurnLaws.{goes_on, is_turn_of, stays_on, took_turn}
use Rattle.search_pool.proofs.TurnSuspending.{beside_good}

pub returns-then-has_failed : goal.returns-then-has_failed
returns-then-has_failed g c =
    let took =
    took_turn c.turn-turn.result c.book-book.ensures.value c.turn-turn.ensures.table c.turn-turn.ensures.view
    c.turn-turn.ensures.taken c.turn-turn.ensures.lent in
    c.stop.ensures c.args.claims.now (is_turn_of c.requires.at_work.working took)

pub give_back-requires : goal.give_back-requires
give_back-requires g c =
    let took =
    took_turn c.turn-turn.result c.book-book.ensures.value c.turn-turn.ensures.table c.turn-turn.ensures.view
    c.turn-turn.ensures.taken c.turn-turn.ensures.lent in
    may_take c.requires.at_work.working took c.take_ready.new.self c.in-Some.ready c.requires.idle c.in-Some.ensures.only
    c.in-Some.ensures.kept_count c.in-Some.ensures.wanted_count

pub returns-in-Some : goal.returns-in-Some
returns-in-Some g c =
    let took =
    took_turn c.turn-turn.result c.book-book.ensures.value c.turn-turn.ensures.table c.turn-turn.ensures.view
    c.turn-turn.ensures.taken c.turn-turn.ensures.lent in
    c.give_back.ensures.at_work c.args.claims.now false
    (goes_on c.requires.at_work.working took c.args.worker.seen_roots c.requires.at_work.within c.requires.at_work.seen
    c.in-Some.ensures.beside.wants_nothing
    (beside_good c.requires.at_work.working took c.take_ready.new.self c.in-Some.ready c.in-Some.ensures.only c.in-Some.ensures.beside))
    c.requires.at_work.handed

pub returns-then-released : goal.returns-then-released
returns-then-released g c =
    let before =
    took_turn c.turn-turn.result (c.in_default.ensures.unchanged ∙ c.book-book.ensures.value) c.turn-turn.ensures.table c.turn-turn.ensures.view
    c.turn-turn.ensures.taken c.turn-turn.ensures.lent in
    c.give_back-worker.ensures.at_work c.args.claims.now false
    (stays_on c.requires.at_work.working before c.args.worker.seen_roots c.requires.at_work.within c.requires.at_work.seen refl)
    c.requires.at_work.handed

pub returns : goal.returns
returns g c =
    let before =
    took_turn c.turn-turn.result (c.in_default.ensures.unchanged ∙ c.book-book.ensures.value) c.turn-turn.ensures.table c.turn-turn.ensures.view
    c.turn-turn.ensures.taken c.turn-turn.ensures.lent in
    let work : IsAtWork c.args.claims.now c.give_back-worker.result false =
    c.give_back-worker.ensures.at_work c.args.claims.now false
    (stays_on c.requires.at_work.working before c.args.worker.seen_roots c.requires.at_work.within c.requires.at_work.seen refl)
    c.requires.at_work.handed in
    record { working = work.working; handed = work.handed; within = work.within; seen = work.seen }
