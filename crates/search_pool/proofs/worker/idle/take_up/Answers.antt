-- An idle worker has no node, so it may take a ready search, or go on with nothing.
use Rattle.std.proofs.Common.{◌≡◌, ◌≤◌, ◌∙◌, ℕ, List, length, false, ap, arith}
use Rattle.search_pool.specs.Working.{IsAtWork}
use Rattle.search_pool.proofs.worker.idle.take_up.Goals as goal
use Rattle.search_pool.proofs.TurnIdling.{are_roots, counted_on, finished, given_groups, may_take}
use Rattle.search_pool.proofs.TurnLaws.{goes_on, is_turn_of, roots_are, roots_released, stays_on, took_given, took_turn}
use Rattle.search_pool.proofs.TurnSuspending.{beside_good}

pub returns-then-has_failed : goal.returns-then-has_failed
returns-then-has_failed g c =
    let took =
    took_turn c.turn-turn.result c.book-book.ensures.value c.turn-turn.ensures.table c.turn-turn.ensures.view
    c.turn-turn.ensures.taken c.turn-turn.ensures.lent in
    c.stop.ensures c.args.claims.now (is_turn_of c.requires.at_work.working took)

pub give_back-requires : goal.give_back-requires
give_back-requires g c =
    let took =
    took_turn c.turn-turn.result c.book-book.ensures.value c.turn-turn.ensures.table c.turn-turn.ensures.view
    c.turn-turn.ensures.taken c.turn-turn.ensures.lent in
    may_take c.requires.at_work.working took c.take_ready.new.self c.in-Some.ready c.requires.idle c.in-Some.ensures.only
    c.in-Some.ensures.kept_count c.in-Some.ensures.wanted_count

pub returns-in-Some : goal.returns-in-Some
returns-in-Some g c =
    let took =
    took_turn c.turn-turn.result c.book-book.ensures.value c.turn-turn.ensures.table c.turn-turn.ensures.view
    c.turn-turn.ensures.taken c.turn-turn.ensures.lent in
    c.give_back.ensures.at_work c.args.claims.now false
    (goes_on c.requires.at_work.working took c.args.worker.seen_roots c.requires.at_work.within c.requires.at_work.seen
    c.in-Some.ensures.beside.wants_nothing
    (beside_good c.requires.at_work.working took c.take_ready.new.self c.in-Some.ready c.in-Some.ensures.only c.in-Some.ensures.beside))
    c.requires.at_work.handed

pub released_roots-seen_roots-requires-clause-before : goal.released_roots-seen_roots-requires-clause-before
released_roots-seen_roots-requires-clause-before g c =
    let took =
    took_given c.hand_out.new.book c.hand_out.ensures.only
    (took_turn c.turn-turn.result (c.in_default.ensures.unchanged ∙ c.book-book.ensures.value) c.turn-turn.ensures.table c.turn-turn.ensures.view
    c.turn-turn.ensures.taken c.turn-turn.ensures.lent) in
    roots_released c.requires.at_work.working took c.args.worker.seen_roots c.requires.at_work.seen

pub returns-then-all : goal.returns-then-all
returns-then-all g c =
    let before =
    took_turn c.turn-turn.result (c.in_default.ensures.unchanged ∙ c.book-book.ensures.value) c.turn-turn.ensures.table c.turn-turn.ensures.view
    c.turn-turn.ensures.taken c.turn-turn.ensures.lent in
    let took = took_given c.hand_out.new.book c.hand_out.ensures.only before in
    let on = counted_on c.requires.at_work.working took c.released_roots-seen_roots.result c.released_roots-seen_roots.ensures.within
    c.released_roots-seen_roots.ensures.released in
    let all : length c.args.claims.now.roots ≤ c.released_roots-seen_roots.result =
    (let same : length c.roots.result.now ≡ length c.args.claims.now.roots =
    ap (λ (roots : List ℕ). length roots) (c.roots.ensures ∙ roots_are c.requires.at_work.working took) in
    omega (arith, same, c.if-all.true)) in
    finished c.args.worker.search _ c.released_roots-seen_roots.result (c.give_back-worker.ensures.at_work c.args.claims.now false on
    (are_roots c.requires.at_work.working before c.take_ready.new.self.given c.hand_out.new.book.given c.hand_out.new.stretch.roots.items
    c.keeps.ensures.good c.in-Ok.ensures.handed))
    c.give_back-worker.ensures.search c.requires.idle c.give_back-worker.ensures.seen all on.roots

pub returns : goal.returns
returns g c =
    let before =
    took_turn c.turn-turn.result (c.in_default.ensures.unchanged ∙ c.book-book.ensures.value) c.turn-turn.ensures.table c.turn-turn.ensures.view
    c.turn-turn.ensures.taken c.turn-turn.ensures.lent in
    let took = took_given c.hand_out.new.book c.hand_out.ensures.only before in
    let on = counted_on c.requires.at_work.working took c.released_roots-seen_roots.result c.released_roots-seen_roots.ensures.within
    c.released_roots-seen_roots.ensures.released in
    let work : IsAtWork c.args.claims.now c.give_back-worker.result false = c.give_back-worker.ensures.at_work c.args.claims.now false on
    (are_roots c.requires.at_work.working before c.take_ready.new.self.given c.hand_out.new.book.given c.hand_out.new.stretch.roots.items
    c.keeps.ensures.good c.in-Ok.ensures.handed) in
    record { working = work.working; handed = work.handed; within = work.within; seen = work.seen }

pub returns-in_default-hand_out : goal.returns-in_default-hand_out
returns-in_default-hand_out g c =
    let before =
    took_turn c.turn-turn.result (c.in_default.ensures.unchanged ∙ c.book-book.ensures.value) c.turn-turn.ensures.table c.turn-turn.ensures.view
    c.turn-turn.ensures.taken c.turn-turn.ensures.lent in
    c.stop-in_default-hand_out.ensures c.args.claims.now
    (is_turn_of c.requires.at_work.working (took_given c.hand_out.new.book c.hand_out.ensures.only before))

pub returns-then-not-is_empty : goal.returns-then-not-is_empty
returns-then-not-is_empty g c =
    let before =
    took_turn c.turn-turn.result (c.in_default.ensures.unchanged ∙ c.book-book.ensures.value) c.turn-turn.ensures.table c.turn-turn.ensures.view
    c.turn-turn.ensures.taken c.turn-turn.ensures.lent in
    c.give_back-then-not-is_empty.ensures.at_work c.args.claims.now false
    (stays_on c.requires.at_work.working before c.args.worker.seen_roots c.requires.at_work.within c.requires.at_work.seen
    (given_groups c.take_ready.new.self c.hand_out.new.book c.hand_out.ensures.only))
    (are_roots c.requires.at_work.working before c.take_ready.new.self.given c.hand_out.new.book.given c.hand_out.new.stretch.roots.items
    c.keeps.ensures.good c.in-Ok.ensures.handed)
