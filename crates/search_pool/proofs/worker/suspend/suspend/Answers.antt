-- The search is good for what is released and apart from the kept ones, so it may be suspended, and what goes on is good.
use Rattle.std.proofs.Common.{true, false, ap, subst, sym}
use Rattle.list_laws.specs.Counts.{flat}
use Rattle.search_stack.specs.GoodSearch.{IsGood}
use Rattle.search_stack.specs.Search.{SearchValue}
use Rattle.graph_law.specs.Classes.{HasMember}
use Rattle.group_release.specs.Book.{GoesOnBeside, RunsBeside}
use Rattle.group_release.specs.Outline.{nodes_on}
use Rattle.group_release.specs.Released.{ReleasedGroups}
use Rattle.search_stack.proofs.Edges.{good_empty}
use Rattle.search_pool.specs.Working.{IsAtWork}
use Rattle.search_pool.proofs.worker.suspend.suspend.Goals as goal
use Rattle.search_pool.proofs.TurnLaws.{apart_kept, goes_on, good_in, good_released, is_turn_of, took_turn}
use Rattle.search_pool.proofs.TurnSuspending.{beside_good, may_keep, may_move, released_settled}

pub suspend-requires-clause-can_wait : goal.suspend-requires-clause-can_wait
suspend-requires-clause-can_wait g c =
    let took =
    took_turn c.turn-turn.result c.book-book.ensures.value c.turn-turn.ensures.table c.turn-turn.ensures.view c.turn-turn.ensures.taken
    c.turn-turn.ensures.lent in
    record {
      some = c.requires.some;
      wants_nothing = c.requires.at_work.working.wants_nothing;
      apart = apart_kept c.requires.at_work.working took;
      last = c.requires.elsewhere.last;
      off = c.requires.elsewhere.away;
    }

pub suspend-requires-clause-good : goal.suspend-requires-clause-good
suspend-requires-clause-good g c =
    let took =
    took_turn c.turn-turn.result c.book-book.ensures.value c.turn-turn.ensures.table c.turn-turn.ensures.view c.turn-turn.ensures.taken
    c.turn-turn.ensures.lent in
    good_in c.requires.at_work.working took

pub give_back-worker-requires-in-Ok-Kept : goal.give_back-worker-requires-in-Ok-Kept
give_back-worker-requires-in-Ok-Kept g c =
    let took =
    took_turn c.turn-turn.result c.book-book.ensures.value c.turn-turn.ensures.table c.turn-turn.ensures.view c.turn-turn.ensures.taken
    c.turn-turn.ensures.lent in
    may_keep c.requires.at_work.working took c.suspend.new.self c.args.node c.empty.result c.in-Ok-Kept.field-0 c.in-Ok-Kept.field-0-is c.in-Ok-Kept.ensures.only
    (ap (λ (s : SearchValue). nodes_on s.stack) c.empty.ensures) c.requires.elsewhere.held c.in-Ok-Kept.ensures.kept_count
    c.in-Ok-Kept.ensures.wanted_count

pub give_back-requires : goal.give_back-requires
give_back-requires g c =
    let took =
    took_turn c.turn-turn.result c.book-book.ensures.value c.turn-turn.ensures.table c.turn-turn.ensures.view c.turn-turn.ensures.taken
    c.turn-turn.ensures.lent in
    may_move c.requires.at_work.working took c.suspend.new.self c.args.node c.in-Ok-Moved.search c.in-Ok-Moved.field-0 c.in-Ok-Moved.field-0-is
    c.in-Ok-Moved.ensures.only c.in-Ok-Moved.ensures.kept_count c.in-Ok-Moved.ensures.wanted_count

pub returns-then-holds : goal.returns-then-holds
returns-then-holds g c =
    let took =
    took_turn c.turn-turn.result c.book-book.ensures.value c.turn-turn.ensures.table c.turn-turn.ensures.view c.turn-turn.ensures.taken
    c.turn-turn.ensures.lent in
    let has : HasMember c.book-book.result.now.groups c.args.node =
    subst (λ (r : ReleasedGroups). HasMember r.groups c.args.node) c.released.ensures (c.holds.ensures.0 c.if-holds.true) in
    released_settled c.args.worker.search c.back.new.self c.back.result c.args.node c.turn-turn.result.view.seen c.book-book.result.now.groups
    (c.give_back-worker.ensures.at_work c.args.claims.now true
    (goes_on c.requires.at_work.working took c.args.worker.seen_roots c.requires.at_work.within c.requires.at_work.seen
    c.requires.at_work.working.wants_nothing (good_released c.requires.at_work.working took)) c.requires.at_work.handed)
    c.give_back-worker.ensures.search c.give_back-worker.ensures.seen c.requires.elsewhere.away has c.back.ensures.on.0 c.back.ensures.unchanged
    c.back.ensures.good

pub returns-in-Ok-Kept : goal.returns-in-Ok-Kept
returns-in-Ok-Kept g c =
    let took =
    took_turn c.turn-turn.result c.book-book.ensures.value c.turn-turn.ensures.table c.turn-turn.ensures.view c.turn-turn.ensures.taken
    c.turn-turn.ensures.lent in
    let work : IsAtWork c.args.claims.now c.give_back-worker-in-Ok-Kept.result false =
    c.give_back-worker-in-Ok-Kept.ensures.at_work c.args.claims.now false
    (goes_on c.requires.at_work.working took c.args.worker.seen_roots c.requires.at_work.within c.requires.at_work.seen
    (ap (λ (s : SearchValue). s.wanted) c.empty.ensures)
    (subst (λ (s : SearchValue). IsGood c.args.claims.now.lists c.args.claims.now.roots (flat c.suspend.new.self.groups) false s.stack)
    (sym c.empty.ensures) (good_empty c.args.claims.now.lists c.args.claims.now.roots (flat c.suspend.new.self.groups) false)))
    c.requires.at_work.handed in
    record { working = work.working; handed = work.handed; within = work.within; seen = work.seen }

pub returns-in-Ok-Moved : goal.returns-in-Ok-Moved
returns-in-Ok-Moved g c =
    let took =
    took_turn c.turn-turn.result c.book-book.ensures.value c.turn-turn.ensures.table c.turn-turn.ensures.view c.turn-turn.ensures.taken
    c.turn-turn.ensures.lent in
    let beside : RunsBeside c.suspend.new.self c.in-Ok-Moved.search =
    subst (GoesOnBeside c.suspend.new.self) c.in-Ok-Moved.field-0-is c.in-Ok-Moved.ensures.beside in
    c.give_back.ensures.at_work c.args.claims.now false
    (goes_on c.requires.at_work.working took c.args.worker.seen_roots c.requires.at_work.within c.requires.at_work.seen beside.wants_nothing
    (beside_good c.requires.at_work.working took c.suspend.new.self c.in-Ok-Moved.search c.in-Ok-Moved.ensures.only beside))
    c.requires.at_work.handed

pub returns-then-has_failed : goal.returns-then-has_failed
returns-then-has_failed g c =
    let took =
    took_turn c.turn-turn.result c.book-book.ensures.value c.turn-turn.ensures.table c.turn-turn.ensures.view c.turn-turn.ensures.taken
    c.turn-turn.ensures.lent in
    c.stop.ensures c.args.claims.now (is_turn_of c.requires.at_work.working took)

pub returns-in-Err : goal.returns-in-Err
returns-in-Err g c =
    let took =
    took_turn c.turn-turn.result c.book-book.ensures.value c.turn-turn.ensures.table c.turn-turn.ensures.view c.turn-turn.ensures.taken
    c.turn-turn.ensures.lent in
    c.stop-in-Err.ensures c.args.claims.now (is_turn_of c.requires.at_work.working took)
