-- What a book keeps from call to call.
use Rattle.std.proofs.Common.{◌≡◌, ◌⊎◌, inl, inr, ℕ, ◌<◌, ◌≤◌, ◌+◌, Bool, true, false, List, [], ◌∷◌, length, Option, None, Some, is_some, Result, Ok, Err, refl, ap, ◌∙◌, sym, subst, arith}
use Rattle.std.proofs.lemmas.Bool.{cases_eq, cases_lt}
use Rattle.std.proofs.lemmas.List.Elements.{All-nil}
use Rattle.std.specs.Prelude.{All, IfOk, IfErr, IfSome, IfNone}
use Rattle.list_laws.specs.Counts.{times, flat}
use Rattle.graph_law.specs.Classes.{HasMember, IsClass}
use Rattle.graph_law.specs.Graph.{Calls, IsClosed}
use Rattle.search_stack.specs.Stack.{size}
use Rattle.search_stack.specs.GoodSearch.{IsGood}
use Rattle.search_stack.specs.Search.{SearchValue, IsOn}
use Rattle.blocked_table.specs.declared.suspended.Suspended.{Suspended}
use Rattle.blocked_table.specs.declared.suspended.Suspended.TheVariants.{Kept, Moved}
use Rattle.blocked_table.specs.Blocked.{BlockedValue, IsTable, IsTaken}
use Rattle.blocked_table.specs.Kept.{kept_at, Holds}
use Rattle.blocked_table.specs.Suspending.{Adds, AreGood, CanWait, HasRoomFor, IsSuspended, StaysGood}
use Rattle.blocked_table.specs.Transfer.{IsTransfer}
use Rattle.blocked_table.proofs.Chain.{none_is_not, some_is}
use Rattle.group_release.specs.declared.book.Book.TheInside.{Inside}
use Rattle.group_release.specs.Book.{BookValue, GoesOnBeside, IsGoodBook, RunsBeside, WantsOther, table_of}
use Rattle.group_release.specs.BookFields.{IsBook, value_of}
use Rattle.group_release.specs.Coding.{lists_from}
use Rattle.group_release.specs.Released.{ReleasedGroups}
use Rattle.group_release.specs.Outline.{kept_nodes, listed, newly_wanted, nodes_going, nodes_of, nodes_on, wanted_nodes, wants_of}
use Rattle.group_release.proofs.Beside.{last_below, none_released, on_within}
use Rattle.group_release.proofs.Gathering.{IsGathering, gathered}
use Rattle.group_release.proofs.KeptCounts.{at_wanted, kept_change, wanted_at, wanted_change}
use Rattle.group_release.proofs.Nodes.{lowered_nodes, lowered_on, lowered_size, on_counted}
use Rattle.group_release.proofs.Room.{always_room}

-- a table of the same size
pub same_size : (before after : BlockedValue) (n : ℕ) → before ≡ record { count = n; most = n; kept = before.kept }
    → after ≡ record before { kept = after.kept } → after ≡ record { count = n; most = n; kept = after.kept }
same_size before after n was only = only ∙ ap (λ (value : BlockedValue). record value { kept = after.kept }) was

pub table_changes : (fields : Inside) (after : BlockedValue) → IsBook fields → after ≡ record fields.blocked { kept = after.kept }
    → IsGoodBook (record (value_of fields) { kept = after.kept }) → IsBook (record fields { blocked = after })
table_changes fields after is only good = record {
  table = same_size fields.blocked after (length (value_of fields).lists) is.table only;
  groups = is.groups;
  good = good;
}

-- the mark is nothing that the searches and groups rest on
pub failed_good : {book : BookValue} (failed : Bool) → IsGoodBook book → IsGoodBook (record book { failed = failed })
failed_good failed good = record {
  closed = good.closed;
  rooted = good.rooted;
  given = good.given;
  kept_good = good.kept_good;
  wants = λ place w search at wanted. let was = good.wants place w search at wanted in record { unreleased = was.unreleased; off = was.off };
  unreleased = good.unreleased;
  legal = good.legal;
  reached = good.reached;
}

pub marked_book : {fields : Inside} (failed : Bool) → IsBook fields → IsBook (record fields { failed = failed })
marked_book failed is = record { table = is.table; groups = is.groups; good = failed_good failed is.good }

pub beside_marked : (book : BookValue) (failed : Bool) (suspended : Suspended) → GoesOnBeside book suspended
    → GoesOnBeside (record book { failed = failed }) suspended
beside_marked book failed Kept is = tt
beside_marked book failed (Moved after) is =
    record { some = is.some; wants_nothing = is.wants_nothing; good = is.good; apart = is.apart; unreleased = is.unreleased }

-- what holds of an answer that is `Ok`
pub ok_more : {A E : Type 0} (result : Result A E) (F G : A → Type 0) → ((value : A) → F value → G value) → IfOk result F → IfOk result G
ok_more (Ok value) F G each is = each value is
ok_more (Err error) F G each is = tt

-- what `suspend` asks
pub record MaySuspend (book : BookValue) (search : SearchValue) (on : ℕ) : Type 0 where
  pub can_wait : CanWait book.kept search on
  pub unreleased : HasMember book.groups on → ⊥
  pub good : IsGood book.lists book.roots (flat book.groups) true search.stack

-- the table of a book has room for it
pub room_for : {fields : Inside} {search : SearchValue} {on : ℕ} → IsBook fields → IsTable (table_of (value_of fields))
    → CanWait (value_of fields).kept search on → IsGood (value_of fields).lists (value_of fields).roots (flat (value_of fields).groups) true search.stack
    → HasRoomFor fields.blocked search.stack on
room_for {fields} {search} {on} is table can good =
    let book : BookValue = value_of fields in
    let below : (v : ℕ) → IsOn search.stack v → v < length book.lists = on_within book.lists book.roots is.good.closed is.good.rooted good in
    subst (λ value. HasRoomFor value search.stack on) (sym is.table) (record {
      slot = always_room (table_of book) table refl search.stack can.some below can.apart;
      below = below;
      on_below = last_below good can.last is.good.closed;
    })

-- and what it leaves
pub record IsWellSuspended (book : BookValue) (new : List (Option SearchValue)) (search : SearchValue) (on : ℕ) (suspended : Suspended) : Type 0 where
  pub good : IsGoodBook (record book { kept = new })
  pub beside : GoesOnBeside (record book { kept = new }) suspended
  pub kept_count : (x : ℕ) → times x (kept_nodes new) + times x (nodes_going suspended) ≡ times x (kept_nodes book.kept) + times x (nodes_on search.stack)
  pub wanted_count : (x : ℕ) → 0 < times x (wanted_nodes new) → (0 < times x (wanted_nodes book.kept)) ⊎ (0 < times x (newly_wanted on suspended))

module _ {book : BookValue} {search : SearchValue} {on count most : ℕ} (good : IsGoodBook book)
    (table : IsTable (record { count = count; most = most; kept = book.kept })) (may : MaySuspend book search on) where
  -- no node of the search is released
  pub none_out : (v : ℕ) → IsOn search.stack v → HasMember book.groups v → ⊥
  none_out = none_released may.good may.can_wait.last good.legal may.unreleased

  abbrev all_counted : ℕ → ℕ
  all_counted x = times x (kept_nodes book.kept) + times x (nodes_on search.stack)

  start : IsGathering book.lists book.roots (flat book.groups) (HasMember book.groups) (λ w. 0 < times w (wanted_nodes book.kept)) all_counted book.kept
      search.stack on
  start = record {
    way = record {
      apart = table.apart;
      ends = table.ends;
      off = may.can_wait.apart;
      last = may.can_wait.last;
      good = may.good;
      kept = λ place one at. ((table.each place one at).distinct, good.kept_good place one at);
    };
    some = may.can_wait.some;
    kept_off = good.unreleased;
    stack_off = none_out;
    wants = λ place w one at wanted.
        let was : WantsOther book one w = good.wants place w one at wanted in
        record {
          unreleased = was.unreleased;
          off = was.off;
          either = inl (at_wanted book.kept w (record { place = place; search = one; at = at; wants = wanted }));
        };
    counted = λ x. refl;
  }

  module _ (new : List (Option SearchValue)) (place : ℕ) (adds : Adds book.kept new place (record search { wanted = Some on }))
      (stays : StaysGood book.lists book.roots (flat book.groups) new Kept) where
    one_more : (i : ℕ) (one : SearchValue) → kept_at new i ≡ Some one
        → ((i ≡ place) × (record search { wanted = Some on } ≡ one)) ⊎ (kept_at book.kept i ≡ Some one)
    one_more i one at =
        elim (cases_eq i place) as (λ _. ((i ≡ place) × (record search { wanted = Some on } ≡ one)) ⊎ (kept_at book.kept i ≡ Some one)) [
          | inl is ↦ inl (is, some_is (record search { wanted = Some on }) one (sym adds.at ∙ sym (ap (kept_at new) is) ∙ at))
          | inr ne ↦ inr (sym (adds.same i ne) ∙ at)
        ]

    kept_good : IsGoodBook (record book { kept = new })
    kept_good = record {
      closed = good.closed;
      rooted = good.rooted;
      given = good.given;
      kept_good = stays;
      wants = λ i w one at wanted.
          elim (one_more i one at) as (λ _. WantsOther (record book { kept = new }) one w) [
            | inl (here, is) ↦
                let same : on ≡ w = some_is on w (ap (λ (value : SearchValue). value.wanted) is ∙ wanted) in
                let stack_is : search.stack ≡ one.stack = ap (λ (value : SearchValue). value.stack) is in
                record {
                  unreleased = subst (λ u. HasMember book.groups u → ⊥) same may.unreleased;
                  off = subst (λ u. IsOn one.stack u → ⊥) same (subst (λ s. IsOn s on → ⊥) stack_is may.can_wait.off);
                }
            | inr old ↦
                let was : WantsOther book one w = good.wants i w one old wanted in
                record { unreleased = was.unreleased; off = was.off }
          ];
      unreleased = λ i v holds has.
          elim (one_more i holds.search holds.at) as (λ _. ⊥) [
            | inl (here, is) ↦ none_out v (subst (λ s. IsOn s v) (sym (ap (λ (value : SearchValue). value.stack) is)) holds.on) has
            | inr old ↦ good.unreleased i v (record { search = holds.search; at = old; on = holds.on }) has
          ];
      legal = good.legal;
      reached = good.reached;
    }

    pub kept_well : IsWellSuspended book new search on Kept
    kept_well = record {
      good = kept_good;
      beside = tt;
      kept_count = λ x.
          let none : times x (nodes_of (kept_at book.kept place)) ≡ 0 = ap (λ o. times x (nodes_of o)) adds.vacant in
          let here : times x (nodes_of (kept_at new place)) ≡ times x (nodes_on search.stack) = ap (λ o. times x (nodes_of o)) adds.at in
          omega (arith, kept_change x book.kept new place adds.same, none, here);
      wanted_count = λ x some.
          let none : times x (wants_of (kept_at book.kept place)) ≡ 0 = ap (λ o. times x (wants_of o)) adds.vacant in
          let here : times x (wants_of (kept_at new place)) ≡ times x (on ∷ []) = ap (λ o. times x (wants_of o)) adds.at in
          let sum = wanted_change x book.kept new place adds.same in
          elim (cases_lt 0 (times x (wanted_nodes book.kept))) as (λ _. (0 < times x (wanted_nodes book.kept)) ⊎ (0 < times x (on ∷ []))) [
            | inl before ↦ inl before
            | inr never ↦ inr (omega (arith, never, some, sum, none, here))
          ];
    }

  module _ (new : List (Option SearchValue)) (after : SearchValue) (transfer : IsTransfer book.kept new search.stack on after.stack)
      (wants_nothing : after.wanted ≡ None) (stays : StaysGood book.lists book.roots (flat book.groups) new (Moved after)) where
    end : IsGathering book.lists book.roots (flat book.groups) (HasMember book.groups) (λ w. 0 < times w (wanted_nodes book.kept)) all_counted new
        transfer.whole transfer.end
    end = gathered book.kept search.stack on transfer.cuts new transfer.whole transfer.end start transfer.moved

    on_whole : (v : ℕ) → IsOn after.stack v → IsOn transfer.whole v
    on_whole v at = lowered_on transfer.whole transfer.place v (subst (λ s. IsOn s v) transfer.lowered at)

    same_nodes : (x : ℕ) → times x (nodes_on after.stack) ≡ times x (nodes_on transfer.whole)
    same_nodes x = ap (λ s. times x (nodes_on s)) transfer.lowered ∙ ap (times x) (lowered_nodes transfer.whole transfer.place)

    pub moved_well : IsWellSuspended book new search on (Moved after)
    moved_well = record {
      good =
          record {
            closed = good.closed;
            rooted = good.rooted;
            given = good.given;
            kept_good = stays.0;
            wants = λ place w one at wanted.
                let is = end.wants place w one at wanted in
                record { unreleased = is.unreleased; off = is.off };
            unreleased = end.kept_off;
            legal = good.legal;
            reached = good.reached;
          };
      beside =
          record {
            some = omega (arith, end.some, ap size transfer.lowered, lowered_size transfer.whole transfer.place);
            wants_nothing = wants_nothing;
            good = stays.1;
            apart = λ place v holds at. end.way.off place v holds (on_whole v at);
            unreleased = λ v at has. end.stack_off v (on_whole v at) has;
          };
      kept_count = λ x. omega (arith, end.counted x, same_nodes x);
      wanted_count = λ x some.
          let at = wanted_at new x some in
          elim (end.wants at.place x at.search at.at at.wants).either as
          (λ _. (0 < times x (wanted_nodes book.kept)) ⊎ (0 < times x (nodes_on after.stack))) [
            | inl before ↦ inl before
            | inr there ↦ inr (omega (arith, on_counted transfer.whole x there, same_nodes x))
          ];
    }

  pub suspended_well : (new : List (Option SearchValue)) (suspended : Suspended) → IsSuspended book.kept new search on suspended
      → StaysGood book.lists book.roots (flat book.groups) new suspended → IsWellSuspended book new search on suspended
  suspended_well new Kept is stays = kept_well new is.1.0 is.1.1 stays
  suspended_well new (Moved after) is stays = moved_well new after is.1 is.2 stays

  pub ok_well : {E : Type 0} (new : List (Option SearchValue)) (result : Result Suspended E) → IfOk result (IsSuspended book.kept new search on)
      → IfOk result (λ suspended. (lists : List (List ℕ)) (roots done : List ℕ) → AreGood lists roots done book.kept search.stack
      → StaysGood lists roots done new suspended)
      → IfOk result (IsWellSuspended book new search on)
  ok_well new (Ok suspended) is stays =
      suspended_well new suspended is
      (stays book.lists book.roots (flat book.groups) (record { good = may.good; kept_good = good.kept_good }))
  ok_well new (Err error) is stays = tt

-- so it is after each call that `suspend` allows
pub well_suspended : {fields : Inside} {now : BookValue} {search : SearchValue} {on : ℕ} {E : Type 0} (new : List (Option SearchValue))
    (result : Result Suspended E) → value_of fields ≡ now → IsBook fields → IsTable (table_of now) → CanWait now.kept search on
    → (HasMember now.groups on → ⊥) → IsGood now.lists now.roots (flat now.groups) true search.stack
    → IfOk result (IsSuspended fields.blocked.kept new search on)
    → IfOk result (λ suspended. (lists : List (List ℕ)) (roots done : List ℕ) → AreGood lists roots done fields.blocked.kept search.stack
    → StaysGood lists roots done new suspended)
    → IfOk result (IsWellSuspended (value_of fields) new search on)
well_suspended {fields} {now} {search} {on} {E} new result now_is is table can unreleased good done stays =
    let may : MaySuspend (value_of fields) search on =
    subst (λ value. MaySuspend value search on) (sym now_is) (record { can_wait = can; unreleased = unreleased; good = good }) in
    ok_well is.good (subst (λ value. IsTable (table_of value)) (sym now_is) table) may new result done stays

-- whatever the mark is
pub suspended_book : {E : Type 0} (fields : Inside) (after : BlockedValue) (failed : Bool) (search : SearchValue) (on : ℕ) (result : Result Suspended E)
    → IsBook fields → after ≡ record fields.blocked { kept = after.kept }
    → IfOk result (IsWellSuspended (value_of fields) after.kept search on) → IfErr result (λ error. after ≡ fields.blocked)
    → IsBook (record fields { failed = failed; blocked = after })
suspended_book fields after failed search on (Ok suspended) is only well same =
    marked_book failed (table_changes fields after is only well.good)
suspended_book fields after failed search on (Err error) is only well same =
    marked_book failed (subst (λ table. IsBook (record fields { blocked = table })) (sym same) is)

-- a ready search is taken
pub record IsWellTaken (book : BookValue) (new : List (Option SearchValue)) (search : SearchValue) : Type 0 where
  pub good : IsGoodBook (record book { kept = new })
  pub beside : RunsBeside (record book { kept = new }) search
  pub kept_count : (x : ℕ) → times x (kept_nodes new) + times x (nodes_on search.stack) ≡ times x (kept_nodes book.kept)
  pub wanted_count : (x : ℕ) → times x (wanted_nodes new) ≡ times x (wanted_nodes book.kept)

module _ {book : BookValue} {new : List (Option SearchValue)} {search : SearchValue} {count most : ℕ} (good : IsGoodBook book)
    (table : IsTable (record { count = count; most = most; kept = book.kept })) (taken : IsTaken book.kept new search) where
  was_there : (i : ℕ) (one : SearchValue) → kept_at new i ≡ Some one → kept_at book.kept i ≡ Some one
  was_there i one at =
      elim (cases_eq i taken.place) as (λ _. kept_at book.kept i ≡ Some one) [
        | inl is ↦ absurd (none_is_not one (kept_at new i) (ap (kept_at new) is ∙ taken.vacant) at)
        | inr ne ↦ sym (taken.same i ne) ∙ at
      ]

  held : (v : ℕ) → IsOn search.stack v → Holds book.kept taken.place v
  held v at = record { search = search; at = taken.at; on = at }

  pub taken_well : IsWellTaken book new search
  taken_well = record {
    good =
        record {
          closed = good.closed;
          rooted = good.rooted;
          given = good.given;
          kept_good = λ i one at. good.kept_good i one (was_there i one at);
          wants = λ i w one at wanted.
              let was : WantsOther book one w = good.wants i w one (was_there i one at) wanted in
              record { unreleased = was.unreleased; off = was.off };
          unreleased = λ i v holds.
              good.unreleased i v (record { search = holds.search; at = was_there i holds.search holds.at; on = holds.on });
          legal = good.legal;
          reached = good.reached;
        };
    beside =
        record {
          some = (table.each taken.place search taken.at).some;
          wants_nothing = taken.wants_nothing;
          good =
              subst (λ o. IsGood book.lists book.roots (flat book.groups) (is_some o) search.stack) taken.wants_nothing
              (good.kept_good taken.place search taken.at).good;
          apart = λ i v holds at.
              let before : Holds book.kept i v = record { search = holds.search; at = was_there i holds.search holds.at; on = holds.on } in
              let is : i ≡ taken.place = table.apart i taken.place v before (held v at) in
              none_is_not holds.search (kept_at new i) (ap (kept_at new) is ∙ taken.vacant) holds.at;
          unreleased = λ v at. good.unreleased taken.place v (held v at);
        };
    kept_count = λ x.
        let here : times x (nodes_of (kept_at book.kept taken.place)) ≡ times x (nodes_on search.stack) = ap (λ o. times x (nodes_of o)) taken.at in
        let none : times x (nodes_of (kept_at new taken.place)) ≡ 0 = ap (λ o. times x (nodes_of o)) taken.vacant in
        omega (arith, kept_change x book.kept new taken.place taken.same, here, none);
    wanted_count = λ x.
        let wants : wants_of (Some search) ≡ [] = ap listed taken.wants_nothing in
        let here : times x (wants_of (kept_at book.kept taken.place)) ≡ 0 = ap (λ o. times x (wants_of o)) taken.at ∙ ap (times x) wants in
        let none : times x (wants_of (kept_at new taken.place)) ≡ 0 = ap (λ o. times x (wants_of o)) taken.vacant in
        omega (arith, wanted_change x book.kept new taken.place taken.same, here, none);
  }

pub some_more : {A : Type 0} (result : Option A) (F G : A → Type 0) → ((value : A) → F value → G value) → IfSome result F → IfSome result G
some_more None F G each is = tt
some_more (Some value) F G each is = each value is

pub some_well : {book : BookValue} {count most : ℕ} → IsGoodBook book → IsTable (record { count = count; most = most; kept = book.kept }) → (new : List (Option SearchValue)) (result : Option SearchValue)
    → IfSome result (IsTaken book.kept new) → IfSome result (IsWellTaken book new)
some_well good table new None is = tt
some_well good table new (Some search) is = taken_well good table is

pub taken_book : (fields : Inside) (after : BlockedValue) (result : Option SearchValue) → IsBook fields
    → after ≡ record fields.blocked { kept = after.kept } → IfSome result (IsWellTaken (value_of fields) after.kept) → IfNone result (after ≡ fields.blocked)
    → IsBook (record fields { blocked = after })
taken_book fields after None is only well same = subst (λ table. IsBook (record fields { blocked = table })) (sym same) is
taken_book fields after (Some search) is only well same = table_changes fields after is only well.good

pub taken_wants : (fields : Inside) (after : BlockedValue) (result : Option SearchValue) → IfSome result (IsWellTaken (value_of fields) after.kept)
    → IfNone result (after ≡ fields.blocked) → (x : ℕ) → times x (wanted_nodes after.kept) ≡ times x (wanted_nodes fields.blocked.kept)
taken_wants fields after None well same x = ap (λ (value : BlockedValue). times x (wanted_nodes value.kept)) same
taken_wants fields after (Some search) well same x = well.wanted_count x

-- nor is how many roots were given out
pub given_good : {book : BookValue} (given : ℕ) → IsGoodBook book → given ≤ length book.roots → IsGoodBook (record book { given = given })
given_good given good within = record {
  closed = good.closed;
  rooted = good.rooted;
  given = within;
  kept_good = good.kept_good;
  wants = λ place w search at wanted. let was = good.wants place w search at wanted in record { unreleased = was.unreleased; off = was.off };
  unreleased = good.unreleased;
  legal = good.legal;
  reached = good.reached;
}

-- nothing is kept and nothing released at first
pub first_good : (lists : List (List ℕ)) (roots : List ℕ) → IsClosed lists → All (λ root. root < length lists) roots
    → IsGoodBook (record { lists = lists; roots = roots; given = 0; failed = false; kept = []; groups = [] })
first_good lists roots closed rooted = record {
  closed = closed;
  rooted = rooted;
  given = omega arith;
  kept_good = λ place search at. absurd (none_is_not search None refl at);
  wants = λ place w search at wanted. absurd (none_is_not search None refl at);
  unreleased = λ place v holds has. none_is_not holds.search None refl holds.at;
  legal = record {
    each = All-nil (IsClass (Calls lists));
    once = λ i j p within. absurd (omega (arith, within));
    callees_first = λ i p q within. absurd (omega (arith, within));
  };
  reached = λ v has. absurd (omega (arith, has.within));
}

-- a new book
pub made_value : (fields : Inside) (lists : List (List ℕ)) (roots : List ℕ) (count : ℕ) → lists_from fields.lists.numbers ≡ lists
    → fields.roots.items ≡ roots → fields.given ≡ 0 → fields.failed ≡ false → fields.blocked ≡ record { count = count; most = count; kept = [] }
    → fields.released ≡ record { count = count; groups = [] }
    → value_of fields ≡ record { lists = lists; roots = roots; given = 0; failed = false; kept = []; groups = [] }
made_value fields lists roots count lists_are roots_are given failed blocked released =
    let kept : fields.blocked.kept ≡ [] = ap (λ (value : BlockedValue). value.kept) blocked in
    let groups : fields.released.groups ≡ [] = ap (λ (value : ReleasedGroups). value.groups) released in
    λ i. record { lists = lists_are i; roots = roots_are i; given = given i; failed = failed i; kept = kept i; groups = groups i }

pub made_book : (fields : Inside) (lists : List (List ℕ)) (roots : List ℕ) (count : ℕ) → lists_from fields.lists.numbers ≡ lists
    → fields.roots.items ≡ roots → fields.given ≡ 0 → fields.failed ≡ false → fields.blocked ≡ record { count = count; most = count; kept = [] }
    → fields.released ≡ record { count = count; groups = [] } → count ≡ length lists → IsClosed lists → All (λ root. root < length lists) roots
    → IsBook fields
made_book fields lists roots count lists_are roots_are given failed blocked released counted closed rooted =
    let kept : [] ≡ fields.blocked.kept = sym (ap (λ (value : BlockedValue). value.kept) blocked) in
    let groups : [] ≡ fields.released.groups = sym (ap (λ (value : ReleasedGroups). value.groups) released) in
    let long : count ≡ length (lists_from fields.lists.numbers) = counted ∙ ap length (sym lists_are) in
    record {
      table = blocked ∙ (λ i. record { count = long i; most = long i; kept = kept i });
      groups = released ∙ (λ i. record { count = long i; groups = groups i });
      good =
          subst IsGoodBook (sym (made_value fields lists roots count lists_are roots_are given failed blocked released))
          (first_good lists roots closed rooted);
    }
