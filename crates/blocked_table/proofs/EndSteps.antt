-- The end of a transfer, and the slot of a search that is suspended.
use Rattle.std.proofs.Common.{vec_len, ◌≡◌, inl, inr, ℕ, ◌<◌, ◌≤◌, ◌+◌, List, [], ◌∷◌, ◌++◌, length, get_or, drop, set, Option, None, Some, ap, ◌∙◌, sym, subst, arith, add-one, drop-cons, get_or-set_same, get_or-set_other}
use Rattle.std.proofs.lemmas.Bool.{cases_eq, cases_lt}
use Rattle.std.proofs.lemmas.List.{drop_all, get_or_append_left, get_or_past, get_or_push, length_push}
use Rattle.search_stack.specs.Stack.{Stack, size, node}
use Rattle.search_stack.specs.Search.{SearchValue, IsGoodSearch, IsLastBegun, IsOn, joined, lowered}
use Rattle.std.proofs.lemmas.List.Elements.{Contains-push}
use Rattle.std.specs.Prelude.{Contains}
use Rattle.blocked_table.specs.declared.blocked.Blocked.TheInside.{Inside}
use Rattle.blocked_table.specs.Blocked.{BlockedValue, HasRoom, IsTable}
use Rattle.blocked_table.specs.BlockedFields.{IsBlocked, IsVacant, value_of}
use Rattle.blocked_table.specs.Kept.{ComesTo, Holds, kept_at}
use Rattle.blocked_table.specs.Suspending.{Adds, AreGood, CanWait, HasRoomFor}
use Rattle.blocked_table.specs.Transfer.{IsCutAway, ArePartsMoved, IsTransfer}
use Rattle.blocked_table.proofs.Along.{IsOnTheWay, cut_away, moved_along, new, shaped}
use Rattle.blocked_table.proofs.Chain.{some_is}
use Rattle.blocked_table.proofs.MovedSteps.{IsPartWay, way_of}
use Rattle.blocked_table.proofs.Rests.{on_low}

pub rest_drop : (xs : List ℕ) (i : ℕ) → i < length xs → drop i xs ≡ get_or xs i 0 ∷ drop (i + 1) xs
rest_drop xs i lt = rw (add-one, drop-cons xs i 0)

-- what was on the receiver still is
pub moved_on : {lists : List (List ℕ)} {roots done : List ℕ} (now : List (Option SearchValue)) (s : Stack) (v : ℕ) (cuts : List (ℕ × ℕ))
    (after : List (Option SearchValue)) (t : Stack) (end u : ℕ) → IsOnTheWay lists roots done now s v → ArePartsMoved now s v cuts after t end
    → IsOn s u → IsOn t u
moved_on now s v [] after t end u way moved on = subst (λ stack. IsOn stack u) (sym moved.1) on
moved_on now s v (cut ∷ cuts) after t end u way moved on =
    let away : IsCutAway now v cut = moved.0 in
    moved_on away.next (joined s away.donor.stack cut.1) away.wants cuts after t end u (cut_away cut way away) moved.1
    (on_low (shaped cut way away) (new cut way away) u on)

-- the edge at the end is treated as a back edge
pub transferred : {old now : List (Option SearchValue)} {s t after : Stack} {on node_now end spare : ℕ} (place : ℕ)
    → (way : IsPartWay old s on now t node_now [] end spare) → IsOn s end → place < size t → node t place ≡ node_now → after ≡ lowered t place
    → IsTransfer old now s on after
transferred {old} {now} {s} {t} {after} {on} {node_now} {end} {spare} place way back within is lowered_is = record {
  cuts = way.cuts;
  whole = t;
  end = end;
  moved = subst (λ u. ArePartsMoved old s on way.cuts now t u) way.path way.moved;
  back = back;
  place = place;
  within = within;
  is = is ∙ way.path;
  lowered = lowered_is;
}

-- what the steps of a transfer share: the way so far, with the next slot or at its end
module _ {old now : List (Option SearchValue)} {s t : Stack} {on node_now end spare : ℕ} (places : List ℕ) (i : ℕ) where
  pub part_next : i < length places → IsPartWay old s on now t node_now (drop i places) end spare
      → IsPartWay old s on now t node_now (get_or places i 0 ∷ drop (i + 1) places) end spare
  part_next lt part = subst (λ rest. IsPartWay old s on now t node_now rest end spare) (rest_drop places i lt) part

  pub part_end : length places ≤ i → IsPartWay old s on now t node_now (drop i places) end spare
      → IsPartWay old s on now t node_now [] end spare
  part_end past part = subst (λ rest. IsPartWay old s on now t node_now rest end spare) (drop_all i places past) part

module _ {value : BlockedValue} {lists : List (List ℕ)} {roots done : List ℕ} {search : SearchValue} {on : ℕ} (table : IsTable value)
    (can : CanWait value.kept search on) (good : AreGood lists roots done value.kept search.stack) {now : List (Option SearchValue)} {t : Stack}
    {node_now end spare : ℕ} where
  pub way_so_far : {rest : List ℕ} → IsPartWay value.kept search.stack on now t node_now rest end spare → IsOnTheWay lists roots done now t node_now
  way_so_far {rest} part =
      moved_along value.kept search.stack on part.cuts now t node_now (way_of table good can.last can.apart) part.moved

  pub end_on : IsPartWay value.kept search.stack on now t node_now [] end spare → IsOn search.stack end → IsOn t node_now
  end_on part back =
      subst (IsOn t) (sym part.path)
      (moved_on value.kept search.stack on part.cuts now t node_now end (way_of table good can.last can.apart) part.moved back)

-- with more capacity a search can wait as before
pub waits_still : {kept : List (Option SearchValue)} {old new : SearchValue} {on : ℕ} → CanWait kept old on → new.stack ≡ old.stack
    → new.wanted ≡ old.wanted → CanWait kept new on
waits_still {kept} {old} {new} {on} can stack_is wanted_is = record {
  some = omega (arith, can.some, ap size stack_is);
  wants_nothing = wanted_is ∙ can.wants_nothing;
  apart = subst (λ s. (place v : ℕ) → Holds kept place v → IsOn s v → ⊥) (sym stack_is) can.apart;
  last = subst (λ s. IsLastBegun s on) (sym stack_is) can.last;
  off = subst (λ s. IsOn s on → ⊥) (sym stack_is) can.off;
}

-- a search is put into a vacant slot, or into a new one

pub adds_at : (kept : List (Option SearchValue)) (place : ℕ) (search : SearchValue) → place < length kept → kept_at kept place ≡ None
    → Adds kept (set kept place (Some search)) place search
adds_at kept place search lt none = record {
  vacant = none;
  at = get_or-set_same kept place (Some search) None lt;
  same = λ i ne. get_or-set_other kept place i (Some search) None ne;
}

pub adds_last : (kept : List (Option SearchValue)) (place : ℕ) (search : SearchValue) → place ≡ length kept
    → Adds kept (kept ++ Some search ∷ []) place search
adds_last kept place search last = record {
  vacant = get_or_past kept place None (omega (arith, last));
  at = get_or_push kept (Some search) None place (sym last);
  same = λ i ne.
      elim (cases_lt i (length kept)) as (λ _. kept_at (kept ++ Some search ∷ []) i ≡ kept_at kept i) [
        | inl lt ↦ get_or_append_left kept (Some search ∷ []) None i lt
        | inr past ↦
            get_or_past (kept ++ Some search ∷ []) i None (omega (arith, past, ne, last, length_push kept (Some search)))
            ∙ sym (get_or_past kept i None past)
      ];
}

-- suspended searches keep their invariant if one more waits for what its last edge leads to
pub keep_good : {lists : List (List ℕ)} {roots done : List ℕ} {old after : List (Option SearchValue)} {place : ℕ} (search : SearchValue) (on : ℕ)
    → Adds old after place (record search { wanted = Some on }) → IsLastBegun search.stack on → AreGood lists roots done old search.stack
    → (i : ℕ) (one : SearchValue) → kept_at after i ≡ Some one → IsGoodSearch lists roots done one
keep_good {lists} {roots} {done} {old} {after} {place} search on adds last good i one at =
    elim (cases_eq i place) as (λ _. IsGoodSearch lists roots done one) [
      | inl is ↦
          let same : record search { wanted = Some on } ≡ one =
          some_is (record search { wanted = Some on }) one (sym adds.at ∙ ap (kept_at after) (sym is) ∙ at) in
          subst (IsGoodSearch lists roots done) same (record { good = good.good; wants = last })
      | inr ne ↦ good.kept_good i one (sym (adds.same i ne) ∙ at)
    ]

-- the last of the vacant slots
pub vacant_last : {fields : Inside} → IsBlocked fields → (rest : List ℕ) (p : ℕ) → fields.vacant.items ≡ rest ++ p ∷ []
    → IsVacant fields.kept.items p
vacant_last {fields} is rest p last = is.vacant.to p (subst (λ xs. Contains xs p) (sym last) (Contains-push rest p))

-- a search that has been told to wait, as `keep` puts it into a slot
pub record IsPut (fields : Inside) (after : SearchValue) (on : ℕ) : Type 0 where
  pub some : 0 < size after.stack
  pub wants : after.wanted ≡ Some on
  pub off : (i v : ℕ) → Holds fields.kept.items i v → IsOn after.stack v → ⊥
  pub below : (v : ℕ) → IsOn after.stack v → v < fields.count
  pub never : ComesTo fields.kept.items after.stack on → ⊥
  pub slot : HasRoom (value_of fields)

pub put_at : (fields : Inside) {value : BlockedValue} {search after : SearchValue} {on : ℕ} → value_of fields ≡ value
    → CanWait value.kept search on → HasRoomFor value search.stack on → (ComesTo value.kept search.stack on → ⊥)
    → after ≡ record search { wanted = Some on } → IsPut fields after on
put_at fields {value} {search} {after} {on} value_is can room never after_is =
    let stack_is : search.stack ≡ after.stack = sym (ap (λ (one : SearchValue). one.stack) after_is) in
    subst (λ s. IsPut fields (record { stack = s; wanted = after.wanted; spare = after.spare }) on) stack_is
    (record {
      some = can.some;
      wants = ap (λ (one : SearchValue). one.wanted) after_is;
      off =
          subst (λ (all : BlockedValue). (i v : ℕ) → Holds all.kept i v → IsOn search.stack v → ⊥) (sym value_is) can.apart;
      below = subst (λ (all : BlockedValue). (v : ℕ) → IsOn search.stack v → v < all.count) (sym value_is) room.below;
      never = subst (λ (all : BlockedValue). ComesTo all.kept search.stack on → ⊥) (sym value_is) never;
      slot = subst HasRoom (sym value_is) room.slot;
    })

-- if no slot is vacant, there is capacity for a new one
pub room_left : {fields : Inside} → IsBlocked fields → vec_len fields.vacant ≡ 0 → HasRoom (value_of fields) → length fields.kept.items < fields.most
room_left {fields} is none room =
    elim room as (λ _. length fields.kept.items < fields.most) [
      | inl lt ↦ lt
      | inr (place, within, vacant) ↦
          let member = is.vacant.from place (within, vacant) in
          let lt : member.0 < length fields.vacant.items = member.1 in
          absurd (omega (arith, lt, none, fields.vacant.ok.0))
    ]
