-- A suspended search that is cut, as the fields have it.
use Rattle.std.proofs.Common.{vec_len, vec_capacity, ◌≡◌, inl, inr, ℕ, ◌<◌, ◌≤◌, ◌+◌, ◌-◌, List, [], ◌∷◌, ◌++◌, length, get_or, set, nat_eq, Option, None, Some, ap, ◌∙◌, sym, subst, arith, ne_eqb, get_or-set_same, get_or-set_other, length-set}
use Rattle.std.proofs.lemmas.Bool.{cases_eq, cond-true, cond-false, eq-eqb}
use Rattle.search_stack.specs.Stack.{Stack, IsShaped, begun, height, position, size, target, top}
use Rattle.search_stack.specs.Search.{SearchValue, IsCut, IsLastBegun, IsMoved, IsOn, below_frame, last_begun}
use Rattle.search_stack.proofs.Steps.{keeps}
use Rattle.blocked_table.specs.Kept.{kept_at, Holds}
use Rattle.std.proofs.lemmas.List.{length_push}
use Rattle.blocked_table.specs.declared.blocked.Blocked.TheInside.{Inside}
use Rattle.blocked_table.specs.Blocked.{BlockedValue}
use Rattle.blocked_table.specs.BlockedFields.{AreWhole, IsBlocked, IsVacant, value_of}
use Rattle.blocked_table.specs.Listed.{AreJust}
use Rattle.blocked_table.specs.Paths.{StepsAt}
use Rattle.blocked_table.specs.Suspending.{AreGood, AreGoodForSome}
use Rattle.blocked_table.specs.Transfer.{IsCutAway}
use Rattle.blocked_table.proofs.FieldSteps.{read_kept}
use Rattle.blocked_table.proofs.Along.{IsOnTheWay}
use Rattle.blocked_table.proofs.Listed.{just_few}
use Rattle.blocked_table.proofs.Chain.{none_is_not, place_within, some_is}
use Rattle.blocked_table.proofs.MovedSteps.{way_of}

last_none : (r : Stack) → height r ≡ 0 → last_begun r ≡ None
last_none r none =
    cond-true (nat_eq (height r) 0) None (Some (target r (position r (top r)) (begun r (position r (top r)) - 1))) (eq-eqb (height r) 0 none)

last_some : (r : Stack) → 0 < height r → last_begun r ≡ Some (target r (position r (top r)) (begun r (position r (top r)) - 1))
last_some r some =
    cond-false (nat_eq (height r) 0) None (Some (target r (position r (top r)) (begun r (position r (top r)) - 1)))
    (ne_eqb (height r) 0 (λ none. omega (arith, none, some)))

-- something is left if and only if the rest waits for a node
pub left_some : {d r : Stack} {frame w : ℕ} → IsShaped d → frame < height d → r ≡ below_frame d frame → last_begun r ≡ Some w → 0 < frame
left_some {d} {r} {frame} {w} shaped within is wants =
    elim (cases_eq frame 0) as (λ _. 0 < frame) [
      | inr some ↦ omega (arith, some)
      | inl none ↦
          absurd
          (none_is_not w (last_begun r) (last_none r (ap height is ∙ (keeps d frame shaped within).height_is ∙ none)) wants)
    ]

pub left_none : {d r : Stack} {frame : ℕ} → IsShaped d → frame < height d → r ≡ below_frame d frame → last_begun r ≡ None → frame ≡ 0
left_none {d} {r} {frame} shaped within is none =
    elim (cases_eq frame 0) as (λ _. frame ≡ 0) [
      | inl is_zero ↦ is_zero
      | inr some ↦
          absurd
          (none_is_not (target r (position r (top r)) (begun r (position r (top r)) - 1)) (last_begun r) none
          (last_some r (omega (arith, some, ap height is, (keeps d frame shaped within).height_is))))
    ]

module _ (kept : List (Option SearchValue)) (place node frame wanted : ℕ) (donor : SearchValue) (at : kept_at kept place ≡ Some donor)
    (cut : IsCut donor.stack node frame) (wants : donor.wanted ≡ Some wanted) (shaped : IsShaped donor.stack) (gone : Option SearchValue) where
  -- the rest is put back
  abbrev pub away_some : (rest : SearchValue) (w : ℕ) → rest.stack ≡ below_frame donor.stack frame → rest.wanted ≡ last_begun rest.stack
      → rest.wanted ≡ Some w → IsCutAway kept node (place, frame)
  away_some rest w stack_is last is = record {
    donor = donor;
    at = at;
    cut_is = cut;
    wants = wanted;
    wanted = wants;
    next = set (set kept place gone) place (Some rest);
    left =
        inr (
          rest,
          get_or-set_same (set kept place gone) place (Some rest) None (omega (arith, place_within kept place donor at, length-set kept place gone)),
          stack_is,
          left_some shaped cut.within stack_is (sym last ∙ is),
          last,
        );
    same = λ i ne. get_or-set_other (set kept place gone) place i (Some rest) None ne ∙ get_or-set_other kept place i gone None ne;
  }

  -- nothing is left
  abbrev pub away_none : (rest : SearchValue) → gone ≡ None → rest.stack ≡ below_frame donor.stack frame → rest.wanted ≡ last_begun rest.stack
      → rest.wanted ≡ None → IsCutAway kept node (place, frame)
  away_none rest none stack_is last is = record {
    donor = donor;
    at = at;
    cut_is = cut;
    wants = wanted;
    wanted = wants;
    next = set kept place gone;
    left = inl (left_none shaped cut.within stack_is (sym last ∙ is), get_or-set_same kept place gone None (place_within kept place donor at) ∙ none);
    same = λ i ne. get_or-set_other kept place i gone None ne;
  }

-- the search that is read in the slot is the donor
pub record IsDonor (kept : List (Option SearchValue)) (node place : ℕ) (donor : SearchValue) : Type 0 where
  pub at : kept_at kept place ≡ Some donor
  pub on : IsOn donor.stack node
  pub wants : ℕ
  pub wanted : donor.wanted ≡ Some wants

pub donor_read : {kept : List (Option SearchValue)} {node place : ℕ} (x : ℕ) (read : Option SearchValue) (donor : SearchValue)
    → StepsAt kept node place x → read ≡ get_or kept place read → read ≡ Some donor → IsDonor kept node place donor
donor_read {kept} {node} {place} x read donor step here is =
    let at : kept_at kept place ≡ Some donor =
    read_kept kept place read (place_within kept place step.holds.search step.holds.at) here ∙ is in
    let same : step.holds.search ≡ donor = some_is step.holds.search donor (sym step.holds.at ∙ at) in
    record {
      at = at;
      on = subst (λ (search : SearchValue). IsOn search.stack node) same step.holds.on;
      wants = x;
      wanted = sym (ap (λ (search : SearchValue). search.wanted) same) ∙ step.wants;
    }

-- what the exits of `move_part` share: the donor that was read, and what holds before it is cut
pub record IsPart (fields : Inside) (s : Stack) (node place : ℕ) (donor : SearchValue) : Type 0 where
  pub donor_is : IsDonor fields.kept.items node place donor
  pub lists : List (List ℕ)
  pub roots : List ℕ
  pub done : List ℕ
  pub way : IsOnTheWay lists roots done fields.kept.items s node
  pub shaped : IsShaped donor.stack
  pub place_in : place < length fields.kept.items
  pub whole : AreWhole fields.count fields.most fields.holders.items fields.waiters
  -- the slot has a word
  pub word_in : place < length fields.waiters.words

pub part_at : {fields : Inside} {value : BlockedValue} {s : Stack} {node place : ℕ} {read : Option SearchValue} {donor : SearchValue}
    → value_of fields ≡ value → IsBlocked fields → (x : ℕ) × StepsAt value.kept node place x → IsLastBegun s node
    → ((i v : ℕ) → Holds value.kept i v → IsOn s v → ⊥) → AreGoodForSome value.kept s → read ≡ get_or fields.kept.items place read
    → read ≡ Some donor → IsPart fields s node place donor
part_at {fields} {value} {s} {node} {place} {read} {donor} value_is is step last apart good here some =
    let kept_is : value.kept ≡ fields.kept.items = sym (ap (λ (all : BlockedValue). all.kept) value_is) in
    let donor_is : IsDonor fields.kept.items node place donor =
    donor_read step.0 read donor (subst (λ kept. StepsAt kept node place step.0) kept_is step.1) here some in
    let all : AreGood good.lists good.roots good.done fields.kept.items s =
    subst (λ kept. AreGood good.lists good.roots good.done kept s) kept_is good.good in
    let lt : place < length fields.kept.items = place_within fields.kept.items place donor donor_is.at in
    let whole = is.whole (omega (arith, lt)) in
    record {
      donor_is = donor_is;
      lists = good.lists;
      roots = good.roots;
      done = good.done;
      way =
          way_of is.table all last
          (subst (λ (kept : List (Option SearchValue)). (i v : ℕ) → Holds kept i v → IsOn s v → ⊥) kept_is apart);
      shaped = (all.kept_good place donor donor_is.at).good.shaped;
      place_in = lt;
      whole = whole;
      word_in = omega (arith, lt, is.table.few, whole.places);
    }

-- the cut as it was made: nothing is left, or the rest is put back
module _ {fields : Inside} {s : Stack} {node place frame wanted : ℕ} {donor old new : SearchValue} (part : IsPart fields s node place donor)
    (cut : IsCut donor.stack node frame) (wants : donor.wanted ≡ Some wanted) (gone : Option SearchValue) (rest : SearchValue)
    (moved : IsMoved old new donor rest frame) where
  abbrev pub nothing_left : gone ≡ None → rest.wanted ≡ None → IsCutAway fields.kept.items node (place, frame)
  nothing_left none is =
      away_none fields.kept.items place node frame wanted donor part.donor_is.at cut wants part.shaped gone rest none moved.rest moved.rest_wants is

  abbrev pub rest_left : (w : ℕ) → rest.wanted ≡ Some w → IsCutAway fields.kept.items node (place, frame)
  rest_left w is =
      away_some fields.kept.items place node frame wanted donor part.donor_is.at cut wants part.shaped gone rest w moved.rest moved.rest_wants is

  -- no more capacity is used than for the donor
  pub spare_left : (one : SearchValue) → kept_at fields.kept.items place ≡ Some one → old.spare ≤ new.spare + size one.stack
  spare_left one at =
      let same : one ≡ donor = some_is one donor (sym at ∙ part.donor_is.at) in
      omega (arith, moved.spare, ap (λ (search : SearchValue). size search.stack) same)

  -- the rest is in the slot again, and there are as many slots as before
  pub rest_there : kept_at (set (set fields.kept.items place gone) place (Some rest)) place ≡ Some rest
  rest_there =
      get_or-set_same (set fields.kept.items place gone) place (Some rest) None (omega (arith, part.place_in, length-set fields.kept.items place gone))

  pub rest_length : length (set (set fields.kept.items place gone) place (Some rest)) ≡ length fields.kept.items
  rest_length = length-set (set fields.kept.items place gone) place (Some rest) ∙ length-set fields.kept.items place gone

-- there is capacity to mark one more slot as vacant
pub room_for : {fields : Inside} → IsBlocked fields → (new : List (Option SearchValue)) (p : ℕ)
    → AreJust (IsVacant new) (fields.vacant.items ++ p ∷ []) → length new ≡ length fields.kept.items
    → vec_len fields.vacant < vec_capacity fields.vacant
room_for {fields} is new p are same_length =
    let few : length (fields.vacant.items ++ p ∷ []) ≤ length new = just_few (fields.vacant.items ++ p ∷ []) (length new) are (λ place vacant. vacant.0) in
    omega (arith, few, length_push fields.vacant.items p, same_length, is.table.few, is.vacant_room, fields.vacant.ok.0)
