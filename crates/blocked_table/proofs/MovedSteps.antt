-- How a transfer goes along a path, one search after another.
use Rattle.std.proofs.Common.{◌≡◌, ℕ, suc, ◌<◌, ◌≤◌, ◌+◌, List, [], ◌∷◌, ◌++◌, length, get_or, Option, Some, refl, ap, ◌∙◌, sym, subst, arith}
use Rattle.search_stack.specs.Stack.{Stack, size}
use Rattle.search_stack.specs.Search.{SearchValue, IsCut, IsLastBegun, IsOn, joined}
use Rattle.blocked_table.specs.Blocked.{BlockedValue, IsTable}
use Rattle.blocked_table.specs.Kept.{kept_at, Holds}
use Rattle.blocked_table.specs.Paths.{StepsAt, IsWaitPath}
use Rattle.blocked_table.specs.Suspending.{AreGood, IsPartMoved, entries_at, entries_of, entries_on}
use Rattle.blocked_table.specs.Transfer.{IsCutAway, ArePartsMoved}
use Rattle.blocked_table.proofs.Along.{IsOnTheWay}

-- one more search is cut, at the end of the way so far
pub moved_more : (now : List (Option SearchValue)) (s : Stack) (v : ℕ) (cuts : List (ℕ × ℕ)) (middle : List (Option SearchValue)) (t : Stack) (x : ℕ)
    (cut : ℕ × ℕ) → ArePartsMoved now s v cuts middle t x → (away : IsCutAway middle x cut)
    → ArePartsMoved now s v (cuts ++ cut ∷ []) away.next (joined t away.donor.stack cut.1) away.wants
moved_more now s v [] middle t x cut moved away =
    let same_list : middle ≡ now = moved.0 in
    let first : IsCutAway now v cut =
    record {
      donor = away.donor;
      at = ap (λ kept. kept_at kept cut.0) (sym same_list) ∙ away.at;
      cut_is = subst (λ u. IsCut away.donor.stack u cut.1) moved.2 away.cut_is;
      wants = away.wants;
      wanted = away.wanted;
      next = away.next;
      left = away.left;
      same = λ i ne. away.same i ne ∙ ap (λ kept. kept_at kept i) same_list;
    } in
    (first, (refl, ap (λ stack. joined stack away.donor.stack cut.1) moved.1, refl))
moved_more now s v (one ∷ cuts) middle t x cut moved away =
    (moved.0, moved_more moved.0.next (joined s moved.0.donor.stack one.1) moved.0.wants cuts middle t x cut moved.1 away)

-- searches in other slots stay on the path
path_same : (now next : List (Option SearchValue)) (v : ℕ) (places : List ℕ) (w : ℕ)
    → ((i : ℕ) → i < length places → kept_at next (get_or places i 0) ≡ kept_at now (get_or places i 0)) → IsWaitPath now v places w → IsWaitPath next v places w
path_same now next v [] w same path = path
path_same now next v (p ∷ ps) w same path =
    let step : StepsAt now v p path.0 = path.1 in (
      path.0,
      record {
        holds = record { search = step.holds.search; at = same 0 (omega arith) ∙ step.holds.at; on = step.holds.on };
        wants = step.wants;
      },
      path_same now next path.0 ps w (λ i lt. same (suc i) (omega (arith, lt))) path.2,
    )

entries_same : (now next : List (Option SearchValue)) (places : List ℕ)
    → ((i : ℕ) → i < length places → kept_at next (get_or places i 0) ≡ kept_at now (get_or places i 0)) → entries_of next places ≡ entries_of now places
entries_same now next [] same = refl
entries_same now next (p ∷ ps) same =
    let here : entries_at next p ≡ entries_at now p = ap entries_on (same 0 (omega arith)) in
    omega (arith, here, entries_same now next ps (λ i lt. same (suc i) (omega (arith, lt))))

-- the way so far, the path that is left, and the capacity for what is on it
pub record IsPartWay (old : List (Option SearchValue)) (s : Stack) (on : ℕ) (now : List (Option SearchValue)) (t : Stack) (node : ℕ) (rest : List ℕ)
    (end spare : ℕ) : Type 0 where
  pub cuts : List (ℕ × ℕ)
  pub moved : ArePartsMoved old s on cuts now t node
  pub path : IsWaitPath now node rest end
  pub once : (i j : ℕ) → i < j → j < length rest → get_or rest i 0 ≡ get_or rest j 0 → ⊥
  pub room : entries_of now rest ≤ spare

pub part_start : (old : List (Option SearchValue)) (s : Stack) (on : ℕ) (places : List ℕ) (end spare : ℕ) → IsWaitPath old on places end
    → ((i j : ℕ) → i < j → j < length places → get_or places i 0 ≡ get_or places j 0 → ⊥) → entries_of old places ≤ spare
    → IsPartWay old s on old s on places end spare
part_start old s on places end spare path once room =
    record { cuts = []; moved = (refl, refl, refl); path = path; once = once; room = room }

pub part_more : {old now : List (Option SearchValue)} {s t : Stack} {on node end spare : ℕ} (place : ℕ) (rest : List ℕ)
    (new : List (Option SearchValue)) (after : Stack) (wants left : ℕ)
    → (was : IsPartWay old s on now t node (place ∷ rest) end spare) → IsPartMoved now new t after node place wants
    → ((donor : SearchValue) → kept_at now place ≡ Some donor → spare ≤ left + size donor.stack)
    → IsPartWay old s on new after wants rest end left
part_more {old} {now} {s} {t} {on} {node} {end} {spare} place rest new after wants left was part used =
    let away : IsCutAway now node (place, part.frame) = part.away in
    let moved : ArePartsMoved old s on (was.cuts ++ (place, part.frame) ∷ []) away.next (joined t away.donor.stack part.frame) away.wants =
    moved_more old s on was.cuts now t node (place, part.frame) was.moved away in
    let same : (i : ℕ) → i < length rest → kept_at new (get_or rest i 0) ≡ kept_at now (get_or rest i 0) = λ i lt.
    ap (λ kept. kept_at kept (get_or rest i 0)) (sym part.next_is)
    ∙ away.same (get_or rest i 0) (λ is. was.once 0 (suc i) (omega arith) (omega (arith, lt)) (sym is)) in
    let step : StepsAt now node place was.path.0 = was.path.1 in
    let one : away.donor ≡ step.holds.search = some_one (sym away.at ∙ step.holds.at) in
    let wanted : was.path.0 ≡ wants =
    some_number (sym step.wants ∙ sym (ap (λ (search : SearchValue). search.wanted) one) ∙ away.wanted) ∙ part.wants_is in
    let entries : entries_at now place ≡ size away.donor.stack = ap entries_on away.at in
    record {
      cuts = was.cuts ++ (place, part.frame) ∷ [];
      moved =
          subst (λ kept. ArePartsMoved old s on (was.cuts ++ (place, part.frame) ∷ []) kept after wants) part.next_is
          (subst (λ stack. ArePartsMoved old s on (was.cuts ++ (place, part.frame) ∷ []) away.next stack wants) (sym part.stack_is)
          (subst (λ u. ArePartsMoved old s on (was.cuts ++ (place, part.frame) ∷ []) away.next (joined t away.donor.stack part.frame) u) part.wants_is moved));
      path = path_same now new wants rest end same (subst (λ u. IsWaitPath now u rest end) wanted was.path.2);
      once = λ i j before lt is. was.once (suc i) (suc j) (omega (arith, before)) (omega (arith, lt)) is;
      room = omega (arith, was.room, entries, entries_same now new rest same, used away.donor away.at);
    }
  where
    some_one : {x y : SearchValue} → Some x ≡ Some y → x ≡ y
    some_one {x} {y} is = cc

    some_number : {x y : ℕ} → Some x ≡ Some y → x ≡ y
    some_number {x} {y} is = cc

-- what holds before a transfer
pub way_of : {value : BlockedValue} {lists : List (List ℕ)} {roots done : List ℕ} {s : Stack} {v : ℕ} → IsTable value
    → AreGood lists roots done value.kept s → IsLastBegun s v → ((place u : ℕ) → Holds value.kept place u → IsOn s u → ⊥)
    → IsOnTheWay lists roots done value.kept s v
way_of {value} {lists} {roots} {done} {s} {v} table good last off = record {
  apart = table.apart;
  ends = table.ends;
  off = off;
  last = last;
  good = good.good;
  kept = λ place search at. ((table.each place search at).distinct, good.kept_good place search at);
}

pub good_of : {lists : List (List ℕ)} {roots done : List ℕ} {kept : List (Option SearchValue)} {s : Stack} {v : ℕ}
    → IsOnTheWay lists roots done kept s v → AreGood lists roots done kept s
good_of way = record { good = way.good; kept_good = λ place search at. (way.kept place search at).1 }
