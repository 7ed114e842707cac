-- How the work that is left changes with one place, with one claimed node, and with what a release wakes.
use Rattle.std.proofs.Common.{◌≡◌, ℕ, zero, suc, ◌<◌, ◌≤◌, ◌+◌, Bool, true, false, List, [], ◌∷◌, length, get_or, set, Option, None, Some, refl, ap, arith, true≢false}
use Rattle.list_laws.specs.Counts.{total}
use Rattle.list_laws.proofs.Standing.{total_at, total_less}
use Rattle.search_stack.specs.Search.{SearchValue}
use Rattle.blocked_table.specs.Blocked.{IsTaken, IsWoken}
use Rattle.blocked_table.specs.Kept.{kept_at}
use Rattle.blocked_table.specs.Suspending.{Adds}
use Rattle.group_release.proofs.Waking.{WasKept, was_kept}
use Rattle.search_machine.specs.Events.{SetsAt}
use Rattle.search_machine.specs.Work.{kept_work, opening_work, running_work, stack_work, taking_work, unclaimed_work, waiting_work}

-- at one place
pub set_work : {old new : List (Option SearchValue)} {place : ℕ} {after : Option SearchValue} → SetsAt old new place after
    → total running_work new + running_work (kept_at old place) ≡ total running_work old + running_work after
set_work {old} {new} {place} {after} sets =
    let sums : total running_work new + running_work (kept_at old place) ≡ total running_work old + running_work (kept_at new place) =
    total_at running_work None refl old new place sets.same in
    let here : running_work (kept_at new place) ≡ running_work after = ap running_work sets.at in
    omega (arith, sums, here)

-- what a place wants
pub waiting_changes : (lists : List (List ℕ)) (old new : List (Option ℕ)) (place : ℕ)
    → ((i : ℕ) → (i ≡ place → ⊥) → get_or new i None ≡ get_or old i None)
    → total (waiting_work lists) new + waiting_work lists (get_or old place None)
    ≡ total (waiting_work lists) old + waiting_work lists (get_or new place None)
waiting_changes lists old new place same = total_at (waiting_work lists) None refl old new place same

-- a node is claimed
pub claimed_work : (claimed : List Bool) (lists : List (List ℕ)) (v : ℕ) → length claimed ≡ length lists → v < length lists
    → get_or claimed v false ≡ false
    → unclaimed_work (set claimed v true) lists + opening_work (get_or lists v []) ≡ unclaimed_work claimed lists
claimed_work claimed [] v each lt un = absurd (omega (arith, lt))
claimed_work [] (list ∷ lists) v each lt un = absurd (omega (arith, each))
claimed_work (true ∷ claimed) (list ∷ lists) zero each lt un = absurd (true≢false un)
claimed_work (false ∷ claimed) (list ∷ lists) zero each lt un = omega arith
claimed_work (mark ∷ claimed) (list ∷ lists) (suc v) each lt un =
    let rest = claimed_work claimed lists v (omega (arith, each)) (omega (arith, lt)) un in
    omega (arith, rest)

pub unmarked : (b : Bool) → (b ≡ true → ⊥) → b ≡ false
unmarked true isnt = absurd (isnt refl)
unmarked false isnt = refl

-- a search is kept, or leaves its place
pub added_work : {old new : List (Option SearchValue)} {place : ℕ} {search : SearchValue} → Adds old new place search
    → total kept_work new ≡ total kept_work old + kept_work (Some search)
added_work {old} {new} {place} {search} adds =
    let sums : total kept_work new + kept_work (kept_at old place) ≡ total kept_work old + kept_work (kept_at new place) =
    total_at kept_work None refl old new place adds.same in
    let was : kept_work (kept_at old place) ≡ 0 = ap kept_work adds.vacant in
    let here : kept_work (kept_at new place) ≡ kept_work (Some search) = ap kept_work adds.at in
    omega (arith, sums, was, here)

pub taken_work : {old new : List (Option SearchValue)} {search : SearchValue} → IsTaken old new search
    → total kept_work new + (stack_work search.stack + 1) ≡ total kept_work old
taken_work {old} {new} {search} taken =
    let sums : total kept_work new + kept_work (kept_at old taken.place) ≡ total kept_work old + kept_work (kept_at new taken.place) =
    total_at kept_work None refl old new taken.place taken.same in
    let was : kept_work (kept_at old taken.place) ≡ kept_work (Some search) = ap kept_work taken.at in
    let ready : taking_work search.wanted ≡ 1 = ap taking_work taken.wants_nothing in
    let here : kept_work (kept_at new taken.place) ≡ 0 = ap kept_work taken.vacant in
    omega (arith, sums, was, ready, here)

pub least_taking : (wanted : Option ℕ) → 1 ≤ taking_work wanted
least_taking None = omega arith
least_taking (Some w) = omega arith

pub most_taking : (wanted : Option ℕ) → taking_work wanted ≤ 2
most_taking None = omega arith
most_taking (Some w) = omega arith

-- a release leaves the kept searches no more work
module _ {group : List ℕ} {old new : List (Option SearchValue)} (woken : IsWoken group old new) where
  taking_less : (before after : Option ℕ) → ((w : ℕ) → after ≡ Some w → before ≡ Some w) → taking_work after ≤ taking_work before
  taking_less before None each = least_taking before
  taking_less before (Some w) each = let same : taking_work before ≡ 2 = ap taking_work (each w refl) in omega (arith, same)

  less_at : (i : ℕ) (o : Option SearchValue) → kept_at new i ≡ o → kept_work (kept_at new i) ≤ kept_work (kept_at old i)
  less_at i None at = let none : kept_work (kept_at new i) ≡ 0 = ap kept_work at in omega (arith, none)
  less_at i (Some after) at =
      let was : WasKept woken i after = was_kept woken i after at in
      let here : kept_work (kept_at new i) ≡ stack_work after.stack + taking_work after.wanted = ap kept_work at in
      let there : kept_work (kept_at old i) ≡ stack_work was.before.stack + taking_work was.before.wanted = ap kept_work was.at in
      let same : stack_work after.stack ≡ stack_work was.before.stack = ap stack_work was.stays.stack_is in
      let less = taking_less was.before.wanted after.wanted (λ w wants. (was.stays.wants w wants).0) in
      omega (arith, here, there, same, less)

  pub woken_work : total kept_work new ≤ total kept_work old
  woken_work = total_less kept_work None refl old new (λ i. less_at i (kept_at new i) refl)
