-- Numbers that are sorted, each once.
use Rattle.std.proofs.Common.{◌≡◌, ◌↔◌, ℕ, nat_eq, List, [], sym, subst}
use Rattle.std.specs.Prelude.{Contains}
use Rattle.std.specs.List.Retain.{IsFiltered, DiffersFromLast}
use Rattle.std.specs.List.Sorted.{IsSorted, IsPermutation, IsStrictlyIncreasing}
use Rattle.std.specs.Ordering.{nat_cmp}
use Rattle.std.proofs.lemmas.List.Filters.{dedup_is}
use Rattle.std.proofs.lemmas.List.Kept.{Contains-from_dedup, Contains-dedup_nat}
use Rattle.std.proofs.lemmas.List.Sorted.{Contains-permutation, IsPermutation-sym}
use Rattle.std.proofs.lemmas.Map.Keys.{IsStrictlyIncreasing-dedup}

pub sorted_rises : (sorted kept : List ℕ) → IsSorted nat_cmp sorted → IsFiltered (DiffersFromLast nat_eq) [] sorted kept → IsStrictlyIncreasing kept
sorted_rises sorted kept in_order filtered =
    let is = dedup_is nat_eq sorted kept filtered in
    let P : List ℕ → Type 0 = λ xs. IsStrictlyIncreasing xs in
    subst P (sym is) (IsStrictlyIncreasing-dedup sorted in_order)

pub sorted_has : (xs sorted kept : List ℕ) (q : ℕ) → IsPermutation xs sorted → IsFiltered (DiffersFromLast nat_eq) [] sorted kept
    → Contains kept q ↔ Contains xs q
sorted_has xs sorted kept q moved filtered =
    let is = dedup_is nat_eq sorted kept filtered in
    let P : List ℕ → Type 0 = λ ys. Contains ys q in (
      λ has. Contains-permutation sorted xs q (IsPermutation-sym xs sorted moved) (Contains-from_dedup nat_eq sorted q (subst P is has)),
      λ has. subst P (sym is) (Contains-dedup_nat sorted q (Contains-permutation xs sorted q moved has)),
    )
