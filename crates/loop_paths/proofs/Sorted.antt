-- The nodes of a successor list, each once.
use Rattle.std.proofs.Common.{◌≡◌, ◌↔◌, ℕ, nat_eq, List, [], get_or, sym, subst}
use Rattle.std.specs.Prelude.{Contains}
use Rattle.graph_law.specs.Graph.{Calls}
use Rattle.std.specs.List.Retain.{IsFiltered, DiffersFromLast}
use Rattle.std.specs.List.Sorted.{IsSorted, IsPermutation, IsStrictlyIncreasing}
use Rattle.std.specs.Ordering.{nat_cmp}
use Rattle.std.proofs.lemmas.List.Filters.{dedup_is}
use Rattle.std.proofs.lemmas.List.Kept.{Contains-from_dedup, Contains-dedup_nat}
use Rattle.std.proofs.lemmas.List.Sorted.{Contains-permutation, IsPermutation-sym}
use Rattle.std.proofs.lemmas.Map.Keys.{IsStrictlyIncreasing-dedup}

-- the members of a successor list are the nodes that are called
pub as_calls : (lists : List (List ℕ)) (node : ℕ) (succs kept : List ℕ) → succs ≡ get_or lists node []
    → ((q : ℕ) → Contains kept q ↔ Contains succs q) → (q : ℕ) → Contains kept q ↔ Calls lists node q
as_calls lists node succs kept is same q =
    let P : List ℕ → Type 0 = λ each. Contains each q in (λ has. subst P is ((same q).0 has), λ call. (same q).1 (subst P (sym is) call))
