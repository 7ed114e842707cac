-- The calls that stay inside groups.
use Rattle.std.specs.Prelude.{◌==◌, ℕ, List, [], length, map, slice_index, slice_index_or}
use Rattle.std.specs.List.{filter, range_with_len}

-- those of some nodes that have the place of this one
abbrev pub inner_nodes : List ℕ → ℕ → List ℕ → List ℕ
inner_nodes places p nodes = filter (λ q. slice_index places q == slice_index places p) nodes

-- each node with its successors in its own group, where `places` has the place of each node's group
abbrev pub inner_lists : List (List ℕ) → List ℕ → List (List ℕ)
inner_lists lists places = map (λ p. inner_nodes places p (slice_index_or lists p [])) (range_with_len 0 (length lists))
