-- How a path is read from its last node back to its first.
use Rattle.std.proofs.Common.{◌≡◌, ℕ, ◌<◌, ◌≤◌, List, [], ◌∷◌, ◌++◌, length, get_or, reverse, refl, sym, ap, ◌∙◌, arith}
use Rattle.std.proofs.lemmas.List.{append_assoc, get_or_default, reverse-append}
use Rattle.graph_law.specs.Graph.{Calls}
use Rattle.loop_paths.specs.Grown.{IsTree, path_at}

-- the path to the place is the path to this one, and then the nodes that were read, last first
pub record IsClimbing (nodes callers : List ℕ) (place at : ℕ) (out : List ℕ) : Type 0 where
  pub upto : at ≤ place
  pub on : (lists : List (List ℕ)) (from : ℕ) (paths : List (List ℕ)) → IsTree (Calls lists) from nodes callers paths
      → path_at paths place ≡ path_at paths at ++ reverse out

reverse_push : (out : List ℕ) (n : ℕ) → reverse (out ++ n ∷ []) ≡ n ∷ reverse out
reverse_push out n = reverse-append out (n ∷ [])

pub climbing_more : (lists : List (List ℕ)) (from : ℕ) (paths : List (List ℕ)) (nodes callers : List ℕ) (place at next node : ℕ) (out : List ℕ)
    → IsTree (Calls lists) from nodes callers paths → place < length nodes → (at ≡ 0 → ⊥)
    → node ≡ get_or nodes at 0 → next ≡ get_or callers at 0
    → IsClimbing nodes callers place at out → IsClimbing nodes callers place next (out ++ node ∷ [])
climbing_more some_lists some_from some_paths nodes callers place at next node out some within not_first node_is next_is climbing =
    let upto : at ≤ place = climbing.upto in
    let lt : get_or callers at 0 < at = some.before at (omega (arith, not_first)) (omega (arith, upto, within)) in
    record {
      upto = omega (arith, upto, lt, next_is);
      on = λ lists from paths tree.
          let step : path_at paths at ≡ path_at paths (get_or callers at 0) ++ get_or nodes at 0 ∷ [] =
          tree.on at (omega (arith, not_first)) (omega (arith, upto, within)) in
          climbing.on lists from paths tree
          ∙ (ap (λ each. each ++ reverse out) step
          ∙ (append_assoc (path_at paths (get_or callers at 0)) (get_or nodes at 0 ∷ []) (reverse out)
          ∙ rw (next_is, node_is, reverse_push out (get_or nodes at 0)) refl));
    }

pub climbing_done : (nodes callers : List ℕ) (place at node : ℕ) (out : List ℕ) → at ≡ 0 → node ≡ get_or nodes 0 0
    → IsClimbing nodes callers place at out
    → (lists : List (List ℕ)) (from : ℕ) (paths : List (List ℕ)) → IsTree (Calls lists) from nodes callers paths
    → reverse (out ++ node ∷ []) ≡ path_at paths place
climbing_done nodes callers place at node out first node_is climbing lists from paths tree =
    reverse_push out node
    ∙ (ap (λ each. each ∷ reverse out) (node_is ∙ tree.begins)
    ∙ (ap (λ each. each ++ reverse out) (sym tree.first)
    ∙ sym (climbing.on lists from paths tree ∙ ap (λ each. path_at paths each ++ reverse out) first)))

-- what is read at a place
pub read_is : (xs : List ℕ) (i x : ℕ) → i < length xs → x ≡ get_or xs i x → x ≡ get_or xs i 0
read_is xs i x lt read = read ∙ get_or_default xs i x 0 lt
