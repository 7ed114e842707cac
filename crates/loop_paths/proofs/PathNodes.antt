-- The nodes of a path over lists are nodes of the lists.
use Rattle.std.proofs.Common.{◌≡◌, ℕ, ◌<◌, ◌++◌, ◌∷◌, [], List, Some, All, length, sym, subst}
use Rattle.std.proofs.lemmas.List.Elements.{All-cons, All-head, All-nil, All-tail}
use Rattle.graph_law.specs.Graph.{Calls, IsClosed}
use Rattle.graph_law.specs.Reach.{IsWalk}
use Rattle.loop_paths.specs.Circuits.{IsCircuit}
use Rattle.loop_paths.specs.Paths.{IsPath}

module _ (lists : List (List ℕ)) (closed : IsClosed lists) where
  walk_below : (p : ℕ) (path : List ℕ) (q : ℕ) → IsWalk (Calls lists) p path q → All (λ n. n < length lists) path
  walk_below p [] q walk = All-nil (λ n. n < length lists)
  walk_below p (n ∷ path) q walk = All-cons (λ n. n < length lists) n path (closed p n walk.0) (walk_below n path q walk.1)

  pub path_below : (p q : ℕ) → p < length lists → (path : List ℕ) → IsPath (Calls lists) p q path → All (λ n. n < length lists) path
  path_below p q low [] is = absurd is
  path_below p q low (n ∷ rest) is = All-cons (λ n. n < length lists) n rest (subst (λ k. k < length lists) (sym is.0) low) (walk_below n rest q is.1)

  front_all : (P : ℕ → Type 0) (xs ys : List ℕ) → All P (xs ++ ys) → All P xs
  front_all P [] ys all = All-nil P
  front_all P (x ∷ xs) ys all = All-cons P x xs (All-head P x (xs ++ ys) all) (front_all P xs ys (All-tail P x (xs ++ ys) all))

  pub circuit_below : (p : ℕ) → p < length lists → (circuit : List ℕ) → IsCircuit (Calls lists) p (Some circuit) → All (λ n. n < length lists) circuit
  circuit_below p low circuit is = front_all (λ n. n < length lists) circuit (p ∷ []) (path_below p p low (circuit ++ p ∷ []) is.is.0)
