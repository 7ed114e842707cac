-- Relations that have the same calls have the same least paths and circuits.
use Rattle.std.proofs.Common.{ℕ, List, [], ◌∷◌, ◌++◌, Option, None, Some}
use Rattle.graph_law.specs.Reach.{Agree}
use Rattle.graph_law.proofs.ReachLaws.{walk_along}
use Rattle.loop_paths.specs.Circuits.{AreCircuits, IsCircuit, IsShortest}
use Rattle.loop_paths.specs.Paths.{IsPath}

path_along : (c d : ℕ → ℕ → Type 0) → ((p q : ℕ) → c p q → d p q) → (p q : ℕ) (path : List ℕ) → IsPath c p q path → IsPath d p q path
path_along c d to p q [] is = absurd is
path_along c d to p q (n ∷ rest) is = (is.0, walk_along c d to n rest q is.1)

pub shortest_along : (c d : ℕ → ℕ → Type 0) → Agree c d → (p q : ℕ) (found : Option (List ℕ)) → IsShortest c p q found → IsShortest d p q found
shortest_along c d agree p q None none = λ path is. none path (path_along d c agree.from p q path is)
shortest_along c d agree p q (Some path) least = record {
  is = path_along c d agree.to p q path least.is;
  least = λ ys is less. least.least ys (path_along d c agree.from p q ys is) less;
}

pub circuit_along : (c d : ℕ → ℕ → Type 0) → Agree c d → (p : ℕ) (found : Option (List ℕ)) → IsCircuit c p found → IsCircuit d p found
circuit_along c d agree p None none = λ walk is. none walk (path_along d c agree.from p p walk is.0, is.1)
circuit_along c d agree p (Some circuit) least = record {
  is = (path_along c d agree.to p p (circuit ++ p ∷ []) least.is.0, least.is.1);
  least = λ ys is less. least.least ys (path_along d c agree.from p p ys is.0, is.1) less;
}

pub circuits_along : (c d : ℕ → ℕ → Type 0) → Agree c d → (groups : List (List ℕ)) (circuits : List (Option (List ℕ))) → AreCircuits c groups circuits → AreCircuits d groups circuits
circuits_along c d agree groups circuits are = record {
  each = are.each;
  at = λ i lt. circuit_along c d agree _ _ (are.at i lt);
}
