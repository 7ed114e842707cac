-- The names of a line that is read.
use Rattle.std.specs.Prelude.{ℕ, List, [], ◌∷◌, Option, None, Some, Vec}

-- a node alone, or a caller and its callee
abbrev pub ends_of : {A : Type 0} → List ℕ → Option (Vec ℕ A) → List (List ℕ)
ends_of from None = from ∷ []
ends_of from (Some to) = from ∷ to.items ∷ []
