-- The groups of what the roots reach.
use Rattle.std.specs.Prelude.{ℕ, ◌<◌, List, All, length}

-- each group has members, which are below the count
pub record AreNodes (count : ℕ) (groups : List (List ℕ)) : Type 0 where
  pub inhabited : All (λ members. 0 < length members) groups
  pub below : All (All (λ member. member < count)) groups
