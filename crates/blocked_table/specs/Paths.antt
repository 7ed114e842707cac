-- The slots on the way when what suspended searches wait for is followed.
use Rattle.std.specs.Prelude.{◌≡◌, ℕ, List, [], ◌∷◌, Option, Some}
use Rattle.search_stack.specs.Search.{SearchValue}
use Rattle.blocked_table.specs.Kept.{Holds}

-- the search in the slot holds v and waits for x
pub record StepsAt (kept : List (Option SearchValue)) (v place x : ℕ) : Type 0 where
  pub holds : Holds kept place v
  pub wants : holds.search.wanted ≡ Some x

-- following what searches wait for leads from v over the searches in these slots to w
abbrev pub IsWaitPath : List (Option SearchValue) → ℕ → List ℕ → ℕ → Type 0
IsWaitPath kept v [] w = v ≡ w
IsWaitPath kept v (p ∷ ps) w = (x : ℕ) × StepsAt kept v p x × IsWaitPath kept x ps w
