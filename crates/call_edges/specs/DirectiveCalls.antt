-- Calls of goals of directives.
use Rattle.std.specs.Prelude.{ℕ, ◌≡◌, ◌↔◌, List, AllPairs, Contains}
use Rattle.std.specs.declared.cmp.Ordering.TheVariants.{Less}
use Rattle.import_rules.specs.Program.{Seen}
use Rattle.call_edges.specs.Bodies.{goals_in}
use Rattle.call_edges.specs.CallPlaces.{CallAt, IsCalledIn, call_cmp}
use Rattle.call_edges.specs.Calls.{IsAmong}

-- such a call has no caller, so 0 stands in its place
abbrev pub no_caller : ℕ
no_caller = 0

-- the call stands in a goal of a directive
abbrev pub IsDirectiveCall : Seen → CallAt → Type 0
IsDirectiveCall seen c = IsAmong (IsCalledIn seen no_caller) (goals_in seen.loaded.files) c

-- all such calls, in order and each once
pub record AreDirectiveCalls (seen : Seen) (calls : List CallAt) : Type 0 where
  pub ordered : AllPairs (λ a b. call_cmp a b ≡ Less) calls
  pub each : (c : CallAt) → Contains calls c ↔ IsDirectiveCall seen c
