-- Calls that go to no predicate.
use Rattle.std.specs.Prelude.{ℕ, ◌≡◌, Bool, List, None, All, AllPairs, Contains}
use Rattle.std.specs.declared.cmp.Ordering.TheVariants.{Less}
use Rattle.import_rules.specs.declared.names.PredName.{PredName}
use Rattle.import_rules.specs.Names.{pred_cmp}
use Rattle.import_rules.specs.Program.{Seen, found}
use Rattle.call_edges.specs.Goals.{Met, call}
use Rattle.call_edges.specs.Calls.{IsMetIn}

-- a call for which this holds has the name, which means no predicate
pub record IsUnresolvedOf (seen : Seen) (P : Met → Type 0) (name : PredName) : Type 0 where
  pub at : ℕ
  pub added : ℕ
  pub negated : Bool
  pub met : P (call at name.module name.name name.arity added negated)
  pub means_none : found seen name.module name.name name.arity ≡ None

-- the predicate of that number calls the name, and it means none
abbrev pub IsUnresolved : Seen → ℕ → PredName → Type 0
IsUnresolved seen node name = IsUnresolvedOf seen (IsMetIn seen node) name

-- all names that the predicate calls and that mean none, in order and each once
pub record AreUnresolved (seen : Seen) (node : ℕ) (names : List PredName) : Type 0 where
  pub ordered : AllPairs (λ p q. pred_cmp p q ≡ Less) names
  pub sound : All (IsUnresolved seen node) names
  pub all : (name : PredName) → IsUnresolved seen node name → Contains names name
