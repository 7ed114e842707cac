-- The names that import items give, with the numbers of the predicates that they give.
use Rattle.std.specs.Prelude.{ℕ, ◌≡◌, ◌⊎◌, ◌<◌, List, Some, None, length, slice_index, slice_index_or, Contains}
use Rattle.import_rules.specs.declared.names.PredName.{PredName}
use Rattle.import_rules.specs.Clashes.{Imports}
use Rattle.import_rules.specs.Find.{source, number_of}

-- a name is that of an item that gives the predicate of the number
pub record IsGiven (predicates : List PredName) (items : List Imports) (name : PredName) (number : ℕ) : Type 0 where
  pub by : Imports
  pub stands : Contains items by
  pub into : by.into ≡ name
  pub is : number_of predicates (source by) ≡ Some number

-- names of items, each beside the number of the predicate that an item gives; only items that give no predicate are left out
pub record AreSources (predicates : List PredName) (items : List Imports) (names : List PredName) (targets : List ℕ) : Type 0 where
  pub as_many : length targets ≡ length names
  pub each : (n : ℕ) (p : PredName) → n < length names → IsGiven predicates items (slice_index_or names n p) (slice_index targets n)
  pub all : (i : Imports) → Contains items i → (number_of predicates (source i) ≡ None) ⊎ Contains names i.into
