-- Which modules take all exports of which others.
use Rattle.std.specs.Prelude.{ℕ, ◌≡◌, ◌<◌, Bool, true, false, List, [], Some, Vec, AllPairs, Contains, length, map, slice_get, slice_index_or}
use Rattle.std.specs.declared.alloc.Global.{Global}
use Rattle.std.specs.declared.cmp.Ordering.TheVariants.{Less}
use Rattle.module_table.specs.Facts.{Facts}
use Rattle.import_rules.specs.declared.names.PredName.{PredName}
use Rattle.import_rules.specs.declared.taken_modules.TakenModules.{TakenModules}
use Rattle.import_rules.specs.Clashes.{Imports}
use Rattle.import_rules.specs.Names.{pred_cmp, pred_name}
use Rattle.import_rules.specs.Offers.{all_pairs}

-- the name that stands for a module
abbrev pub module_name : List ℕ → PredName
module_name own = pred_name own [] 0

-- an item for the module of a file
abbrev pub module_item : Facts → Imports
module_item file = record { into = module_name file.module_; from_module = []; file = file.file; offset = 0 }

abbrev pub rows_in : List (Vec Bool Global) → List (List Bool)
rows_in rows = map (λ (row : Vec Bool Global). row.items) rows

abbrev pub marked_in : List Bool → ℕ → Bool
marked_in row n = slice_index_or row n false

-- the mark in the row of one index at the other index
abbrev pub marked_at : List (Vec Bool Global) → ℕ → ℕ → Bool
marked_at rows user from = marked_in (slice_index_or (rows_in rows) user []) from

-- so many rows of so many marks
pub record HaveSize (size : ℕ) (rows : List (Vec Bool Global)) : Type 0 where
  pub long : length rows ≡ size
  pub wide : (n : ℕ) → n < size → length (slice_index_or (rows_in rows) n []) ≡ size

abbrev pub AreUnmarked : List (Vec Bool Global) → Type 0
AreUnmarked rows = (user from : ℕ) → marked_at rows user from ≡ false

-- the marks are those of items whose names are made of two modules
pub record AreMarked (modules : List PredName) (pairs : List Imports) (rows : List (Vec Bool Global)) : Type 0 where
  pub each : (user from : ℕ) → marked_at rows user from ≡ true → (k : Imports) × Contains pairs k
      × (slice_get modules user ≡ Some (module_name k.into.module)) × (slice_get modules from ≡ Some (module_name k.into.name))
  pub all : (k : Imports) (user from : ℕ) → Contains pairs k → slice_get modules user ≡ Some (module_name k.into.module)
      → slice_get modules from ≡ Some (module_name k.into.name) → marked_at rows user from ≡ true

-- the table has all modules, and the marks of those that take all exports
pub record AreTaken (files : List Facts) (taken : TakenModules) : Type 0 where
  pub in_order : AllPairs (λ p q. pred_cmp p q ≡ Less) taken.modules
  pub modules : (file : Facts) → Contains files file → Contains taken.modules (module_name file.module_)
  pub marked : AreMarked taken.modules (all_pairs files) taken.rows.items

-- the first module takes all exports of the other
pub record IsTaken (taken : TakenModules) (own other : List ℕ) : Type 0 where
  pub user : ℕ
  pub from : ℕ
  pub is_user : slice_get taken.modules user ≡ Some (module_name own)
  pub is_from : slice_get taken.modules from ≡ Some (module_name other)
  pub is_marked : marked_at taken.rows.items user from ≡ true
