-- What a name means in a module.
use Rattle.std.specs.Prelude.{ℕ, ◌≡◌, ◌⊎◌, List, Option, Some, None, true, false, Contains, position, option_map}
use Rattle.module_table.specs.Facts.{Facts}
use Rattle.module_table.specs.Kinds.{first_of}
use Rattle.import_rules.specs.declared.names.PredName.{PredName}
use Rattle.import_rules.specs.Names.{is_same}
use Rattle.import_rules.specs.Files.{is_local}
use Rattle.import_rules.specs.Items.{items}
use Rattle.import_rules.specs.Clashes.{Imports, items_for}

-- the predicate that an item gives
abbrev pub source : Imports → PredName
source i = record { «module» = i.from_module; name = i.into.name; arity = i.into.arity }

-- an import item gives the predicate under that name
pub record IsImported (files : List Facts) (p q : PredName) : Type 0 where
  pub by : Imports
  pub stands : Contains (items files) by
  pub into : by.into ≡ p
  pub is : q ≡ source by

-- the name means the local predicate, else the imported one
abbrev pub Means : List Facts → PredName → PredName → Type 0
Means files p q = ((is_local files p ≡ true) × (q ≡ p)) ⊎ ((is_local files p ≡ false) × IsImported files p q)

-- the predicate that the first item for the name gives
abbrev pub first_source : List Facts → PredName → Option PredName
first_source files p = option_map source (first_of (items_for p (items files)))

-- the number of a predicate
abbrev pub number_of : List PredName → PredName → Option ℕ
number_of predicates p = position (is_same p) predicates

-- the first answer, else what is found of the other name
abbrev pub or_found : List PredName → Option ℕ → Option PredName → Option ℕ
or_found predicates (Some n) other = Some n
or_found predicates None (Some q) = number_of predicates q
or_found predicates None None = None

-- the number of the local predicate, else of the one that the first item for the name gives
abbrev pub found_in : List Facts → List PredName → PredName → Option ℕ
found_in files predicates p = or_found predicates (number_of predicates p) (first_source files p)
