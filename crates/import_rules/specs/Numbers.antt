-- The predicates of files, in order, with their places.
use Rattle.std.specs.Prelude.{ℕ, ◌≡◌, List, map, flat_map, filter, All, Contains}
use Rattle.std.specs.List.{AllPairs, enumerate_from}
use Rattle.std.specs.declared.cmp.Ordering.TheVariants.{Less}
use Rattle.module_table.specs.Defined.{Predicate}
use Rattle.module_table.specs.Facts.{Facts}
use Rattle.import_rules.specs.declared.names.PredName.{PredName}
use Rattle.import_rules.specs.declared.places.Places.{Places}
use Rattle.import_rules.specs.declared.places.Places.TheVariants.{One, More}
use Rattle.import_rules.specs.Names.{pred_cmp, is_same}
use Rattle.import_rules.specs.Files.{name_in}

-- a predicate and a place at which it is defined: that of a file, and that of a part of the file
pub record DefinedAt : Type 0 where
  pub name : PredName
  pub at : ℕ × ℕ

-- what a file defines, by its place among the files
abbrev pub parts_of_file : ℕ → Facts → List DefinedAt
parts_of_file place file =
    map (λ (part : ℕ × Predicate). record { name = name_in part.1; at = (place, part.0) }) (enumerate_from 0 file.defined)

-- what the files define, file by file
abbrev pub parts_in : List Facts → List DefinedAt
parts_in files = flat_map (λ (at : ℕ × Facts). parts_of_file at.0 at.1) (enumerate_from 0 files)

abbrev pub places_for : List DefinedAt → PredName → List (ℕ × ℕ)
places_for parts p = map (λ (d : DefinedAt). d.at) (filter (λ (d : DefinedAt). is_same p d.name) parts)

-- the predicates that the parts define, in order and each once, with their places
pub record AreNumbers (parts : List DefinedAt) (predicates : List PredName) (places : List (List (ℕ × ℕ))) : Type 0 where
  pub in_order : AllPairs (λ p q. pred_cmp p q ≡ Less) predicates
  pub defined : All (λ p. Contains (map (λ (d : DefinedAt). d.name) parts) p) predicates
  pub all : All (λ (d : DefinedAt). Contains predicates d.name) parts
  pub placed : places ≡ map (places_for parts) predicates

abbrev pub see_places : Places → List (ℕ × ℕ)
see_places (One one) = one
see_places (More more) = more.value.items

abbrev pub lists_of : List Places → List (List (ℕ × ℕ))
lists_of all = map see_places all
