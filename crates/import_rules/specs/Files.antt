-- What files define and export, and which of them stand for their modules.
use Rattle.std.specs.Prelude.{ℕ, ◌≡◌, List, Option, Some, Bool, ◌&&◌, not, nat_eq, map, flat_map, filter, All, Contains, slice_get}
use Rattle.std.specs.List.{list_any, list_all, AllPairs}
use Rattle.std.specs.Ordering.{nat_cmp, ordering_then, is_lt}
use Rattle.std.specs.Cmp.Lexicographic.{slice_cmp}
use Rattle.std.specs.Str.{bytes_eq}
use Rattle.std.specs.declared.cmp.Ordering.{Ordering}
use Rattle.std.specs.declared.cmp.Ordering.TheVariants.{Less}
use Rattle.module_table.specs.declared.indicator.Indicator.{Indicator}
use Rattle.module_table.specs.Defined.{Predicate}
use Rattle.module_table.specs.Facts.{Facts}
use Rattle.module_table.specs.Kinds.{first_of}
use Rattle.import_rules.specs.declared.names.PredName.{PredName}
use Rattle.import_rules.specs.Names.{pred_cmp, is_same}

-- the name of a predicate that a file defines, for its own module or for another one
abbrev pub name_in : Predicate → PredName
name_in p = record { «module» = p.module_; name = p.name; arity = p.arity }

abbrev pub defined_in : Facts → List PredName
defined_in file = map name_in file.defined

-- the names that the files define, file by file
abbrev pub all_defined : List Facts → List PredName
all_defined files = flat_map defined_in files

abbrev pub is_local : List Facts → PredName → Bool
is_local files p = list_any (is_same p) (all_defined files)

-- the predicates of the files, each once and in order
pub record AreNumbered (files : List Facts) (predicates : List PredName) : Type 0 where
  pub in_order : AllPairs (λ p q. pred_cmp p q ≡ Less) predicates
  pub defined : All (Contains (all_defined files)) predicates
  pub all : All (Contains predicates) (all_defined files)

-- the file at one place defines the predicate by its part at the other
pub record IsDefinedAt (files : List Facts) (p : PredName) (place part : ℕ) : Type 0 where
  pub file : Facts
  pub predicate : Predicate
  pub at_place : slice_get files place ≡ Some file
  pub at_part : slice_get file.defined part ≡ Some predicate
  pub is : name_in predicate ≡ p

abbrev pub pair_cmp : ℕ × ℕ → ℕ × ℕ → Ordering
pair_cmp a b = ordering_then (nat_cmp a.0 b.0) (nat_cmp a.1 b.1)

-- all places at which a predicate is defined, ascending
pub record ArePlaces (files : List Facts) (p : PredName) (places : List (ℕ × ℕ)) : Type 0 where
  pub ascending : AllPairs (λ a b. pair_cmp a b ≡ Less) places
  pub each : All (λ (at : ℕ × ℕ). IsDefinedAt files p at.0 at.1) places
  pub all : (place part : ℕ) → IsDefinedAt files p place part → Contains places (place, part)

-- the file of that name
abbrev pub file_named : List Facts → List ℕ → Option Facts
file_named files name = first_of (filter (λ (f : Facts). bytes_eq name f.file) files)

-- the other file declares the module too, and its name is the lesser one
abbrev pub is_before : Facts → Facts → Bool
is_before file other = other.is_module && (bytes_eq other.module_ file.module_ && is_lt (slice_cmp nat_cmp other.file file.file))

-- no file of lesser name declares the module of this one
abbrev pub is_first : List Facts → Facts → Bool
is_first files file = list_all (λ other. not (is_before file other)) files

-- whether the file exports the indicator
abbrev pub has_export : Facts → Indicator → Bool
has_export file i = list_any (λ (e : Indicator). bytes_eq i.name e.name && nat_eq i.arity e.arity) file.exports
