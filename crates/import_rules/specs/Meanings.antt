-- What names mean, and a table of the imported ones.
use Rattle.std.specs.Prelude.{ℕ, ◌≡◌, ◌<◌, List, [], Some, None, true, false, length, slice_get, slice_index, slice_index_or, map, All, AllPairs, Contains}
use Rattle.std.specs.declared.cmp.Ordering.TheVariants.{Less}
use Rattle.std.specs.List.{list_any}
use Rattle.module_table.specs.Facts.{Facts}
use Rattle.import_rules.specs.declared.names.PredName.{PredName}
use Rattle.import_rules.specs.declared.import_tables.ImportTables.{ImportTables}
use Rattle.import_rules.specs.declared.shared_names.Exporter.{Exporter}
use Rattle.import_rules.specs.Names.{is_same, pred_cmp, pred_name}
use Rattle.import_rules.specs.Find.{Means, found_in}
use Rattle.import_rules.specs.SharedNames.{exporters_at}
use Rattle.import_rules.specs.TakenModules.{IsTaken, marked_at, module_name}

-- a name, and the predicate that it means
pub record Meaning : Type 0 where
  pub name : PredName
  pub is : PredName

-- names with what they mean, and each name that means a predicate
pub record AreMeanings (files : List Facts) (meanings : List Meaning) : Type 0 where
  pub each : All (λ (m : Meaning). Means files m.name m.is) meanings
  pub all : (p q : PredName) → Means files p q → Contains (map (λ (m : Meaning). m.name) meanings) p

-- the first module that offers the name isn't one whose exports the module takes
abbrev pub IsNotOffered : List PredName → ImportTables → PredName → Type 0
IsNotOffered predicates tables p =
    (n : ℕ) (q : PredName) → slice_get tables.offered n ≡ Some (pred_name [] p.name p.arity)
    → slice_get predicates (slice_index tables.sources.items n) ≡ Some q → IsTaken tables.taken p.module q.module → ⊥

-- the module takes all exports of an exporter of the name
pub record IsShared (tables : ImportTables) (p : PredName) (exporter : Exporter) : Type 0 where
  pub at : ℕ
  pub user : ℕ
  pub named : slice_get tables.shared.names at ≡ Some (pred_name [] p.name p.arity)
  pub there : Contains (exporters_at tables.shared.exporters.items at) exporter
  pub is_user : slice_get tables.taken.modules user ≡ Some (module_name p.module)
  pub is_taken : marked_at tables.taken.rows.items user exporter.from ≡ true

-- what a name is found as that is no predicate's own: each kept name as the number beside it, each other one that is
-- offered as that number if the module takes all exports of the predicate's module or of another exporter, and no other name
pub record AreTargets (files : List Facts) (predicates : List PredName) (tables : ImportTables) : Type 0 where
  pub as_many : length tables.targets.items ≡ length tables.names
  pub sources : length tables.sources.items ≡ length tables.offered
  pub in_order : AllPairs (λ p q. pred_cmp p q ≡ Less) tables.offered
  pub shared_in_order : AllPairs (λ p q. pred_cmp p q ≡ Less) tables.shared.names
  pub modules_in_order : AllPairs (λ p q. pred_cmp p q ≡ Less) tables.taken.modules
  pub below : (n : ℕ) → n < length tables.offered → slice_index tables.sources.items n < length predicates
  pub named : (n : ℕ) (p : PredName) → n < length tables.names
      → found_in files predicates (slice_index_or tables.names n p) ≡ Some (slice_index tables.targets.items n)
  pub taken : (n : ℕ) (p q : PredName) → list_any (is_same p) predicates ≡ false → slice_get tables.offered n ≡ Some (pred_name [] p.name p.arity)
      → slice_get predicates (slice_index tables.sources.items n) ≡ Some q → IsTaken tables.taken p.module q.module
      → found_in files predicates p ≡ Some (slice_index tables.sources.items n)
  pub shared : (p : PredName) (exporter : Exporter) → list_any (is_same p) predicates ≡ false → IsShared tables p exporter
      → found_in files predicates p ≡ Some exporter.source
  pub unnamed : (p : PredName) → list_any (is_same p) predicates ≡ false → list_any (is_same p) tables.names ≡ false → IsNotOffered predicates tables p
      → ((exporter : Exporter) → IsShared tables p exporter → ⊥) → found_in files predicates p ≡ None
