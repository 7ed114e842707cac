-- Names that two files export, and who exports each.
use Rattle.std.specs.Prelude.{ℕ, ◌≡◌, List, [], Some, Vec, Contains, map, slice_get, slice_index_or}
use Rattle.std.specs.declared.alloc.Global.{Global}
use Rattle.import_rules.specs.declared.names.PredName.{PredName}
use Rattle.import_rules.specs.declared.shared_names.Exporter.{Exporter}
use Rattle.import_rules.specs.Clashes.{Imports}
use Rattle.import_rules.specs.Find.{source, number_of}
use Rattle.import_rules.specs.TakenModules.{module_name}

abbrev pub lists_in : List (Vec Exporter Global) → List (List Exporter)
lists_in lists = map (λ (list : Vec Exporter Global). list.items) lists

abbrev pub exporters_at : List (Vec Exporter Global) → ℕ → List Exporter
exporters_at lists n = slice_index_or (lists_in lists) n []

-- the exporter is the module of the offer, with the number of the predicate that it offers
pub record IsExporter (modules predicates : List PredName) (offer : Imports) (exporter : Exporter) : Type 0 where
  pub from : slice_get modules exporter.from ≡ Some (module_name offer.from_module)
  pub is : number_of predicates (source offer) ≡ Some exporter.source

-- beside each name are the exporters of all offers of it
pub record AreExporters (modules predicates : List PredName) (offers : List Imports) (names : List PredName) (lists : List (Vec Exporter Global)) : Type 0 where
  pub each : (n : ℕ) (exporter : Exporter) → Contains (exporters_at lists n) exporter
      → (offer : Imports) × Contains offers offer × (slice_get names n ≡ Some offer.into) × IsExporter modules predicates offer exporter
  pub all : (n : ℕ) (offer : Imports) (exporter : Exporter) → Contains offers offer → slice_get names n ≡ Some offer.into
      → IsExporter modules predicates offer exporter → Contains (exporters_at lists n) exporter
