-- Import faults: what is wrong with how files import from each other.
use Rattle.std.specs.Prelude.{◌≡◌, ℕ, Bool, ◌&&◌, not, List, [], ◌∷◌, ◌++◌, Some, None, Contains, map, filter, flat_map, if◌then◌else◌}
use Rattle.std.specs.List.{list_any, AllZip}
use Rattle.std.specs.List.Sorted.{IsPermutation, IsSorted}
use Rattle.std.specs.declared.cmp.Ordering.{Ordering}
use Rattle.std.specs.Ordering.{ordering_then, nat_cmp}
use Rattle.std.specs.Cmp.Lexicographic.{slice_cmp}
use Rattle.std.specs.Str.{bytes_eq}
use Rattle.prolog_tokens.specs.Places.{IsPlace}
use Rattle.clause_text.specs.Cause.{number_of}
use Rattle.clause_text.specs.declared.cause.Cause.{Cause}
use Rattle.clause_text.specs.declared.cause.Cause.TheVariants.{TwoModules, NoFile, NotModule, NotExported, NotDefined, TwoImports}
use Rattle.module_table.specs.declared.indicator.Indicator.{Indicator}
use Rattle.module_table.specs.declared.load.LoadKind.{LoadKind}
use Rattle.module_table.specs.declared.load.LoadKind.TheVariants.{UseAll, UseSome, Ensure}
use Rattle.module_table.specs.Said.{Loads}
use Rattle.module_table.specs.Facts.{Facts}
use Rattle.file_library.specs.declared.fault.Fault.{Fault}
use Rattle.file_library.specs.Loaded.{NamedText, LoadedFiles}
use Rattle.import_rules.specs.declared.names.PredName.{PredName}
use Rattle.import_rules.specs.Files.{is_local, file_named, is_first, has_export}
use Rattle.import_rules.specs.Items.{foreign_items}
use Rattle.import_rules.specs.Clashes.{Imports, AreClashes}

-- what is wrong at an offset of a file
pub record Flaw : Type 0 where
  pub file : List ℕ
  pub offset : ℕ
  pub cause : Cause

abbrev pub flaw : Cause → Facts → ℕ → Flaw
flaw cause file offset = record { file = file.file; offset = offset; cause = cause }

abbrev pub only_if : Bool → Flaw → List Flaw
only_if holds one = if holds then one ∷ [] else []

-- the module of a file is declared before, in a file of lesser name
abbrev pub module_flaws : List Facts → Facts → List Flaw
module_flaws files file = only_if (file.is_module && not (is_first files file)) (flaw TwoModules file file.module_from)

-- the predicate that a file exports by the indicator
abbrev pub exported : Facts → Indicator → PredName
exported file e = record { «module» = file.module_; name = e.name; arity = e.arity }

-- exports that aren't local
abbrev pub export_flaws : List Facts → Facts → List Flaw
export_flaws files file =
    map (λ (e : Indicator). flaw NotDefined file e.from) (filter (λ (e : Indicator). not (is_local files (exported file e))) file.exports)

-- indicators of a load that the file doesn't export
abbrev pub unlisted_flaws : Facts → Loads → Facts → List Flaw
unlisted_flaws user load file = map (λ (i : Indicator). flaw NotExported user i.from) (filter (λ i. not (has_export file i)) load.items)

-- what is wrong with a load of a file that is there: only `use_module/1` and `use_module/2` ask for a module file
abbrev pub use_flaws : Facts → Loads → Facts → LoadKind → List Flaw
use_flaws user load file Ensure = []
use_flaws user load file UseAll = only_if (not file.is_module) (flaw NotModule user load.from)
use_flaws user load file UseSome =
    if file.is_module then unlisted_flaws user load file else flaw NotModule user load.from ∷ []

abbrev pub load_flaws : List Facts → List (List ℕ) → Facts → Loads → List Flaw
load_flaws files absent user load =
    only_if (list_any (bytes_eq load.file) absent) (flaw NoFile user load.from)
    ++ elim (file_named files load.file) [ Some file ↦ use_flaws user load file load.kind | None ↦ [] ]

abbrev pub file_flaws : List Facts → List (List ℕ) → Facts → List Flaw
file_flaws files absent file = module_flaws files file ++ export_flaws files file ++ flat_map (load_flaws files absent file) file.loads

abbrev pub clash_flaw : Imports → Flaw
clash_flaw i = record { file = i.file; offset = i.offset; cause = TwoImports }

-- by file, then by offset, then by cause
abbrev pub flaw_cmp : Flaw → Flaw → Ordering
flaw_cmp a b = ordering_then (slice_cmp nat_cmp a.file b.file) (ordering_then (nat_cmp a.offset b.offset) (nat_cmp (number_of a.cause) (number_of b.cause)))

-- all import faults, in order
pub record AreFlaws (files : List Facts) (absent : List (List ℕ)) (flaws : List Flaw) : Type 0 where
  pub clashes : List Imports
  pub are_clashes : AreClashes (foreign_items files) clashes
  pub all : IsPermutation (flat_map (file_flaws files absent) files ++ map clash_flaw clashes) flaws
  pub in_order : IsSorted flaw_cmp flaws

-- the fault is what is wrong, with its line and column in the text of its file
pub record IsFaultOf (texts : List NamedText) (flaw : Flaw) (fault : Fault) : Type 0 where
  pub file : fault.file ≡ flaw.file
  pub offset : fault.offset ≡ flaw.offset
  pub cause : fault.cause ≡ flaw.cause
  pub text : List ℕ
  pub there : Contains texts (flaw.file, text)
  pub stands : IsPlace text flaw.offset fault.place

-- the import faults of what was loaded, each with its place
pub record AreImportFaults (loaded : LoadedFiles) (faults : List Fault) : Type 0 where
  pub flaws : List Flaw
  pub are : AreFlaws loaded.files loaded.absent flaws
  pub placed : AllZip (IsFaultOf loaded.texts) flaws faults
