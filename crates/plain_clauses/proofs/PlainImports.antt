-- Files import the same from each other with plain trees, and the same is wrong with it.
use Rattle.std.proofs.Common.{◌≡◌, ◌↔◌, ℕ, ◌<◌, ◌≤◌, not, ◌&&◌, List, [], ◌∷◌, ◌++◌, Option, Some, None, All, Contains, IsPermutation, map, flat_map, filter, option_map, refl, sym, ap, ◌∙◌, subst}
use Rattle.std.specs.List.{list_any}
use Rattle.std.specs.Str.{bytes_eq}
use Rattle.clause_text.specs.declared.cause.Cause.TheVariants.{TwoModules, NoFile, NotDefined}
use Rattle.module_table.specs.declared.indicator.Indicator.{Indicator}
use Rattle.module_table.specs.declared.load.LoadKind.{LoadKind}
use Rattle.module_table.specs.declared.load.LoadKind.TheVariants.{UseAll, UseSome, Ensure}
use Rattle.module_table.specs.Facts.{Facts}
use Rattle.module_table.specs.Said.{Loads}
use Rattle.file_library.specs.Loaded.{LoadedFiles}
use Rattle.import_rules.specs.declared.names.PredName.{PredName}
use Rattle.import_rules.specs.declared.resolve.TheConstants.{MOST_PREDICATES}
use Rattle.import_rules.specs.declared.import_stop.ImportStop.{ImportStop}
use Rattle.import_rules.specs.declared.import_stop.ImportStop.TheVariants.{Faults, TooManyPredicates, NoMemory}
use Rattle.import_rules.specs.Clashes.{Imports, AreClashes}
use Rattle.import_rules.specs.Files.{is_local, file_named, AreNumbered}
use Rattle.import_rules.specs.Flaws.{Flaw, flaw, only_if, module_flaws, exported, export_flaws, use_flaws, load_flaws, file_flaws, clash_flaw, AreFlaws}
use Rattle.import_rules.specs.Items.{foreign_items}
use Rattle.import_rules.specs.Names.{is_same}
use Rattle.import_rules.specs.Program.{Seen, IsProgram, HasPredicates, IsImportStop}
use Rattle.plain_clauses.specs.PlainFacts.{plain_facts}
use Rattle.plain_clauses.specs.PlainProgram.{plain_loaded, plain_seen}
use Rattle.plain_clauses.proofs.PlainNames.{all_plain, flat_same, defined_same, named_same, first_file_same, items_same}

local_same : (files : List Facts) (p : PredName) → is_local (all_plain files) p ≡ is_local files p
local_same files p = ap (list_any (is_same p)) (defined_same files)

foreign_same : (files : List Facts) → foreign_items (all_plain files) ≡ foreign_items files
foreign_same files = λ i. filter (λ (one : Imports). not (local_same files one.into i)) (items_same files i)

pub numbers_same : (files : List Facts) (predicates : List PredName) → AreNumbered (all_plain files) predicates ↔ AreNumbered files predicates
numbers_same files predicates =
    let same = defined_same files in (
      λ are. record {
        in_order = are.in_order;
        defined = subst (λ names. All (Contains names) predicates) same are.defined;
        all = subst (All (Contains predicates)) same are.all;
      },
      λ are. record {
        in_order = are.in_order;
        defined = subst (λ names. All (Contains names) predicates) (sym same) are.defined;
        all = subst (All (Contains predicates)) (sym same) are.all;
      },
    )

-- what is wrong, file by file

module_flaws_same : (files : List Facts) (file : Facts) → module_flaws (all_plain files) (plain_facts file) ≡ module_flaws files file
module_flaws_same files file = ap (λ first. only_if (file.is_module && not first) (flaw TwoModules file file.module_from)) (first_file_same files file)

export_flaws_same : (files : List Facts) (file : Facts) → export_flaws (all_plain files) (plain_facts file) ≡ export_flaws files file
export_flaws_same files file =
    λ i. map (λ (e : Indicator). flaw NotDefined file e.from) (filter (λ (e : Indicator). not (local_same files (exported file e) i)) file.exports)

use_flaws_same : (user : Facts) (load : Loads) (file : Facts) (kind : LoadKind) → use_flaws (plain_facts user) load (plain_facts file) kind ≡ use_flaws user load file kind
use_flaws_same user load file UseAll = refl
use_flaws_same user load file UseSome = refl
use_flaws_same user load file Ensure = refl

abbrev flaws_by : Facts → Loads → Option Facts → List Flaw
flaws_by user load o = elim o [ Some file ↦ use_flaws user load file load.kind | None ↦ [] ]

flaws_by_same : (user : Facts) (load : Loads) (o : Option Facts) → flaws_by (plain_facts user) load (option_map plain_facts o) ≡ flaws_by user load o
flaws_by_same user load (Some file) = use_flaws_same user load file load.kind
flaws_by_same user load None = refl

load_flaws_same : (files : List Facts) (absent : List (List ℕ)) (user : Facts) (load : Loads)
    → load_flaws (all_plain files) absent (plain_facts user) load ≡ load_flaws files absent user load
load_flaws_same files absent user load =
    ap (λ flaws. only_if (list_any (bytes_eq load.file) absent) (flaw NoFile user load.from) ++ flaws)
    (ap (flaws_by (plain_facts user) load) (named_same files load.file) ∙ flaws_by_same user load (file_named files load.file))

all_loads_same : (files : List Facts) (absent : List (List ℕ)) (user : Facts) (loads : List Loads)
    → flat_map (load_flaws (all_plain files) absent (plain_facts user)) loads ≡ flat_map (load_flaws files absent user) loads
all_loads_same files absent user [] = refl
all_loads_same files absent user (load ∷ loads) = λ i. load_flaws_same files absent user load i ++ all_loads_same files absent user loads i

file_flaws_same : (files : List Facts) (absent : List (List ℕ)) (file : Facts) → file_flaws (all_plain files) absent (plain_facts file) ≡ file_flaws files absent file
file_flaws_same files absent file =
    λ i. module_flaws_same files file i ++ export_flaws_same files file i ++ all_loads_same files absent file file.loads i

all_flaws_same : (files : List Facts) (absent : List (List ℕ)) → flat_map (file_flaws (all_plain files) absent) (all_plain files) ≡ flat_map (file_flaws files absent) files
all_flaws_same files absent = flat_same (file_flaws (all_plain files) absent) (file_flaws files absent) (file_flaws_same files absent) files

flaws_same : (files : List Facts) (absent : List (List ℕ)) (flaws : List Flaw) → AreFlaws (all_plain files) absent flaws ↔ AreFlaws files absent flaws
flaws_same files absent flaws = (
  λ are. record {
    clashes = are.clashes;
    are_clashes = subst (λ items. AreClashes items are.clashes) (foreign_same files) are.are_clashes;
    all = subst (λ own. IsPermutation (own ++ map clash_flaw are.clashes) flaws) (all_flaws_same files absent) are.all;
    in_order = are.in_order;
  },
  λ are. record {
    clashes = are.clashes;
    are_clashes = subst (λ items. AreClashes items are.clashes) (sym (foreign_same files)) are.are_clashes;
    all = subst (λ own. IsPermutation (own ++ map clash_flaw are.clashes) flaws) (sym (all_flaws_same files absent)) are.all;
    in_order = are.in_order;
  },
)

-- programs, and why there is none

pub program_plain : (loaded : LoadedFiles) (seen : Seen) → IsProgram loaded seen → IsProgram (plain_loaded loaded) (plain_seen seen)
program_plain loaded seen is = record {
  is = ap plain_loaded is.is;
  numbered = (numbers_same loaded.files seen.predicates).1 is.numbered;
  few = is.few;
  sound = (flaws_same loaded.files loaded.absent []).1 is.sound;
}

pub program_whole : (loaded : LoadedFiles) (seen : Seen) → IsProgram (plain_loaded loaded) seen → (whole : Seen) × IsProgram loaded whole × (seen ≡ plain_seen whole)
program_whole loaded seen is =
    let whole : Seen = record { loaded = loaded; predicates = seen.predicates } in (
      whole,
      record {
        is = refl;
        numbered = (numbers_same loaded.files seen.predicates).0 is.numbered;
        few = is.few;
        sound = (flaws_same loaded.files loaded.absent []).0 is.sound;
      },
      ap (λ (own : LoadedFiles). record { loaded = own; predicates = seen.predicates }) is.is,
    )

predicates_same : (loaded : LoadedFiles) (many : ℕ → Type 0) → HasPredicates (plain_loaded loaded) many ↔ HasPredicates loaded many
predicates_same loaded many = (
  λ has. record { predicates = has.predicates; numbered = (numbers_same loaded.files has.predicates).0 has.numbered; many_are = has.many_are },
  λ has. record { predicates = has.predicates; numbered = (numbers_same loaded.files has.predicates).1 has.numbered; many_are = has.many_are },
)

pub stop_same : (loaded : LoadedFiles) (stop : ImportStop) → IsImportStop (plain_loaded loaded) stop ↔ IsImportStop loaded stop
stop_same loaded TooManyPredicates = predicates_same loaded (λ n. MOST_PREDICATES < n)
stop_same loaded (Faults faults) =
    let few = predicates_same loaded (λ n. n ≤ MOST_PREDICATES) in (
      λ is. (few.0 is.0, record { flaws = is.1.flaws; are = (flaws_same loaded.files loaded.absent is.1.flaws).0 is.1.are; placed = is.1.placed }, is.2),
      λ is. (few.1 is.0, record { flaws = is.1.flaws; are = (flaws_same loaded.files loaded.absent is.1.flaws).1 is.1.are; placed = is.1.placed }, is.2),
    )
stop_same loaded NoMemory = (λ is. is, λ is. is)
