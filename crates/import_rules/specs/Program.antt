-- A program: what was loaded, and its predicates with their numbers.
use Rattle.std.specs.Prelude.{ℕ, ◌≡◌, ◌≢◌, ◌<◌, ◌≤◌, List, [], Option, Some, None, All, length, map, slice_get}
use Rattle.std.specs.List.{AllZip}
use Rattle.prolog_terms.specs.Tree.{Tree}
use Rattle.prolog_terms.specs.Weight.{weight}
use Rattle.module_table.specs.declared.goal_arg.GoalArg.{GoalArg}
use Rattle.module_table.specs.Defined.{Predicate}
use Rattle.module_table.specs.Metas.{Declaration, IsSmall}
use Rattle.module_table.specs.Facts.{Facts}
use Rattle.module_table.specs.Placed.{ArePlacedIn}
use Rattle.file_library.specs.Asked.{AreInOrder}
use Rattle.file_library.specs.declared.limits.TheConstants.{MOST_FILES}
use Rattle.prolog_tokens.specs.declared.limits.TheConstants.{MOST_BYTES}
use Rattle.file_library.specs.Loaded.{LoadedFiles, NamedText}
use Rattle.file_library.specs.SortedOut.{see_loaded}
use Rattle.import_rules.specs.declared.names.PredName.{PredName}
use Rattle.import_rules.specs.declared.program_tables.ProgramTables.{ProgramTables}
use Rattle.import_rules.specs.declared.import_stop.ImportStop.{ImportStop}
use Rattle.import_rules.specs.declared.import_stop.ImportStop.TheVariants.{Faults, TooManyPredicates, NoMemory}
use Rattle.import_rules.specs.Names.{pred_name}
use Rattle.import_rules.specs.declared.resolve.TheConstants.{MOST_PREDICATES}
use Rattle.import_rules.specs.Files.{AreNumbered}
use Rattle.import_rules.specs.Find.{found_in}
use Rattle.import_rules.specs.Flaws.{AreFlaws, AreImportFaults}
use Rattle.import_rules.specs.Metas.{args_for}
use Rattle.import_rules.specs.Numbers.{parts_in, places_for}
use Rattle.import_rules.specs.Parts.{names_at}

-- a program as it is seen: what was loaded, and its predicates in the order of their numbers
pub record Seen : Type 0 where
  pub loaded : LoadedFiles
  pub predicates : List PredName

unfoldable pub see_program : ProgramTables → Seen
see_program p = record { loaded = see_loaded p.loaded; predicates = names_at p.loaded.files.items p.places.items }

abbrev pub places_at : List Facts → Option PredName → List (ℕ × ℕ)
places_at files (Some p) = places_for (parts_in files) p
places_at files None = []

-- the places at which the predicate of that number is defined, ascending: of a file, and of a part of the file
unfoldable pub places_in : Seen → ℕ → List (ℕ × ℕ)
places_in seen node = places_at seen.loaded.files (slice_get seen.predicates node)

-- the number of the local predicate of the module, else of the one that the module imports
unfoldable pub found : Seen → List ℕ → List ℕ → ℕ → Option ℕ
found seen owner name arity = found_in seen.loaded.files seen.predicates (pred_name owner name arity)

abbrev pub args_at : List Facts → Option PredName → List GoalArg
args_at files (Some p) = args_for files p
args_at files None = []

-- how the arguments of goals of the predicate of that number stand, where it is declared
unfoldable pub meta_in : Seen → ℕ → List GoalArg
meta_in seen node = args_at seen.loaded.files (slice_get seen.predicates node)

abbrev pub meta_of_found : Seen → Option ℕ → List GoalArg
meta_of_found seen (Some node) = meta_in seen node
meta_of_found seen None = []

-- those of the predicate that a name means
abbrev pub meta_meant : Seen → List ℕ → List ℕ → ℕ → List GoalArg
meta_meant seen owner name arity = meta_of_found seen (found seen owner name arity)

-- the program of what was loaded: its predicates are numbered, they are few enough, and no import is at fault
pub record IsProgram (loaded : LoadedFiles) (seen : Seen) : Type 0 where
  pub is : seen.loaded ≡ loaded
  pub numbered : AreNumbered loaded.files seen.predicates
  pub few : length seen.predicates ≤ MOST_PREDICATES
  pub sound : AreFlaws loaded.files loaded.absent []

-- what was loaded has so many predicates
pub record HasPredicates (loaded : LoadedFiles) (many : ℕ → Type 0) : Type 0 where
  pub predicates : List PredName
  pub numbered : AreNumbered loaded.files predicates
  pub many_are : many (length predicates)

-- why there is no program: there are too many predicates; else the import faults, one at least
abbrev pub IsImportStop : LoadedFiles → ImportStop → Type 0
IsImportStop loaded TooManyPredicates = HasPredicates loaded (λ n. MOST_PREDICATES < n)
IsImportStop loaded (Faults faults) =
    HasPredicates loaded (λ n. n ≤ MOST_PREDICATES) × AreImportFaults loaded faults.items × (faults.items ≢ [])
IsImportStop loaded NoMemory = Unit {0}

-- the facts are those of a file with this text: they stand in it, none of their terms is too heavy, and no more than
-- nine arguments are added where it declares goals
pub record IsReadFrom (text : NamedText) (facts : Facts) : Type 0 where
  pub named : facts.file ≡ text.0
  pub small : length text.1 ≤ MOST_BYTES
  pub placed : ArePlacedIn text.1 facts
  pub light_clauses : All (λ (p : Predicate). All (λ (tree : Tree). weight tree ≤ MOST_BYTES) p.clauses) facts.defined
  pub light_goals : All (λ (tree : Tree). weight tree ≤ MOST_BYTES) facts.goals
  pub small_metas : All (λ (d : Declaration). All IsSmall d.args) facts.metas

-- what is known of each program: few predicates, and files in order of name, each read from its text
pub record IsKnown (seen : Seen) : Type 0 where
  pub numbered : AreNumbered seen.loaded.files seen.predicates
  pub few : length seen.predicates ≤ MOST_PREDICATES
  pub few_files : length seen.loaded.files ≤ MOST_FILES
  pub roots : AreInOrder seen.loaded.roots
  pub ordered : AreInOrder (map (λ (text : NamedText). text.0) seen.loaded.texts)
  pub read : AllZip IsReadFrom seen.loaded.texts seen.loaded.files
