-- What loaded files come to.
use Rattle.std.specs.Prelude.{◌≡◌, ◌≢◌, ℕ, ◌<◌, ◌≤◌, ◌⊎◌, Option, List, []}
use Rattle.file_library.specs.declared.fault.Fault.{Fault}
use Rattle.file_library.specs.Loaded.{LoadedFiles}
use Rattle.import_rules.specs.declared.names.PredName.{PredName}
use Rattle.import_rules.specs.Flaws.{AreImportFaults}
use Rattle.import_rules.specs.declared.resolve.TheConstants.{MOST_PREDICATES}
use Rattle.import_rules.specs.Program.{Seen, IsProgram, HasPredicates}
use Rattle.call_edges.specs.GoalFaults.{AreGoalFaults}
use Rattle.tool_run.specs.declared.stop.Limit.TheVariants.{TooManyPredicates}
use Rattle.tool_run.specs.Roots.{LacksRoot, HasRoots}
use Rattle.tool_run.specs.End.{End, faults, missing, limit, output}
use Rattle.tool_run.specs.Tool.{Tool}

-- they define too many predicates
abbrev pub DefineTooMany : LoadedFiles → Type 0
DefineTooMany found = HasPredicates found (λ n. MOST_PREDICATES < n)

-- they define few enough, and these are their import faults, one at least
pub record HaveImportFaults (found : LoadedFiles) (list : List Fault) : Type 0 where
  pub few : HasPredicates found (λ n. n ≤ MOST_PREDICATES)
  pub are : AreImportFaults found list
  pub some : list ≢ []

-- they are a program, and these are the goals that aren't callable, one at least
pub record HaveGoalFaults (found : LoadedFiles) (list : List Fault) : Type 0 where
  pub seen : Seen
  pub program : IsProgram found seen
  pub are : AreGoalFaults seen list
  pub some : list ≢ []

-- they are a program, and all its goals are callable
pub record AreCallable (found : LoadedFiles) (seen : Seen) : Type 0 where
  pub program : IsProgram found seen
  pub callable : AreGoalFaults seen []

-- they are a callable program, and this is the first of the names asked for that it does not have
pub record LackRoot (names : Option (List PredName)) (found : LoadedFiles) (root : PredName) : Type 0 where
  pub seen : Seen
  pub program : AreCallable found seen
  pub lacks : LacksRoot names seen root

-- they are a callable program that has all names asked for, and the bytes tell what is asked for of it
pub record TellsFiles {A : Type 0} (tool : Tool A) (asked : A) (found : LoadedFiles) (bytes : List ℕ) : Type 0 where
  pub seen : Seen
  pub program : AreCallable found seen
  pub rooted : HasRoots (tool.names asked) seen
  pub tells : tool.tells asked seen bytes

-- too many predicates come before import faults, these before goal faults, and these before a name that is missing
abbrev pub LoadedComesTo : {A : Type 0} → Tool A → A → LoadedFiles → End → Type 0
LoadedComesTo tool asked found (faults list) = HaveImportFaults found list ⊎ HaveGoalFaults found list
LoadedComesTo tool asked found (limit passed) = (passed ≡ TooManyPredicates) × DefineTooMany found
LoadedComesTo tool asked found (missing root) = LackRoot (tool.names asked) found root
LoadedComesTo tool asked found (output bytes) = TellsFiles tool asked found bytes
LoadedComesTo tool asked found _ = ⊥
