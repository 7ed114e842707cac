-- From files to their program, and from a program to the end of a run.
use Rattle.std.specs.Prelude.{◌≡◌, ℕ, ◌⊎◌, List, Result, Ok, Err}
use Rattle.file_library.specs.Asking.{LoadEnd}
use Rattle.file_library.specs.Asking as of_load
use Rattle.file_library.specs.Loaded.{LoadedFiles}
use Rattle.import_rules.specs.Program.{Seen, IsProgram}
use Rattle.import_rules.specs.declared.program.Program.{Program}
use Rattle.tool_run.specs.declared.stop.Limit.TheVariants.{TooManyFiles, FileTooLarge, TooMuchText, TooManyPredicates}
use Rattle.tool_run.specs.declared.stop.Stop.{Stop}
use Rattle.tool_run.specs.Answer.{IsLoadedEnd}
use Rattle.tool_run.specs.Asking.{Asking, EndsAsking}
use Rattle.tool_run.specs.End.{End, faults, unread, limit, no_memory}
use Rattle.tool_run.specs.LoadedEnd.{DefineTooMany, HaveImportFaults}
use Rattle.tool_run.specs.Stop.{end_of_stop}
use Rattle.tool_run.specs.Tool.{Tool}

-- loaded files are no program: they define too many predicates, or have import faults
abbrev pub AreNoProgram : LoadedFiles → End → Type 0
AreNoProgram found (faults list) = HaveImportFaults found list
AreNoProgram found (limit passed) = (passed ≡ TooManyPredicates) × DefineTooMany found
AreNoProgram found _ = ⊥

-- the asking for files that ended so comes to this end before there is a program, unless memory was wanting behind it
abbrev pub StopsAt : LoadEnd → End → Type 0
StopsAt (of_load.loaded found) end = (end ≡ no_memory) ⊎ AreNoProgram found end
StopsAt (of_load.faults found) end = end ≡ faults found
StopsAt (of_load.unread name) end = end ≡ unread name
StopsAt of_load.too_many end = end ≡ limit TooManyFiles
StopsAt (of_load.too_large name) end = end ≡ limit (FileTooLarge name)
StopsAt of_load.too_much end = end ≡ limit TooMuchText
StopsAt of_load.no_memory end = end ≡ no_memory

-- loaded files are this program, or none
abbrev pub AreResolved : LoadedFiles → Result Program Stop → Type 0
AreResolved found (Ok program) = IsProgram found program
AreResolved found (Err stop) = (end_of_stop stop ≡ no_memory) ⊎ AreNoProgram found (end_of_stop stop)

-- files were asked for, and they are a program
pub record IsLoadedProgram (names : List (List ℕ)) (library : Asking) (seen : Seen) : Type 0 where
  pub found : LoadedFiles
  pub asking : EndsAsking library names (of_load.loaded found)
  pub is : IsProgram found seen

-- or that stopped
pub record IsStopped (names : List (List ℕ)) (library : Asking) (end : End) : Type 0 where
  pub load : LoadEnd
  pub asking : EndsAsking library names load
  pub stops : StopsAt load end

-- the library was asked for files of these names and all that they lead to, and they are this program, or why there is none
abbrev pub AreLoaded : List (List ℕ) → Asking → Result Program Stop → Type 0
AreLoaded names library (Ok program) = IsLoadedProgram names library program
AreLoaded names library (Err stop) = IsStopped names library (end_of_stop stop)

-- whatever files the program is of, they come to this end, or memory was wanting
abbrev pub ProgramComesTo : {A : Type 0} → Tool A → A → Seen → End → Type 0
ProgramComesTo tool asked seen end = (found : LoadedFiles) → IsProgram found seen → IsLoadedEnd tool asked found end

-- what the program comes to is an end of this kind; where there is none, the stop is
abbrev pub CarriesOn : {A : Type 0} → Tool A → A → (End → Type 0) → Result Program Stop → Type 0
CarriesOn tool asked ends (Ok program) = (end : End) → ProgramComesTo tool asked program end → ends end
CarriesOn tool asked ends (Err stop) = ends (end_of_stop stop)
