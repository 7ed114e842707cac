-- What `calls` tells of a program.
use Rattle.std.proofs.Common.{ℕ, ◌<◌, List, All, length}
use Rattle.file_library.specs.Loaded.{LoadedFiles, WasLoaded}
use Rattle.import_rules.specs.Program.{Seen, IsProgram}
use Rattle.call_told.specs.Told.{TellsFrom}
use Rattle.call_told.specs.Wanted.{Asked}
use Rattle.calls_tool.specs.Calls.{calls_tool}
use Rattle.laws.proofs.LoadedEnds.{CanTell, ProgramLaws}
use Rattle.laws.proofs.NamedRoots.{all_below, some_roots}

-- what is asked for is told, reach beginning at some predicates, as the law says it
abbrev pub ToldExists : Type 0
ToldExists =
    (loaded : LoadedFiles) (seen : Seen) → WasLoaded loaded → IsProgram loaded seen → (asked : Asked) (roots : List ℕ) → All (λ q. q < length seen.predicates) roots
    → (bytes : List ℕ) × TellsFrom asked seen roots bytes

pub can_tell : ProgramLaws → ToldExists → (asked : Asked) → CanTell calls_tool asked
can_tell laws told asked found seen was program has =
    let roots = some_roots laws.roots asked.settings.roots seen program.numbered.in_order has in
    let below = all_below laws.below asked.settings.roots seen roots.0 roots.1 in
    let bytes = told found seen was program asked roots.0 below in
    (bytes.0, record { roots = roots.0; are = roots.1; tells = bytes.1 })
