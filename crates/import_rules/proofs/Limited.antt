-- The texts of a program are within the limits of loading.
use Rattle.std.proofs.Common.{◌≤◌, length, arith}
use Rattle.std.proofs.Math.Logic.{∥∥₁_elim}
use Rattle.std.proofs.Props.{props}
use Rattle.file_library.specs.declared.limits.TheConstants.{MOST_FILES}
use Rattle.file_library.specs.Loaded.{LoadedFiles, WasLoaded}
use Rattle.file_library.specs.SortedOut.{see_loaded}
use Rattle.file_library.specs.Spots.{AreLimited}
use Rattle.import_rules.specs.declared.program_tables.ProgramTables.{ProgramTables}
use Rattle.import_rules.specs.Program.{see_program}
use Rattle.import_rules.proofs.AllFound.{small_each}
use Rattle.import_rules.proofs.Known.{known}

texts_few : (loaded : LoadedFiles) → WasLoaded loaded → length loaded.texts ≤ MOST_FILES
texts_few loaded was = omega (arith, was.is.few)

pub limited : (p : ProgramTables) → AreLimited (see_program p).loaded.texts
unfolding see_program
limited p =
    let loaded = see_loaded p.loaded in record {
      few = ∥∥₁_elim p.was_loaded (hlevel props) (λ was. texts_few loaded was);
      small = small_each loaded.texts loaded.files (known p).read;
    }
