-- What `calls` answers.
use Rattle.std.specs.Prelude.{ℕ, List, None, codes}
use Rattle.import_rules.specs.Program.{Seen}
use Rattle.call_told.specs.Told.{TellsFrom}
use Rattle.call_told.specs.Wanted.{Asked}
use Rattle.tool_run.specs.Roots.{AreRootNumbers}
use Rattle.tool_run.specs.Tool.{Tool}

-- the bytes tell of the program what is asked for, reach beginning at the roots that are asked for, or at those of the program
pub record TellsProgram (asked : Asked) (seen : Seen) (bytes : List ℕ) : Type 0 where
  pub roots : List ℕ
  pub are : AreRootNumbers asked.settings.roots seen roots
  pub tells : TellsFrom asked seen roots bytes

abbrev pub usage_line : List ℕ
usage_line = codes "usage: calls [--roots LIST] [--unreached] [--undefined | --dot [--condensed]] FILE...\n"

-- the program: what its words ask for, and what it tells of the files; it makes none
abbrev pub calls_tool : Tool Asked
calls_tool = record {
  name = codes "calls";
  usage = usage_line;
  make = λ asked. None;
  files = λ asked. asked.settings.files;
  names = λ asked. asked.settings.roots;
  tells = TellsProgram;
}
