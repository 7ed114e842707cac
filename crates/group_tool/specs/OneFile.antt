-- A library of one file.
use Rattle.std.specs.Prelude.{◌≡◌, List, ℕ, []}
use Rattle.group_tool.specs.declared.one_file.OneFile.{OneFile}

-- it has this file, and nothing was asked yet
pub record IsNewFile (name text : List ℕ) (library : OneFile) : Type 0 where
  pub named : library.name ≡ name
  pub holds : library.text.items ≡ text
  pub none_asked : library.asked.items ≡ []
  pub none_answered : library.notes.items ≡ []
  pub no_misses : library.misses ≡ 0
