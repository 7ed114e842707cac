-- Which files a file loads.
use Rattle.std.specs.Prelude.{◌≡◌, ℕ, List, Some, Contains, map}
use Rattle.module_table.specs.Facts.{Facts}
use Rattle.module_table.specs.FileText.{HasFacts}
use Rattle.module_table.specs.Said.{Loads}
use Rattle.file_library.specs.Library.{Files}

-- the file is there, reads without fault, and loads the other
pub record FileLoads (files : Files) (user name : List ℕ) : Type 0 where
  pub text : List ℕ
  pub there : files user ≡ Some text
  pub facts : Facts
  pub has : HasFacts user text facts
  pub loads : Contains (map (λ (load : Loads). load.file) facts.loads) name
