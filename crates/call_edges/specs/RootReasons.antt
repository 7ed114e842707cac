-- Why reach begins at predicates, and which of them modules export.
use Rattle.std.specs.Prelude.{ℕ, ◌≡◌, true}
use Rattle.module_table.specs.Facts.{Facts}
use Rattle.import_rules.specs.Program.{Seen}
use Rattle.call_edges.specs.Calls.{IsAmong}
use Rattle.call_edges.specs.Roots.{Gives, IsCalledByGoal, IsDefinedByRoot, IsExportedByRoot}

-- the file is a module file and exports the predicate
pub record IsExportedByModule (seen : Seen) (file : Facts) (q : ℕ) : Type 0 where
  pub declared : file.is_module ≡ true
  pub gives : Gives seen file true q

-- a module file exports the predicate
abbrev pub IsExported : Seen → ℕ → Type 0
IsExported seen q = IsAmong (IsExportedByModule seen) seen.loaded.files q

-- reach begins at the predicate since a root file that is a module file exports it
abbrev pub IsRootByExport : Seen → ℕ → Type 0
IsRootByExport seen q = IsAmong (IsExportedByRoot seen) seen.loaded.files q

-- since a goal directive of a file calls it
abbrev pub IsRootByDirective : Seen → ℕ → Type 0
IsRootByDirective seen q = IsAmong (IsCalledByGoal seen) seen.loaded.files q

-- since a root file that is no module file defines it
abbrev pub IsRootByFile : Seen → ℕ → Type 0
IsRootByFile seen q = IsAmong (IsDefinedByRoot seen) seen.loaded.files q
