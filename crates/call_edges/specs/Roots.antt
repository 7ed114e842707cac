-- Where reach begins.
use Rattle.std.specs.Prelude.{ℕ, ◌≡◌, ◌⊎◌, ◌↔◌, List, Some, Bool, true, false, Contains, slice_index_or}
use Rattle.std.specs.List.{AllZip}
use Rattle.module_table.specs.declared.indicator.Indicator.{Indicator}
use Rattle.module_table.specs.Defined.{Predicate}
use Rattle.module_table.specs.Facts.{Facts}
use Rattle.import_rules.specs.Program.{Seen, found}
use Rattle.call_edges.specs.ProgramRows.{rows_of}
use Rattle.call_edges.specs.Calls.{IsAmong, IsMetInGoals, GoesTo}

-- what the indicator means in the module
abbrev pub IsExportOf : Seen → List ℕ → Indicator → ℕ → Type 0
IsExportOf seen owner i n = found seen owner i.name i.arity ≡ Some n

-- a module file gives the predicates of its exports, and another file those that it defines, in whichever module
abbrev pub Gives : Seen → Facts → Bool → ℕ → Type 0
Gives seen file true q = IsAmong (IsExportOf seen file.module_) file.exports q
Gives seen file false q = IsAmong (λ (p : Predicate) n. found seen p.module_ p.name p.arity ≡ Some n) file.defined q

-- the file is a root file that gives the predicate
pub record IsGivenByRoot (seen : Seen) (file : Facts) (q : ℕ) : Type 0 where
  pub is_root : Contains seen.loaded.roots file.file
  pub gives : Gives seen file file.is_module q

-- a goal directive of the file calls the predicate
abbrev pub IsCalledByGoal : Seen → Facts → ℕ → Type 0
IsCalledByGoal seen file q = GoesTo seen (IsMetInGoals (rows_of seen) file) q

-- one of the files makes the predicate a root
abbrev pub IsRoot : Seen → ℕ → Type 0
IsRoot seen q = IsAmong (λ (file : Facts) n. IsGivenByRoot seen file n ⊎ IsCalledByGoal seen file n) seen.loaded.files q

-- the file is a root file and a module file, and exports the predicate
pub record IsExportedByRoot (seen : Seen) (file : Facts) (q : ℕ) : Type 0 where
  pub is_root : Contains seen.loaded.roots file.file
  pub declared : file.is_module ≡ true
  pub gives : Gives seen file true q

-- the file is a root file and no module file
pub record IsPlainRoot (roots : List (List ℕ)) (file : Facts) : Type 0 where
  pub is_root : Contains roots file.file
  pub plain : file.is_module ≡ false

-- such a file defines the predicate
abbrev pub IsDefinedByRoot : Seen → Facts → ℕ → Type 0
IsDefinedByRoot seen file q = IsPlainRoot seen.loaded.roots file × Gives seen file false q

-- just those files are marked
abbrev pub AreMarked : Seen → List Bool → Type 0
AreMarked seen marks = AllZip (λ (file : Facts) mark. (mark ≡ true) ↔ IsPlainRoot seen.loaded.roots file) seen.loaded.files marks

-- one of the places is in a marked file
pub record HasMarked (marks : List Bool) (places : List (ℕ × ℕ)) : Type 0 where
  pub at : ℕ × ℕ
  pub has : Contains places at
  pub marked : slice_index_or marks at.0 false ≡ true
