-- Declarations of goal arguments, and the first of them for a predicate.
use Rattle.std.specs.Prelude.{ℕ, ◌≡◌, ◌≢◌, ◌+◌, ◌==◌, Bool, if◌then◌else◌, ◌≤◌, All, List, [], Option, Some, None, length, map, flat_map, filter, slice_get}
use Rattle.std.specs.Prelude.{slice_index_or}
use Rattle.std.specs.List.{enumerate_from}
use Rattle.module_table.specs.declared.goal_arg.GoalArg.{GoalArg}
use Rattle.module_table.specs.Metas.{Declaration}
use Rattle.module_table.specs.Facts.{Facts}
use Rattle.module_table.specs.Kinds.{first_of}
use Rattle.import_rules.specs.declared.names.PredName.{PredName}
use Rattle.import_rules.specs.Names.{pred_name, is_same}

-- the predicate that a declaration is for
abbrev pub name_for : Declaration → PredName
name_for d = pred_name d.module_ d.name (length d.args)

-- a declaration and where it stands: the place of a file, and its own among those of the file
pub record MetaAt : Type 0 where
  pub declaration : Declaration
  pub at : ℕ × ℕ

abbrev pub meta_at : ℕ → ℕ × Declaration → MetaAt
meta_at place d = record { declaration = d.1; at = (place, d.0) }

abbrev pub metas_of_file : ℕ → Facts → List MetaAt
metas_of_file place file = map (meta_at place) (enumerate_from 0 file.metas)

-- all declarations, in order of file and offset
abbrev pub metas_in : List Facts → List MetaAt
metas_in files = flat_map (λ (at : ℕ × Facts). metas_of_file at.0 at.1) (enumerate_from 0 files)

-- whether the declaration is for the predicate
abbrev pub is_for : PredName → MetaAt → Bool
is_for p m = is_same p (name_for m.declaration)

-- the first declaration for the predicate
abbrev pub first_for : List MetaAt → PredName → Option MetaAt
first_for metas p = first_of (filter (is_for p) metas)

abbrev pub args_of : Option MetaAt → List GoalArg
args_of (Some m) = m.declaration.args
args_of None = []

-- how the arguments of goals of the predicate stand, where it is declared
abbrev pub args_for : List Facts → PredName → List GoalArg
args_for files p = args_of (first_for (metas_in files) p)

-- what is kept of the place of a declaration: one more than its place in the file; 0 where there is none
abbrev pub kept_as : Option MetaAt → ℕ × ℕ
kept_as (Some m) = (m.at.0, m.at.1 + 1)
kept_as None = (0, 0)

-- for each predicate the place of its declaration, or nothing at all where none has one
pub record AreDeclared (metas : List MetaAt) (predicates : List PredName) (kept : List (ℕ × ℕ)) : Type 0 where
  pub as_many : kept ≢ [] → length kept ≡ length predicates
  pub each : (node : ℕ) (p : PredName) → slice_get predicates node ≡ Some p → slice_index_or kept node (0, 0) ≡ kept_as (first_for metas p)

-- the place that is there stays
abbrev pub first_kept : ℕ × ℕ → ℕ × ℕ → ℕ × ℕ
first_kept old new = if old.1 == 0 then new else old

-- so few declarations that their numbers fit, and so few arguments
pub record HasFewMetas (file : Facts) : Type 0 where
  pub few : length file.metas ≤ 4294967294
  pub small : All (λ (d : Declaration). length d.args ≤ 4294967295) file.metas
