-- The arguments of a compound that was taken apart, and what is met within them.
use Rattle.std.specs.Prelude.{ℕ, ◌≡◌, ◌≤◌, ◌+◌, ◌*◌, List, Some, slice_get}
use Rattle.prolog_terms.specs.Tree.{Tree}
use Rattle.prolog_terms.specs.Weight.{weight}
use Rattle.module_table.specs.Metas.{added}
use Rattle.call_edges.specs.Goals.{Met, Place, Rows, Taken, role_at, Adds, IsArgument, IsMet}

-- each argument, as it is a goal there, is light enough to be walked
pub record AreLightArguments (apart : Taken) (args : List Tree) : Type 0 where
  pub each : (i : ℕ) (tree : Tree) → slice_get args i ≡ Some tree → added (role_at apart.standing i) + 10 * weight tree ≤ 4294967295

-- it is met within one of the arguments
pub record IsMetInArgument (T : Rows) (apart : Taken) (args : List Tree) (m : Met) : Type 0 where
  pub part : Place
  pub is : IsArgument apart args part
  pub met : IsMet T part m

-- the new list has what the old one has, and what is met within the arguments
abbrev pub AddsArguments : Rows → Taken → List Tree → List Met → List Met → Type 0
AddsArguments T apart args old new = Adds (IsMetInArgument T apart args) old new
