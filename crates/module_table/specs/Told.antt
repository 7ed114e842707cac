-- What is told of a directive.
use Rattle.std.specs.Prelude.{ℕ, ◌≡◌, List}
use Rattle.prolog_terms.specs.Tree.{Tree}
use Rattle.module_table.specs.declared.directive.Told.{Told}
use Rattle.module_table.specs.declared.directive.Told.TheVariants.{Goal, Done}
use Rattle.module_table.specs.declared.kinds.Kinds.{Kinds}
use Rattle.module_table.specs.Said.{Said, only, goal}
use Rattle.module_table.specs.Kept.{IsAdded}

-- the directive is a goal and nothing was added, or all that it says was
abbrev pub IsTold : List (List ℕ) → Told → Kinds → Said → Tree → Kinds → Type 0
IsTold names Goal old said tree new = (said ≡ only (goal tree)) × (new ≡ old)
IsTold names Done old said tree new = IsAdded names old said new
