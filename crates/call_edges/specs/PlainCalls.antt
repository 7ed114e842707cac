-- Calls whose arguments are no goals.
use Rattle.std.specs.Prelude.{ℕ, ◌≡◌, ◌≤◌, ◌+◌, ◌++◌, ◌∷◌, List, []}
use Rattle.prolog_terms.specs.Tree.{Tree}
use Rattle.prolog_terms.specs.Views.{start_of}
use Rattle.prolog_terms.specs.Weight.{weight}
use Rattle.module_table.specs.Metas.{added}
use Rattle.import_rules.specs.Program.{Seen, meta_meant}
use Rattle.call_edges.specs.Goals.{Met, call, place, Rows, AddsMet}
use Rattle.call_edges.specs.declared.role.Role.{Role}
use Rattle.call_edges.specs.ProgramRows.{rows_of}

-- just this is met within the term
abbrev pub IsMetAlone : Seen → List ℕ → Role → Tree → Met → Type 0
IsMetAlone seen owner role tree m = (old : List Met) → AddsMet (rows_of seen) (place owner role tree) old (old ++ m ∷ [])

-- just a call of the name is, unless the predicate that it means declares its arguments
abbrev pub IsPlain : Role → Tree → List ℕ → ℕ → Type 0
IsPlain role tree name arity =
    (seen : Seen) (owner : List ℕ) → meta_meant seen owner name arity ≡ [] → IsMetAlone seen owner role tree
    (call (start_of tree) owner name arity (added role.arg) role.negated)

-- what is met within the two terms is all that is met within a term, and they weigh less
pub record AreSides (role : Role) (tree left right : Tree) : Type 0 where
  pub weigh : weight left + weight right + 2 ≤ weight tree
  pub adds :
      (T : Rows) (owner : List ℕ) (old mid new : List Met) → AddsMet T (place owner role left) old mid → AddsMet T (place owner role right) mid new
      → AddsMet T (place owner role tree) old new
