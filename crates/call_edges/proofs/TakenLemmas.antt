-- What a call of a predicate is to the body that it stands in.
use Rattle.std.proofs.Common.{◌≡◌, ℕ, ◌+◌, List, Some, length, ap, sym, ◌∙◌}
use Rattle.prolog_terms.specs.Tree.{Tree}
use Rattle.module_table.specs.Metas.{added}
use Rattle.call_edges.specs.declared.role.Role.{Role}
use Rattle.call_edges.specs.declared.role.Way.TheVariants.{Calling}
use Rattle.call_edges.specs.Goals.{Rows, Standing, Taken, call, way, taken_by, taken}

-- a call is met at it
abbrev pub called_at : ℕ → List ℕ → Role → List ℕ → ℕ → ℕ → Standing → Taken
called_at at owner role name arity more standing = record {
  met = Some (call at owner name arity more role.negated);
  module_ = owner;
  standing = standing;
  negated = role.negated;
}

pub calling_is : (T : Rows) (at : ℕ) (owner : List ℕ) (role : Role) (name : List ℕ) (args : List Tree) (arity more : ℕ) (standing : Standing)
    → way role.arg name (length args) ≡ Calling → arity ≡ length args + added role.arg → more ≡ added role.arg → standing ≡ T owner name arity
    → called_at at owner role name arity more standing ≡ taken T at owner role name args
calling_is T at owner role name args arity more standing is count few stands =
    let own : standing ≡ T owner name (length args + added role.arg) = stands ∙ ap (T owner name) count in
    let seen : called_at at owner role name arity more standing ≡ taken_by T Calling at owner role name args =
    λ i. called_at at owner role name (count i) (few i) (own i) in
    seen ∙ sym (ap (λ w. taken_by T w at owner role name args) is)
