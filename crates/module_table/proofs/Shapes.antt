-- Terms by the number of their arguments.
use Rattle.std.proofs.Common.{◌≡◌, ℕ, false, List, Some, None, refl, ap, sym}
use Rattle.prolog_terms.specs.declared.term.Span.{Span}
use Rattle.prolog_terms.specs.declared.term.Form.{Form}
use Rattle.prolog_terms.specs.Tree.{Tree, Trees, compound, none, more}
use Rattle.prolog_terms.specs.Views.{only_of, pair_of}
use Rattle.prolog_terms.proofs.ViewLemmas.{some_once}
use Rattle.module_table.specs.Loading.{is_functional, system_at}

-- one argument, two or three

pub only_seen : (trees : Trees) (a : Tree) → only_of trees ≡ Some a → trees ≡ more a none
only_seen none a is = let both : None ≡ Some a = is in absurd (cc)
only_seen (more x none) a is = ap (λ t. more t none) (some_once is)
only_seen (more x (more y trees)) a is = let both : None ≡ Some a = is in absurd (cc)

pub pair_seen : (trees : Trees) (a b : Tree) → pair_of trees ≡ Some (a, b) → trees ≡ more a (more b none)
pair_seen none a b is = let both : None ≡ Some (a, b) = is in absurd (cc)
pair_seen (more x none) a b is = let both : None ≡ Some (a, b) = is in absurd (cc)
pair_seen (more x (more y none)) a b is =
    let same : (x, y) ≡ (a, b) = some_once is in
    λ i. more ((same i).0) (more ((same i).1) none)
pair_seen (more x (more y (more z trees))) a b is = let both : None ≡ Some (a, b) = is in absurd (cc)

module _ (name : List ℕ) (form : Form) (span : Span) where
  pub no_system : (args : Trees) → only_of args ≡ None → false ≡ system_at (compound name args form span)
  no_system none other = refl
  no_system (more one none) other = let both : Some one ≡ None = other in absurd (cc)
  no_system (more one (more next args)) other = refl

  pub one_system : (args : Trees) (one : Tree) → only_of args ≡ Some one → is_functional form ≡ system_at (compound name args form span)
  one_system args one is = ap (λ parts. system_at (compound name parts form span)) (sym (only_seen args one is))
