-- Directives by the number of their arguments.
use Rattle.std.proofs.Common.{◌≡◌, ℕ, Bool, true, false, codes, List, Some, None, refl, ap, sym, ◌∙◌}
use Rattle.std.specs.Str.{bytes_eq}
use Rattle.prolog_terms.specs.declared.term.Span.{Span}
use Rattle.prolog_terms.specs.declared.term.Form.{Form}
use Rattle.prolog_terms.specs.Tree.{Tree, Trees, compound, none, more as with_more}
use Rattle.prolog_terms.specs.Views.{start_of, only_of, pair_of, triple_of}
use Rattle.module_table.specs.Said.{only, goal}
use Rattle.module_table.specs.Directives.{Home, module_said, one_said, two_said, three_said, shallow_said}
use Rattle.module_table.proofs.Shapes.{only_seen, pair_seen}

-- a module is declared by the first clause
pub module_first : (user : Home) (first : Bool) (name : List ℕ) (left right tree : Tree) → bytes_eq name (codes "module") ≡ true → first ≡ true
    → module_said left right (start_of tree) ≡ two_said user first name left right tree
module_first user true name left right tree is first = rw is refl
module_first user false name left right tree is first = let clash : false ≡ true = first in absurd (cc)

module _ (user : Home) (first : Bool) (name : List ℕ) (form : Form) (span : Span) where
  abbrev whole : Trees → Tree
  whole args = compound name args form span

  pub shallow_one : (args : Trees) (a : Tree) → only_of args ≡ Some a → one_said user name a (whole args) ≡ shallow_said user first (whole args)
  shallow_one args a is =
      let args_are : args ≡ with_more a none = only_seen args a is in
      ap (λ t. one_said user name a (whole t)) args_are ∙ ap (λ t. shallow_said user first (whole t)) (sym args_are)

  pub shallow_two : (args : Trees) (a b : Tree) → pair_of args ≡ Some (a, b) → two_said user first name a b (whole args) ≡ shallow_said user first (whole args)
  shallow_two args a b is =
      let args_are : args ≡ with_more a (with_more b none) = pair_seen args a b is in
      ap (λ t. two_said user first name a b (whole t)) args_are ∙ ap (λ t. shallow_said user first (whole t)) (sym args_are)

  pub shallow_three : (args : Trees) (three : Tree × Tree × Tree) → triple_of args ≡ Some three → three_said name (whole args) ≡ shallow_said user first (whole args)
  shallow_three none three is = let both : None ≡ Some three = is in absurd (cc)
  shallow_three (with_more x none) three is = let both : None ≡ Some three = is in absurd (cc)
  shallow_three (with_more x (with_more y none)) three is = let both : None ≡ Some three = is in absurd (cc)
  shallow_three (with_more x (with_more y (with_more z none))) three is = refl
  shallow_three (with_more x (with_more y (with_more z (with_more w args)))) three is = let both : None ≡ Some three = is in absurd (cc)

  pub shallow_other : (args : Trees) → only_of args ≡ None → pair_of args ≡ None → triple_of args ≡ None → shallow_said user first (whole args) ≡ only (goal (whole args))
  shallow_other none one two three = refl
  shallow_other (with_more x none) one two three = let both : Some x ≡ None = one in absurd (cc)
  shallow_other (with_more x (with_more y none)) one two three = let both : Some (x, y) ≡ None = two in absurd (cc)
  shallow_other (with_more x (with_more y (with_more z none))) one two three = let both : Some (x, y, z) ≡ None = three in absurd (cc)
  shallow_other (with_more x (with_more y (with_more z (with_more w args)))) one two three = refl
