-- What is met within a control construct: what is met within its sides.
use Rattle.std.proofs.Common.{◌≡◌, ℕ, List, [], ◌∷◌, Some, ap, sym, subst, refl, arith, append-nil}
use Rattle.prolog_terms.specs.declared.term.Span.{Span}
use Rattle.prolog_terms.specs.declared.term.Form.{Form}
use Rattle.prolog_terms.specs.Tree.{Tree, compound, paren, none, more}
use Rattle.prolog_terms.specs.Views.{Binary, binary}
use Rattle.prolog_terms.proofs.ViewLemmas.{some_once, some_none}
use Rattle.module_table.specs.declared.goal_arg.GoalArg.{GoalArg}
use Rattle.call_edges.specs.declared.role.Role.{Role}
use Rattle.call_edges.specs.declared.role.Way.TheVariants.{Control}
use Rattle.call_edges.specs.Goals.{place, Taken, taken, taken_by, unmet, by_row, first_two as both_in, settled, way, AddsMet}
use Rattle.call_edges.specs.PlainCalls.{AreSides}
use Rattle.call_edges.proofs.MetLemmas.{two_arguments}
use Rattle.call_edges.proofs.WalkLemmas.{paren_walked, compound_walked}

module _ (role : Role) (stays : settled role.arg ≡ role.arg) where
  abbrev IsParted : Tree → Binary → Type 0
  IsParted tree pair = way role.arg pair.name 2 ≡ Control → AreSides role tree pair.left pair.right

  compound_parted : (name : List ℕ) (left right : Tree) (form : Form) (span : Span)
      → IsParted (compound name (more left (more right none)) form span) (record { name = name; left = left; right = right })
  compound_parted name left right form span control = record {
    weigh = omega arith;
    adds = λ T owner old mid new first second.
        let args = more left (more right none) in
        let parts = left ∷ right ∷ [] in
        let apart : Taken = unmet owner (by_row (both_in (settled role.arg))) role.negated in
        let is : apart ≡ taken T span.from owner role name parts = sym (ap (λ w. taken_by T w span.from owner role name parts) control) in
        let P : GoalArg → Type 0 = λ arg. AddsMet T (place owner (record { arg = arg; negated = role.negated }) left) old mid in
        let Q : GoalArg → Type 0 = λ arg. AddsMet T (place owner (record { arg = arg; negated = role.negated }) right) mid new in
        compound_walked T owner role (compound name args form span) old new name args form span apart old refl is (sym (append-nil old))
        (two_arguments T apart args left right old mid new refl (subst P (sym stays) first) (subst Q (sym stays) second));
  }

  pub parted : (tree : Tree) (pair : Binary) → binary tree ≡ Some pair → IsParted tree pair
  parted (compound name (more left (more right none)) form span) pair is =
      subst (IsParted (compound name (more left (more right none)) form span)) (some_once is) (compound_parted name left right form span)
  parted (paren inner span) pair is = λ control.
      let own = parted inner pair is control in record {
        weigh = omega (arith, own.weigh);
        adds = λ T owner old mid new first second.
            paren_walked T owner role (paren inner span) old new inner span refl (own.adds T owner old mid new first second);
      }
  parted tree pair is = absurd (some_none pair (sym is))
