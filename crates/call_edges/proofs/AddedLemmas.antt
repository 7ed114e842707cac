-- How many arguments are added at most, and that an argument weighs that much less.
use Rattle.std.specs.Prelude.{All, slice_index_or}
use Rattle.std.proofs.lemmas.Bool.{cases_lt}
use Rattle.std.proofs.lemmas.List.{get_or_past}
use Rattle.std.proofs.Common.{◌≡◌, inl, inr, ℕ, ◌+◌, ◌*◌, ◌-◌, ◌≤◌, ◌==◌, Bool, true, false, List, [], ◌∷◌, Option, Some, None, length, slice_get, if◌then◌else◌, codes, ap, sym, subst, refl, arith}
use Rattle.std.specs.Str.{bytes_eq}
use Rattle.std.proofs.lemmas.Bool.{eqb-true}
use Rattle.std.proofs.lemmas.Option.{slice_get_within}
use Rattle.prolog_terms.specs.Tree.{Tree, Trees}
use Rattle.prolog_terms.specs.Views.{atom_name, trees_in}
use Rattle.prolog_terms.specs.Weight.{weight, weights}
use Rattle.module_table.specs.Heads.{is_among}
use Rattle.call_edges.proofs.MeantLemmas.{meant_small}
use Rattle.call_edges.proofs.PartLemmas.{part_count}
use Rattle.module_table.specs.declared.goal_arg.GoalArg.{GoalArg}
use Rattle.module_table.specs.declared.goal_arg.GoalArg.TheVariants.{Plain, Goal, Caret, Grammar}
use Rattle.call_edges.specs.declared.role.Role.{Role}
use Rattle.call_edges.specs.declared.role.Row.{Row}
use Rattle.call_edges.specs.declared.role.Way.{Way}
use Rattle.call_edges.specs.declared.role.Way.TheVariants.{Silent, Behind, Control, Negation, Qualified, Calling}
use Rattle.module_table.specs.Metas.{IsSmall, added}
use Rattle.import_rules.specs.Program.{Seen, IsKnown, meta_meant}
use Rattle.call_edges.specs.ProgramRows.{standing_by, rows_of}
use Rattle.call_edges.specs.Goals.{first_only, second_only, first_two, first_and_third, adding_row, one_row, two_row, three_row, four_row, row, Standing, by_table, Rows, way, settled, goal_named, qualified_taken, taken_by, taken, role_at}

-- no argument gets more than n, or than the nine of a declaration
pub record IsWithin (n : ℕ) (standing : Standing) : Type 0 where
  pub each : (i : ℕ) → added (role_at standing i) ≤ n + 9

abbrev IsRowWithin : ℕ → Option Row → Type 0
IsRowWithin n row = IsWithin n (by_table row)

pub record RowsWithin (T : Rows) : Type 0 where
  pub each : (owner name : List ℕ) (n : ℕ) → IsWithin n (T owner name n)

chosen : {X : Type 0} (P : X → Type 0) (test : Bool) (x y : X) → (test ≡ true → P x) → (test ≡ false → P y) → P (if test then x else y)
chosen P true x y here there = here refl
chosen P false x y here there = there refl

none_within : (n : ℕ) → IsRowWithin n None
none_within n = record { each = λ i. omega arith }

role_within : (n : ℕ) (row : Row) → added row.first ≤ n → added row.second ≤ n → added row.third ≤ n → IsRowWithin n (Some row)
role_within n row first second third = record {
  each = λ i.
      let P : GoalArg → Type 0 = λ role. added role ≤ n + 9 in
      chosen P (i == 0) row.first (if i == 1 then row.second else if i == 2 then row.third else Plain) (λ _. omega (arith, first))
      (λ _. chosen P (i == 1) row.second (if i == 2 then row.third else Plain) (λ _. omega (arith, second)) (λ _. chosen P (i == 2) row.third Plain (λ _. omega (arith, third)) (λ _. omega arith)));
}

first_within : (n : ℕ) (role : GoalArg) → added role ≤ n → IsRowWithin n (Some (first_only role))
first_within n role small = role_within n (first_only role) small (omega arith) (omega arith)

second_within : (n : ℕ) (role : GoalArg) → added role ≤ n → IsRowWithin n (Some (second_only role))
second_within n role small = role_within n (second_only role) (omega arith) small (omega arith)

adding_within : (name : List ℕ) (n : ℕ) → IsRowWithin n (adding_row name n)
adding_within name n =
    chosen (IsRowWithin n) (is_among (codes "call" ∷ codes "maplist" ∷ []) name) (Some (first_only (Goal (n - 1)))) None
    (λ _. first_within n (Goal (n - 1)) (omega arith)) (λ _. none_within n)

one_within : (name : List ℕ) (n : ℕ) → IsRowWithin n (one_row name)
one_within name n =
    chosen (IsRowWithin n) (is_among (codes "call" ∷ codes "once" ∷ codes "ignore" ∷ codes "not" ∷ codes "initialization" ∷ []) name) (Some (first_only (Goal 0))) None
    (λ _. first_within n (Goal 0) (omega arith)) (λ _. none_within n)

two_within : (name : List ℕ) → IsRowWithin 2 (two_row name)
two_within name =
    chosen (IsRowWithin 2) (bytes_eq name (codes "forall")) _ _ (λ _. role_within 2 (first_two (Goal 0)) (omega arith) (omega arith) (omega arith))
    (λ _. chosen (IsRowWithin 2) (bytes_eq name (codes "initialization")) _ _ (λ _. first_within 2 (Goal 0) (omega arith))
    (λ _. chosen (IsRowWithin 2) (bytes_eq name (codes "phrase")) _ _ (λ _. first_within 2 Grammar (omega arith)) (λ _. adding_within name 2)))

three_within : (name : List ℕ) → IsRowWithin 3 (three_row name)
three_within name =
    chosen (IsRowWithin 3) (bytes_eq name (codes "findall")) _ _ (λ _. second_within 3 (Goal 0) (omega arith))
    (λ _. chosen (IsRowWithin 3) (is_among (codes "bagof" ∷ codes "setof" ∷ []) name) _ _ (λ _. second_within 3 Caret (omega arith))
    (λ _. chosen (IsRowWithin 3) (bytes_eq name (codes "catch")) _ _ (λ _. role_within 3 (first_and_third (Goal 0)) (omega arith) (omega arith) (omega arith))
    (λ _. chosen (IsRowWithin 3) (bytes_eq name (codes "phrase")) _ _ (λ _. first_within 3 Grammar (omega arith)) (λ _. adding_within name 3))))

four_within : (name : List ℕ) → IsRowWithin 4 (four_row name)
four_within name =
    chosen (IsRowWithin 4) (bytes_eq name (codes "findall")) _ _ (λ _. second_within 4 (Goal 0) (omega arith)) (λ _. adding_within name 4)

pub row_within : (name : List ℕ) (n : ℕ) → IsRowWithin n (row name n)
row_within name n =
    chosen (IsRowWithin n) (n == 0) _ _ (λ _. none_within n)
    (λ _. chosen (IsRowWithin n) (n == 1) _ _ (λ _. one_within name n)
    (λ _. chosen (IsRowWithin n) (n == 2) _ _ (λ is. subst (λ k. IsRowWithin k (two_row name)) (sym (eqb-true n 2 is)) (two_within name))
    (λ _. chosen (IsRowWithin n) (n == 3) _ _ (λ is. subst (λ k. IsRowWithin k (three_row name)) (sym (eqb-true n 3 is)) (three_within name))
    (λ _. chosen (IsRowWithin n) (n == 4) _ _ (λ is. subst (λ k. IsRowWithin k (four_row name)) (sym (eqb-true n 4 is)) (four_within name)) (λ _. adding_within name n)))))

-- what is declared adds nine at most

args_within : (args : List GoalArg) → All IsSmall args → (i : ℕ) → added (slice_index_or args i Plain) ≤ 9
args_within args small i =
    elim (cases_lt i (length args)) [
      | inl below ↦ small i Plain below
      | inr past ↦ let none : slice_index_or args i Plain ≡ Plain = get_or_past args i Plain past in omega (arith, ap added none)
    ]

standing_within : (table : Option Row) (args : List GoalArg) (n : ℕ) → IsRowWithin n table → All IsSmall args → IsWithin n (standing_by table args)
standing_within table [] n within small = within
standing_within table (arg ∷ args) n within small = record { each = λ i. omega (arith, args_within (arg ∷ args) small i) }

pub rows_within : (seen : Seen) → IsKnown seen → RowsWithin (rows_of seen)
rows_within seen known = record {
  each = λ owner name n. standing_within (row name n) (meta_meant seen owner name n) n (row_within name n) (meant_small seen known owner name n);
}

settled_within : (arg : GoalArg) → added (settled arg) ≤ added arg
settled_within Plain = omega arith
settled_within (Goal e) = omega arith
settled_within Caret = omega arith
settled_within Grammar = omega arith

module _ (T : Rows) (within : RowsWithin T) where
  named_within : (owner : List ℕ) (role : Role) (tree : Tree) (found : Option (List ℕ)) (n : ℕ) → added role.arg ≤ n → IsWithin n (goal_named owner role tree found).standing
  named_within owner role tree (Some name) n small = second_within n (settled role.arg) (omega (arith, settled_within role.arg, small))
  named_within owner role tree None n small = none_within n

  qualified_within : (owner : List ℕ) (role : Role) (args : List Tree) (n : ℕ) → added role.arg ≤ n → IsWithin n (qualified_taken owner role args).standing
  qualified_within owner role [] n small = none_within n
  qualified_within owner role (tree ∷ trees) n small = named_within owner role tree (atom_name tree) n small

  by_within : (w : Way) (at : ℕ) (owner : List ℕ) (role : Role) (name : List ℕ) (args : List Tree)
      → IsWithin (length args + added role.arg) (taken_by T w at owner role name args).standing
  by_within Silent at owner role name args = none_within (length args + added role.arg)
  by_within Behind at owner role name args = second_within (length args + added role.arg) Caret (omega arith)
  by_within Control at owner role name args =
      let small : added (settled role.arg) ≤ length args + added role.arg = omega (arith, settled_within role.arg) in
      role_within (length args + added role.arg) (first_two (settled role.arg)) small small (omega arith)
  by_within Negation at owner role name args =
      let small : added (settled role.arg) ≤ length args + added role.arg = omega (arith, settled_within role.arg) in
      first_within (length args + added role.arg) (settled role.arg) small
  by_within Qualified at owner role name args = qualified_within owner role args (length args + added role.arg) (omega arith)
  by_within Calling at owner role name args = within.each owner name (length args + added role.arg)

  -- what is added to an argument and ten times its weight are no more than what is added to the compound and ten times the weight of all its arguments
  pub argument_within : (at : ℕ) (owner : List ℕ) (role : Role) (name : List ℕ) (args : Trees) (i : ℕ) (tree : Tree) → slice_get (trees_in args) i ≡ Some tree
      → added (role_at (taken T at owner role name (trees_in args)).standing i) + 10 * weight tree ≤ added role.arg + 10 * weights args
  argument_within at owner role name args i tree is =
      let parts = trees_in args in
      let few = (by_within (way role.arg name (length parts)) at owner role name parts).each i in
      omega (arith, few, part_count args i tree is, slice_get_within parts i tree is)
