-- The arguments of a compound, where there is one of them or two, and what they weigh.
use Rattle.std.proofs.Common.{◌≡◌, ℕ, zero, suc, ◌+◌, ◌≤◌, ◌==◌, Bool, true, false, ◌&&◌, List, Some, None, length, slice_get, if◌then◌else◌, codes, ap, refl, arith}
use Rattle.std.specs.Str.{bytes_eq}
use Rattle.std.proofs.lemmas.Bool.{eqb-true, and_parts}
use Rattle.std.proofs.lemmas.Option.{same_Some}
use Rattle.prolog_terms.specs.Tree.{Tree, Trees, more, none, count}
use Rattle.prolog_terms.specs.Views.{trees_in}
use Rattle.prolog_terms.specs.Weight.{weight, weights}
use Rattle.module_table.specs.declared.goal_arg.GoalArg.{GoalArg}
use Rattle.module_table.specs.declared.goal_arg.GoalArg.TheVariants.{Plain, Goal, Caret, Grammar}
use Rattle.call_edges.specs.declared.role.Way.TheVariants.{Silent, Behind, Control, Negation, Qualified, Calling}
use Rattle.call_edges.specs.Goals.{is_control, is_negation, goal_way, way}

pub length_count : (args : Trees) → length (trees_in args) ≡ count args
length_count none = refl
length_count (more tree args) = ap suc (length_count args)

-- an argument weighs less than all of them, by as many as there are
pub part_count : (args : Trees) (i : ℕ) (tree : Tree) → slice_get (trees_in args) i ≡ Some tree → weight tree + length (trees_in args) ≤ weights args
part_count none i tree is = let both : None ≡ Some tree = is in absurd (cc)
part_count (more first args) zero tree is = omega (arith, ap weight (same_Some first tree is), few args)
  where
    few : (args : Trees) → length (trees_in args) ≤ weights args
    few none = omega arith
    few (more tree args) = omega (arith, few args)
part_count (more first args) (suc i) tree is = omega (arith, part_count args i tree is)

-- a qualified goal has two arguments

chosen : (control negation : Bool) (name : List ℕ) (n : ℕ)
    → (if control then Control else if negation then Negation else if n == 2 && bytes_eq name (codes ":") then Qualified else Calling) ≡ Qualified → n ≡ 2
chosen true negation name n is = let both : Control ≡ Qualified = is in absurd (cc)
chosen false true name n is = let both : Negation ≡ Qualified = is in absurd (cc)
chosen false false name n is = by_test (n == 2 && bytes_eq name (codes ":")) refl is
  where
    by_test : (test : Bool) → (n == 2 && bytes_eq name (codes ":")) ≡ test → (if test then Qualified else Calling) ≡ Qualified → n ≡ 2
    by_test true here same = eqb-true n 2 (and_parts (n == 2) (bytes_eq name (codes ":")) here).0
    by_test false here same = let both : Calling ≡ Qualified = same in absurd (cc)

goal_two : (controls : Bool) (name : List ℕ) (n : ℕ) → goal_way controls name n ≡ Qualified → n ≡ 2
goal_two controls name n is = chosen (controls && is_control name n) (controls && is_negation name n) name n is

caret_two : (test : Bool) (name : List ℕ) (n : ℕ) → (if test then Behind else goal_way true name n) ≡ Qualified → n ≡ 2
caret_two true name n is = let both : Behind ≡ Qualified = is in absurd (cc)
caret_two false name n is = goal_two true name n is

pub qualified_two : (arg : GoalArg) (name : List ℕ) (n : ℕ) → way arg name n ≡ Qualified → n ≡ 2
qualified_two Plain name n is = let both : Silent ≡ Qualified = is in absurd (cc)
qualified_two (Goal e) name n is = goal_two (e == 0) name n is
qualified_two Caret name n is = caret_two (n == 2 && bytes_eq name (codes "^")) name n is
qualified_two Grammar name n is = goal_two true name n is
