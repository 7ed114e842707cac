-- What a body of a compound is made of.
use Rattle.std.proofs.Common.{◌≡◌, ℕ, ◌+◌, ◌<◌, Bool, true, false, List, [], ◌∷◌, ◌++◌, Option, Some, None, if◌then◌else◌, refl, sym, ap, ◌∙◌, subst, arith}
use Rattle.prolog_terms.specs.declared.term.Form.{Form}
use Rattle.prolog_terms.specs.declared.term.Span.{Span}
use Rattle.prolog_terms.specs.Tree.{Tree, Trees, compound, none, more}
use Rattle.prolog_terms.specs.Views.{pair_of}
use Rattle.prolog_terms.specs.Weight.{weight, weights}
use Rattle.prolog_terms.proofs.ViewLemmas.{some_once, some_none}
use Rattle.kept_clauses.specs.Plain.{is_one_of, control_names, compound_goal, body_goals, PlainGoal}

pub if_true : {X : Type 0} (test : Bool) (x y : X) → test ≡ true → (if test then x else y) ≡ x
if_true test x y is = ap (λ t. if t then x else y) is

pub if_false : {X : Type 0} (test : Bool) (x y : X) → test ≡ false → (if test then x else y) ≡ y
if_false test x y is = ap (λ t. if t then x else y) is

module _ (name : List ℕ) (args : Trees) (form : Form) (span : Span) where
  abbrev tree : Tree
  tree = compound name args form span

  -- the goals by its two sides, where it is a control construct, or else itself
  abbrev pub goals_by_sides : Option (Tree × Tree) → List PlainGoal
  goals_by_sides (Some sides) = body_goals sides.0 ++ body_goals sides.1
  goals_by_sides None = compound_goal span.from name args tree ∷ []

  abbrev sides_if : Bool → Option (Tree × Tree)
  sides_if control = if control then pair_of args else None

  none_if : {X : Type 0} (test : Bool) → ◌≡◌ {A = Option X} (if test then None else None) None
  none_if true = refl
  none_if false = refl

pub compound_sides : (name : List ℕ) (args : Trees) (form : Form) (span : Span)
    → body_goals (compound name args form span) ≡ goals_by_sides name args form span (if is_one_of control_names name then pair_of args else None)
compound_sides name none form span = ap (goals_by_sides name none form span) (sym (none_if name none form span (is_one_of control_names name)))
compound_sides name (more inner none) form span =
    ap (goals_by_sides name (more inner none) form span) (sym (none_if name none form span (is_one_of control_names name)))
compound_sides name (more left (more right none)) form span = by_test (is_one_of control_names name)
  where
    by_test : (test : Bool)
        → (if test then body_goals left ++ body_goals right
        else compound_goal span.from name (more left (more right none)) (compound name (more left (more right none)) form span) ∷ [])
        ≡ goals_by_sides name (more left (more right none)) form span (if test then Some (left, right) else None)
    by_test true = refl
    by_test false = refl
compound_sides name (more one (more two (more three args))) form span =
    ap (goals_by_sides name (more one (more two (more three args))) form span) (sym (none_if name none form span (is_one_of control_names name)))

-- the parts weigh less

pair_weight : (args : Trees) (left right : Tree) → pair_of args ≡ Some (left, right) → weight left + weight right + 2 ≡ weights args
pair_weight (more one (more two none)) left right is =
    let both : (one, two) ≡ (left, right) = some_once is in
    subst (λ (pair : Tree × Tree). weight pair.0 + weight pair.1 + 2 ≡ weights (more one (more two none))) both (omega arith)
pair_weight args left right is = absurd (some_none (left, right) (sym is))

pub sides_lighter : (test : Bool) (args : Trees) (left right : Tree) → Some (left, right) ≡ (if test then pair_of args else None)
    → (weight left < weights args) × (weight right < weights args)
sides_lighter true args left right is =
    let all = pair_weight args left right (sym is) in (omega (arith, all), omega (arith, all))
sides_lighter false args left right is = absurd (some_none (left, right) is)
