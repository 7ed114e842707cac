-- The goals of a body are sound: each that is kept as a call is an atom, or has a free name.
use Rattle.std.proofs.Common.{◌≡◌, inl, inr, ℕ, Bool, true, false, ◌&&◌, List, [], ◌∷◌, ◌++◌, All, if◌then◌else◌, refl}
use Rattle.std.proofs.lemmas.List.Elements.{All-nil, All-cons, All-append}
use Rattle.prolog_terms.specs.Tree.{Tree, Trees, variable, constant, atom, compound, listed, tailed, curly, paren, none, more, count}
use Rattle.kept_clauses.specs.Plain.{is_one_of, control_names, fits, is_plain_name, all_silent, PlainGoal, called, whole, compound_goal, atom_goal, body_goals}
use Rattle.kept_clauses.proofs.FreeNames.{both_true, plain_free}
use Rattle.kept_clauses.specs.Views.{IsSoundGoal}

compound_sound : (at : ℕ) (name : List ℕ) (args : Trees) (tree : Tree) → IsSoundGoal (compound_goal at name args tree)
compound_sound at name args tree = by_test (is_plain_name at name (count args) && all_silent args) refl
  where
    by_test : (test : Bool) → is_plain_name at name (count args) && all_silent args ≡ test
        → IsSoundGoal (if test then called (record { at = at; name = name; arity = count args }) else whole tree)
    by_test true is = inr (plain_free at name (count args) (both_true (is_plain_name at name (count args)) (all_silent args) is).0)
    by_test false is = tt

atom_sound : (at : ℕ) (name : List ℕ) (tree : Tree) → IsSoundGoal (atom_goal at name tree)
atom_sound at name tree = by_test (fits at 0)
  where
    by_test : (test : Bool) → IsSoundGoal (if test then called (record { at = at; name = name; arity = 0 }) else whole tree)
    by_test true = inl refl
    by_test false = tt

one_sound : (goal : PlainGoal) → IsSoundGoal goal → All IsSoundGoal (goal ∷ [])
one_sound goal sound = All-cons IsSoundGoal goal [] sound (All-nil IsSoundGoal)

pub goals_sound : (tree : Tree) → All IsSoundGoal (body_goals tree)
goals_sound (variable span) = All-nil IsSoundGoal
goals_sound (constant kind minus value span) = one_sound (whole (constant kind minus value span)) tt
goals_sound (atom name span) = one_sound (atom_goal span.from name (atom name span)) (atom_sound span.from name (atom name span))
goals_sound (compound name none form span) =
    let tree = compound name none form span in one_sound (compound_goal span.from name none tree) (compound_sound span.from name none tree)
goals_sound (compound name (more inner none) form span) =
    let tree = compound name (more inner none) form span in
    one_sound (compound_goal span.from name (more inner none) tree) (compound_sound span.from name (more inner none) tree)
goals_sound (compound name (more left (more right none)) form span) = by_test (is_one_of control_names name) (goals_sound left) (goals_sound right)
  where
    by_test : (test : Bool) → All IsSoundGoal (body_goals left) → All IsSoundGoal (body_goals right)
        → All IsSoundGoal
        (if test then body_goals left ++ body_goals right
        else compound_goal span.from name (more left (more right none)) (compound name (more left (more right none)) form span) ∷ [])
    by_test true first second = All-append IsSoundGoal (body_goals left) (body_goals right) first second
    by_test false first second =
        let args = more left (more right none) in
        let tree = compound name args form span in
        one_sound (compound_goal span.from name args tree) (compound_sound span.from name args tree)
goals_sound (compound name (more one (more two (more three args))) form span) =
    let parts = more one (more two (more three args)) in
    let tree = compound name parts form span in
    one_sound (compound_goal span.from name parts tree) (compound_sound span.from name parts tree)
goals_sound (listed items span) = All-nil IsSoundGoal
goals_sound (tailed items tail span) = All-nil IsSoundGoal
goals_sound (curly inner span) = All-nil IsSoundGoal
goals_sound (paren inner span) = goals_sound inner
