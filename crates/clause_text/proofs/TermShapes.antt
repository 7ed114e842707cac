-- What the terms of a text are, by the parts that the code looks at.
use Rattle.std.proofs.Common.{◌≡◌, List, [], ◌∷◌, ◌++◌, Some, None, map, codes, refl, ap, sym, ◌∙◌, flat_map, append-nil, ◌&&◌, Bool, if◌then◌else◌}
use Rattle.std.specs.List.{list_all}
use Rattle.std.proofs.lemmas.List.Concat.{flat_map-append}
use Rattle.prolog_terms.specs.declared.term.Term.{Term}
use Rattle.prolog_terms.specs.Tree.{Tree}
use Rattle.prolog_terms.specs.Terms.{tree_of}
use Rattle.prolog_terms.specs.Views.{inside, sides_at, sides_of, joined}
use Rattle.prolog_terms.proofs.ViewLemmas.{inside_once, joined_sides, joined_alone}
use Rattle.clause_text.specs.Items.{item_at, items_by, goal_items, directive_items, is_name, all_names}

-- a directive has the items of the goals that commas join in it

pub directive_joined : (tree left right : Tree) → sides_of (codes ",") tree ≡ Some (left, right) → directive_items tree ≡ directive_items left ++ directive_items right
directive_joined tree left right is = ap (flat_map goal_items) (joined_sides tree left right is) ∙ flat_map-append goal_items (joined left) (joined right)

pub directive_alone : (tree : Tree) → sides_of (codes ",") tree ≡ None → directive_items tree ≡ goal_items tree
directive_alone tree is =
    ap (flat_map goal_items) (joined_alone tree is)
    ∙ (append-nil (goal_items (inside tree)) ∙ ap (λ t. items_by (sides_at (codes "module") t) (item_at t)) (inside_once tree))

-- names in a list

all_trees : (test : Tree → Bool) (terms : List Term) → list_all (λ term. test (tree_of term)) terms ≡ list_all test (map tree_of terms)
all_trees test [] = refl
all_trees test (term ∷ terms) = ap (λ b. test (tree_of term) && b) (all_trees test terms)

-- terms are names where the test of each says so
pub names_listed : (terms : List Term) (test : Bool) → list_all (λ term. is_name (tree_of term)) terms ≡ test → (if test then Some (map tree_of terms) else None) ≡ all_names (map tree_of terms)
names_listed terms test is = ap (λ b. if b then Some (map tree_of terms) else None) (sym is ∙ all_trees is_name terms)
