-- Terms inside their brackets.
use Rattle.std.proofs.Common.{◌≡◌, Bool, true, false, ◌&&◌, if◌then◌else◌, [], ◌∷◌, ◌++◌, refl, sym, ap, ◌∙◌}
use Rattle.std.specs.List.{list_all}
use Rattle.std.proofs.lemmas.List.Folds.{list_all-append}
use Rattle.std.proofs.Math.Bool.{and-true, and-false}
use Rattle.prolog_terms.specs.Tree.{Tree, Trees, paren, none, more}
use Rattle.prolog_terms.specs.Views.{inside, trees_in}
use Rattle.kept_clauses.specs.Plain.{silent, all_silent}

pub silent_inside : (tree : Tree) → silent (inside tree) ≡ silent tree
silent_inside (paren inner span) = silent_inside inner
silent_inside tree = refl

abbrev pub IsBare : Tree → Type 0
IsBare (paren inner span) = ⊥
IsBare tree = Unit {0}

-- no brackets are round what is inside all brackets
pub bare_inside : (tree : Tree) → IsBare (inside tree)
bare_inside (paren inner span) = bare_inside inner
bare_inside tree = tt

pub silent_each : (trees : Trees) → all_silent trees ≡ list_all silent (trees_in trees)
silent_each none = refl
silent_each (more tree trees) = ap (λ b. silent tree && b) (silent_each trees)

-- terms are silent where the last one is and those before it are
pub last_silent : (trees before : Trees) (last : Tree) (is : Bool) → trees_in trees ≡ trees_in before ++ last ∷ [] → silent last ≡ is
    → all_silent trees ≡ (if is then all_silent before else false)
last_silent trees before last is all last_is =
    silent_each trees ∙ ap (list_all silent) all ∙ list_all-append silent (trees_in before) (last ∷ [])
    ∙ (λ i. list_all silent (trees_in before) && (last_is i && true)) ∙ by_test is
  where
    by_test : (b : Bool) → (list_all silent (trees_in before) && (b && true)) ≡ (if b then all_silent before else false)
    by_test true = and-true (list_all silent (trees_in before)) ∙ sym (silent_each before)
    by_test false = and-false (list_all silent (trees_in before))
