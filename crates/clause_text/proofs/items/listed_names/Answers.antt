use Rattle.std.proofs.Common.{true, false, ap, sym, ◌∙◌, option_and_then}
use Rattle.std.specs.List.{list_all}
use Rattle.prolog_terms.specs.Terms.{tree_of}
use Rattle.clause_text.specs.Items.{all_names, is_name}
use Rattle.clause_text.proofs.TermShapes.{names_listed}
use Rattle.clause_text.proofs.items.listed_names.Goals as goal

pub returns-then-not-are_names : goal.returns-then-not-are_names
returns-then-not-are_names c =
    names_listed c.in_ok-list.list.items false
    (ap (list_all (λ term. is_name (tree_of term))) (sym c.deref.ensures.value) ∙ (sym c.are_names.ensures ∙ c.if-not-are_names.true))
    ∙ (ap all_names c.in_ok-list.ensures.trees ∙ ap (option_and_then all_names) c.in-Some.ensures.trees)

pub returns : goal.returns
returns c =
    names_listed c.in_ok-list.list.items true
    (ap (list_all (λ term. is_name (tree_of term))) (sym c.deref.ensures.value) ∙ (sym c.are_names.ensures ∙ c.if-not-are_names.false))
    ∙ (ap all_names c.in_ok-list.ensures.trees ∙ ap (option_and_then all_names) c.in-Some.ensures.trees)
