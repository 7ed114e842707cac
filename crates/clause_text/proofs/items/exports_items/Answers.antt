use Rattle.std.proofs.Common.{is_some, filter_map, map, ap, ◌∙◌, rules, tests}
use Rattle.std.proofs.lemmas.Iterator.{YieldsList-from_slice}
use Rattle.std.proofs.lemmas.Iterator.Search.{any_from_yields_List}
use Rattle.prolog_terms.specs.declared.term.Term.{Term}
use Rattle.prolog_terms.specs.Terms.{tree_of}
use Rattle.clause_text.specs.Items.{item_of, has_some}
use Rattle.clause_text.proofs.HasItems.{some_listed}
use Rattle.clause_text.proofs.items.exports_items.Goals as goal

pub returns : goal.returns
returns c =
    any_from_yields_List (λ (term : Term). is_some (item_of (tree_of term))) _ _ _ c.any.ensures.ran (YieldsList-from_slice c.deref.result.now (search rules)) (λ x b q called. search (rules, tests))
    ∙ (some_listed item_of c.deref.result.now
    ∙ ap (λ trees. has_some (filter_map item_of trees)) (ap (map tree_of) c.deref.ensures.value ∙ c.in_ok-list.ensures))
