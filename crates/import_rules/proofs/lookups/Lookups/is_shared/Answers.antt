use Rattle.std.proofs.Common.{rules, ◌∙◌, [], sym, subst, length}
use Rattle.std.specs.List.Sorted.{IsSearchInRange, IsBinarySearchResult}
use Rattle.std.proofs.lemmas.Fn.{always_returns_same}
use Rattle.import_rules.specs.Names.{is_same, pred_cmp, pred_name}
use Rattle.import_rules.specs.Clashes.{Imports, see_item}
use Rattle.std.specs.Ordering.{is_eq}
use Rattle.import_rules.proofs.ImportedNames.{into}
use Rattle.import_rules.proofs.Lists.{any-map, any_agrees}
use Rattle.import_rules.proofs.NameOrder.{pred_cmp_total, same_ties}
use Rattle.import_rules.proofs.Ordered.{shared_sorted}
use Rattle.import_rules.proofs.Searches.{searched}
use Rattle.import_rules.proofs.lookups.Lookups.is_shared.Goals as goal

pub returns : goal.returns
returns c =
    let wanted = pred_name [] c.args.indicator.now.name c.args.indicator.now.arity in
    let items = c.args.self.now.shared.items in
    let found = c.binary_search_by.ensures.position (λ item. pred_cmp (into item) wanted) (always_returns_same _ _ _ (λ a r g called. search rules)) in
    let list = c.deref.ensures.value in
    c.is_ok.ensures.value
    ∙ searched pred_cmp pred_cmp_total into wanted items c.binary_search_by.result (shared_sorted items c.requires.shared)
    (subst (λ es. IsSearchInRange c.binary_search_by.result (length es)) list c.binary_search_by.ensures.bound)
    (subst (λ es. IsBinarySearchResult (λ item. pred_cmp (into item) wanted) es c.binary_search_by.result) list found)
    ∙ sym
    (any-map (λ (i : Imports). is_same wanted i.into) see_item items
    ∙ any_agrees (λ item. is_same wanted (into item)) (λ item. is_eq (pred_cmp wanted (into item))) (λ item. same_ties wanted (into item)) items)
