use Rattle.std.proofs.Common.{rules, ◌∙◌, subst, length}
use Rattle.std.specs.List.Sorted.{IsSearchInRange, IsBinarySearchResult}
use Rattle.std.proofs.lemmas.Fn.{always_returns_same}
use Rattle.import_rules.specs.KnownFiles.{indicator_cmp}
use Rattle.import_rules.proofs.Searches.{searched}
use Rattle.import_rules.proofs.Lookup.{indicator_cmp_total, export_there}
use Rattle.import_rules.proofs.known_file.KnownFile.has_export.Goals as goal

pub returns : goal.returns
returns c =
    let item = c.args.indicator.now in
    let found = c.binary_search_by.ensures.position (λ e. indicator_cmp e.now item) (always_returns_same _ _ _ (λ a r g called. search rules)) in
    let exports = c.deref.ensures.value in
    export_there c.args.self.now item c.is_ok.result c.requires.moved
    (c.is_ok.ensures.value
    ∙ searched indicator_cmp indicator_cmp_total (λ e. e.now) item c.args.self.now.exports.items c.binary_search_by.result c.requires.sorted
    (subst (λ es. IsSearchInRange c.binary_search_by.result (length es)) exports c.binary_search_by.ensures.bound)
    (subst (λ es. IsBinarySearchResult (λ e. indicator_cmp e.now item) es c.binary_search_by.result) exports found))
