use Rattle.std.proofs.Common.{◌≡◌, ◌∙◌, AllPairs, List, map, sym, ap, subst}
use Rattle.std.specs.declared.cmp.Ordering.TheVariants.{Less}
use Rattle.import_rules.specs.declared.item.Item.{Item}
use Rattle.import_rules.specs.declared.names.PredName.{PredName}
use Rattle.import_rules.specs.Clashes.{see_item}
use Rattle.import_rules.specs.Names.{pred_cmp}
use Rattle.import_rules.specs.Sources.{AreSources}
use Rattle.import_rules.proofs.TargetsFound.{targets_found}
use Rattle.import_rules.proofs.import_tables.find_meanings.Goals as goal

pub returns : goal.returns
returns c files rise numbered none are =
    let predicates = c.args.predicates.now in
    let imports = c.args.imports in
    let kept = c.in_ok-kept.kept in
    let offered = c.in_ok-offered.offered in
    targets_found files predicates
    (record {
      names = c.in_ok-make.field-0;
      targets = kept.targets;
      offered = c.in_ok-make-2.field-0;
      sources = offered.targets;
      shared = imports.shared;
      taken = imports.taken;
    })
    (map see_item imports.kept.items) (map see_item imports.offered.items) are.shared rise numbered none are.are_shared are.are_kept are.are_offered are.are_taken are.names
    are.exporters
    (subst (λ ns. AreSources predicates (map see_item imports.kept.items) ns kept.targets.items) (sym c.in_ok-make.ensures)
    (subst (λ (is : List Item). AreSources predicates (map see_item is) kept.names.items kept.targets.items) c.deref.ensures.value c.in_ok-kept.ensures.sources))
    (subst (λ ns. AreSources predicates (map see_item imports.offered.items) ns offered.targets.items) (sym c.in_ok-make-2.ensures)
    (subst (λ (is : List Item). AreSources predicates (map see_item is) offered.names.items offered.targets.items) c.deref-2.ensures.value c.in_ok-offered.ensures.sources))
    (subst (λ (ps : List PredName). AllPairs (λ p q. pred_cmp p q ≡ Less) ps) (sym c.in_ok-make-2.ensures) c.in_ok-offered.ensures.in_order)
