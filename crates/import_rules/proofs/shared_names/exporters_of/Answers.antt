use Rattle.std.proofs.Common.{◌≡◌, ◌≢◌, ◌∙◌, ◌+◌, ◌∷◌, ◌++◌, [], ℕ, List, Vec, ap, length, map, take, sym, subst}
use Rattle.std.specs.Vec.{with_items}
use Rattle.std.specs.declared.alloc.Global.{Global}
use Rattle.std.proofs.lemmas.List.{with_items_is}
use Rattle.import_rules.specs.declared.shared_names.Exporter.{Exporter}
use Rattle.import_rules.specs.Clashes.{see_item}
use Rattle.import_rules.specs.SharedNames.{AreExporters, exporters_at}
use Rattle.import_rules.proofs.Exporters.{module_passed, name_passed, next_put, source_passed}
use Rattle.import_rules.proofs.shared_names.exporters_of.Goals as goal

pub loop-offer-preserved-in_default : goal.loop-offer-preserved-in_default
loop-offer-preserved-in_default c = (
  c.loop-offer.invariant.0,
  name_passed c.args.taken.now.modules c.args.predicates.now c.args.names.now c.args.offers.now c.loop-offer.offer-index _ c.loop-offer-test.true c.loop-offer.lists.items
      c.in_default.ensures.is c.loop-offer.invariant.1,
)

pub loop-offer-preserved-in_default-find : goal.loop-offer-preserved-in_default-find
loop-offer-preserved-in_default-find c = (
  c.loop-offer.invariant.0,
  source_passed c.args.taken.now.modules c.args.predicates.now c.args.names.now c.args.offers.now c.loop-offer.offer-index _ c.loop-offer-test.true c.loop-offer.lists.items
      c.in_default-find.ensures.is c.loop-offer.invariant.1,
)

pub loop-offer-preserved-in_default-place : goal.loop-offer-preserved-in_default-place
loop-offer-preserved-in_default-place c = (
  c.loop-offer.invariant.0,
  module_passed c.args.taken.now.modules c.args.predicates.now c.args.names.now c.args.offers.now c.loop-offer.offer-index _ c.loop-offer-test.true c.loop-offer.lists.items
      c.in_default-place.ensures c.loop-offer.invariant.1,
)

pub loop-offer-preserved : goal.loop-offer-preserved
loop-offer-preserved c =
    let old = c.loop-offer.lists in
    let new = c.push_at.new.lists in
    let at = c.in-Some.at in
    let one : Exporter = record { from = c.in-Some-place.from; source = c.in-Some-find.source } in
    let value = c.deref_mut.ensures.value in
    let are : (with_items old new).items ≡ new = with_items_is old new (c.in_ok-push_at.ensures.long ∙ ap length value ∙ sym old.ok.0) in (
      ap length are ∙ c.in_ok-push_at.ensures.long ∙ ap length value ∙ c.loop-offer.invariant.0,
      subst (AreExporters c.args.taken.now.modules c.args.predicates.now (map see_item (take (c.loop-offer.offer-index + 1) c.args.offers.now)) c.args.names.now) (sym are)
          (next_put c.args.taken.now.modules c.args.predicates.now c.args.names.now c.args.offers.now c.loop-offer.offer-index _ c.loop-offer-test.true old.items new at
          c.in-Some-place.from c.in-Some-find.source c.requires.predicates c.requires.names c.requires.modules c.in-Some.ensures.is c.in-Some-find.ensures.is c.in-Some-place.ensures
          (c.in_ok-push_at.ensures.here ∙ ap (λ ls. exporters_at ls at ++ one ∷ []) value)
          (subst (λ (ls : List (Vec Exporter Global)). (m : ℕ) → m ≢ at → exporters_at new m ≡ exporters_at ls m) value c.in_ok-push_at.ensures.others)
          c.loop-offer.invariant.1),
    )
