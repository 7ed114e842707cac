use Rattle.std.proofs.Common.{◌≡◌, Some, length, sym, ap, subst, ◌∙◌, arith}
use Rattle.std.specs.Prelude.{slice_get}
use Rattle.std.proofs.lemmas.List.{with_items_is}
use Rattle.import_rules.specs.Numbers.{see_places}
use Rattle.import_rules.specs.OwnNames.{AreKept}
use Rattle.import_rules.specs.Parts.{names_at}
use Rattle.import_rules.proofs.OwnSteps.{first_numbered}
use Rattle.import_rules.proofs.own_names.OwnNames.make.Goals as goal

pub loop-node-preserved : goal.loop-node-preserved
loop-node-preserved c =
    let files = c.args.files.now in
    let all = c.args.predicates.now in
    let node = c.loop-node.node in
    let old = c.loop-node.lists in
    let new = c.keep_place.new.lists in
    let first : slice_get (see_places c.index-predicates-node.result) 0 ≡ Some c.in-Some.first.now =
    ap (λ places. slice_get places 0) (sym c.as_slice.ensures) ∙ sym c.in-Some.ensures.value in
    let numbered =
    first_numbered files all node c.index-predicates-node.result c.in-Some.first.now c.requires.in_order (omega (arith, c.loop-node-test.true)) c.index-predicates-node.is first in
    let before : AreKept files (names_at files all) c.deref_mut.result.now = subst (AreKept files (names_at files all)) (sym c.deref_mut.ensures.value) c.loop-node.invariant in
    subst (AreKept files (names_at files all)) (sym (with_items_is old new (c.keep_place.ensures.long ∙ ap length c.deref_mut.ensures.value ∙ sym old.ok.0)))
    (c.keep_place.ensures.kept (names_at files all) numbered before)
