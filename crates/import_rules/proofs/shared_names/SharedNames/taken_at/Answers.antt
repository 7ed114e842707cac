use Rattle.std.proofs.Common.{◌≡◌, ◌∙◌, ◌<◌, All, List, Vec, false, ap, get_or, length, sym, subst, arith}
use Rattle.std.specs.declared.alloc.Global.{Global}
use Rattle.std.proofs.lemmas.List.{take_all, take_more}
use Rattle.std.proofs.lemmas.List.Elements.{All-push}
use Rattle.import_rules.specs.declared.shared_names.Exporter.{Exporter}
use Rattle.import_rules.specs.SharedNames.{exporters_at}
use Rattle.import_rules.specs.TakenModules.{marked_at}
use Rattle.import_rules.proofs.Marks.{list_at}
use Rattle.import_rules.proofs.shared_names.SharedNames.taken_at.Goals as goal

pub loop-exporter-preserved : goal.loop-exporter-preserved
loop-exporter-preserved c =
    let P = λ (e : Exporter). marked_at c.args.taken.now.rows.items c.args.user e.from ≡ false in
    let items = c.deref-exporter-items.result.now in
    let n = c.loop-exporter.exporter-index in
    subst (λ (es : List Exporter). All P es) (sym (take_more items n _ c.loop-exporter-test.true))
    (All-push P _ (get_or items n _) c.loop-exporter.invariant (sym c.has_at.ensures ∙ c.if-has_at.false))

pub returns : goal.returns
returns c =
    let P = λ (e : Exporter). marked_at c.args.taken.now.rows.items c.args.user e.from ≡ false in
    let lists = c.args.self.now.exporters.items in
    let list = c.in-Some.exporters.now in
    let inside : c.args.at < length lists = omega (arith, c.in-Some.ensures.lookup.3.0, ap length c.deref.ensures.value) in
    let same : c.deref-exporter-items.result.now ≡ exporters_at lists c.args.at =
    c.deref-exporter-items.ensures.value
    ∙ ap (λ (v : Vec Exporter Global). v.items) (c.in-Some.ensures.lookup.1 ∙ ap (λ ls. get_or ls c.args.at list) c.deref.ensures.value)
    ∙ sym (list_at lists c.args.at list inside) in
    subst (λ (es : List Exporter). All P es) (take_all c.loop-exporter.exporter-index c.deref-exporter-items.result.now c.loop-exporter-test.false ∙ same) c.loop-exporter.invariant
