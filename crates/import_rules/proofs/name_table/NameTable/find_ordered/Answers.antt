use Rattle.std.proofs.Common.{rules, ◌∙◌, ap, sym}
use Rattle.std.specs.Prelude.{slice_get}
use Rattle.std.specs.List.{list_any}
use Rattle.std.proofs.lemmas.Fn.{always_returns_same}
use Rattle.std.proofs.lemmas.List.{map-id}
use Rattle.import_rules.specs.Names.{is_same, pred_cmp, pred_name}
use Rattle.import_rules.proofs.Ordered.{ordered, unordered}
use Rattle.import_rules.proofs.name_table.NameTable.find_ordered.Goals as goal

pub returns-in_default-clause-is : goal.returns-in_default-clause-is
returns-in_default-clause-is c =
    let wanted = pred_name c.args.module.now c.args.name.now c.args.arity in
    let names = c.self.inside.names.items in
    let all = c.deref.result.now in
    let found = c.in_default.ensures.position (λ p. pred_cmp p wanted) (always_returns_same _ _ _ (λ a r g called. search rules)) in
    ap (list_any (is_same wanted)) (sym c.self.view_is)
    ∙ unordered (λ p. p) wanted names all c.in_default.field-0 (sym c.deref.ensures.value ∙ sym (map-id all)) c.self.invariant.in_order
    c.in_default.ensures.bound found

pub returns-clause-is : goal.returns-clause-is
returns-clause-is c =
    let wanted = pred_name c.args.module.now c.args.name.now c.args.arity in
    let names = c.self.inside.names.items in
    let all = c.deref.result.now in
    let found = c.in-Ok.ensures.position (λ p. pred_cmp p wanted) (always_returns_same _ _ _ (λ a r g called. search rules)) in
    ap (λ ps. slice_get ps c.in-Ok.place) (sym c.self.view_is)
    ∙ ordered (λ p. p) wanted names all c.in-Ok.place (sym c.deref.ensures.value ∙ sym (map-id all)) c.in-Ok.ensures.bound found
