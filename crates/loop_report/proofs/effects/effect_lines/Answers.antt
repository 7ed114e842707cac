use Rattle.std.proofs.Common.{ℕ, ◌<◌, ◌++◌, List, [], All, get_or, length, ap, subst, sym, ◌∙◌, arith}
use Rattle.std.specs.List.{flat_map}
use Rattle.std.specs.String.{string_bytes}
use Rattle.std.proofs.lemmas.List.{get_or_default, take_all}
use Rattle.graph_law.specs.Graph.{lists_of}
use Rattle.graph_law.proofs.GraphLaws.{length-lists_of}
use Rattle.effect_flow.specs.Carriers.{first_at}
use Rattle.effect_flow.specs.Seen.{see_flows}
use Rattle.loop_report.specs.Effects.{group_effects, place_effects}
use Rattle.report_lines.specs.Reportable.{ArePrintable}
use Rattle.report_lines.proofs.LineOrder.{places_within}
use Rattle.report_lines.proofs.Printable.{printable_groups}
use Rattle.loop_report.proofs.Texts.{texts_more}
use Rattle.loop_report.proofs.effects.effect_lines.Goals as goal

pub line_order-requires : goal.line_order-requires
line_order-requires c = subst (λ n. ArePrintable n (lists_of c.args.groups.now) c.args.levels.now) (sym c.count.ensures) (printable_groups c.requires.groups)

pub flow_there-flow-requires : goal.flow_there-flow-requires
flow_there-flow-requires c =
    let groups = lists_of c.args.groups.now in
    let within = subst (All (λ place. place < length groups)) (sym c.deref-place-items.ensures.value)
    (places_within groups c.args.levels.now c.in_ok-order.order.items c.in_ok-order.ensures) in
    omega (arith, within c.loop-place.place-index 0 c.loop-place-test.true, length-lists_of c.args.groups.now, c.requires.each)

pub least_of-least-requires-clause-inhabited : goal.least_of-least-requires-clause-inhabited
least_of-least-requires-clause-inhabited c = (printable_groups c.requires.groups).inhabited

pub least_of-least-requires-clause-there : goal.least_of-least-requires-clause-there
least_of-least-requires-clause-there c =
    let groups = lists_of c.args.groups.now in
    let within = subst (All (λ place. place < length groups)) (sym c.deref-place-items.ensures.value)
    (places_within groups c.args.levels.now c.in_ok-order.order.items c.in_ok-order.ensures) in
    omega (arith, within c.loop-place.place-index 0 c.loop-place-test.true, length-lists_of c.args.groups.now)

pub push_effects-requires-clause-least : goal.push_effects-requires-clause-least
push_effects-requires-clause-least c =
    let groups = lists_of c.args.groups.now in
    let place : ℕ = get_or c.deref-place-items.result.now c.loop-place.place-index 0 in
    let within = subst (All (λ place. place < length groups)) (sym c.deref-place-items.ensures.value)
    (places_within groups c.args.levels.now c.in_ok-order.order.items c.in_ok-order.ensures) in
    let low = within c.loop-place.place-index 0 c.loop-place-test.true in
    let printable = printable_groups c.requires.groups in
    omega (arith, printable.within place [] low 0 0 (printable.inhabited place [] low), c.least_of-least.ensures)

pub push_effects-requires-clause-carriers : goal.push_effects-requires-clause-carriers
push_effects-requires-clause-carriers c = λ kind q low at.
    let groups = lists_of c.args.groups.now in
    let place : ℕ = get_or c.deref-place-items.result.now c.loop-place.place-index 0 in
    let within = subst (All (λ place. place < length groups)) (sym c.deref-place-items.ensures.value)
    (places_within groups c.args.levels.now c.in_ok-order.order.items c.in_ok-order.ensures) in
    c.requires.carriers place kind q (omega (arith, within c.loop-place.place-index 0 c.loop-place-test.true, length-lists_of c.args.groups.now)) low
    (sym (ap (λ flow. first_at flow kind) c.flow_there-flow.ensures) ∙ at)

pub loop-place-preserved : goal.loop-place-preserved
loop-place-preserved c =
    let groups = lists_of c.args.groups.now in
    let flows = see_flows c.args.flows.now in
    let predicates = c.args.program.now.predicates in
    let items = c.deref-place-items.result.now in
    let n : ℕ = c.loop-place.place-index in
    let place : ℕ = get_or items n 0 in
    texts_more (place_effects predicates groups flows) [] (string_bytes c.loop-place.text) (string_bytes c.push_effects.new.text) items n place
    c.loop-place-test.true (get_or_default items n 0 place c.loop-place-test.true) c.loop-place.invariant
    (c.in_ok-push_effects.ensures ∙ (λ i. string_bytes c.loop-place.text ++ group_effects predicates (c.least_of-least.ensures i) (c.flow_there-flow.ensures i)))

pub returns : goal.returns
returns c =
    let groups = lists_of c.args.groups.now in
    let effects : ℕ → List ℕ = place_effects c.args.program.now.predicates groups (see_flows c.args.flows.now) in
    let items = c.deref-place-items.result.now in
    record {
      order = c.in_ok-order.order.items;
      in_order = c.in_ok-order.ensures;
      is =
          ap (λ vec. vec.items) c.into_bytes.ensures.value
          ∙ (c.loop-place.invariant
          ∙ (ap (flat_map effects) (take_all c.loop-place.place-index items c.loop-place-test.false) ∙ ap (flat_map effects) c.deref-place-items.ensures.value));
    }
