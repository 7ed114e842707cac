use Rattle.std.proofs.Common.{◌<◌, ◌∙◌, sym, All, subst, arith}
use Rattle.graph_law.specs.Graph.{lists_of}
use Rattle.graph_law.proofs.GraphLaws.{length-lists_of}
use Rattle.report_lines.proofs.LineOrder.{places_within}
use Rattle.report_lines.proofs.Printable.{printable_groups}
use Rattle.component_report.proofs.cycles.cycle_lines.Goals as goal

pub overflow_cast-names : goal.overflow_cast-names
overflow_cast-names c = omega (arith, c.requires.few)

pub line_order-requires : goal.line_order-requires
line_order-requires c = printable_groups c.requires.groups

pub push_cycles-requires-clause-places : goal.push_cycles-requires-clause-places
push_cycles-requires-clause-places c =
    let lists = lists_of c.args.groups.now in
    rw (c.deref.ensures.value)
    (subst (λ n. All (λ place. place < n) c.in_ok-order.order.items) (length-lists_of c.args.groups.now ∙ sym c.requires.each)
    (places_within lists c.args.levels.now c.in_ok-order.order.items c.in_ok-order.ensures))
