use Rattle.std.proofs.Common.{◌<◌, ◌∙◌, sym, All, subst}
use Rattle.graph_law.specs.Graph.{lists_of}
use Rattle.graph_law.proofs.GraphLaws.{length-lists_of}
use Rattle.report_lines.specs.Reportable.{ArePrintable}
use Rattle.report_lines.proofs.LineOrder.{places_within}
use Rattle.report_lines.proofs.Printable.{printable_groups}
use Rattle.loop_report.proofs.walks.circuit_lines.Goals as goal

pub line_order-requires : goal.line_order-requires
line_order-requires c = subst (λ n. ArePrintable n (lists_of c.args.groups.now) c.args.levels.now) (sym c.count.ensures) (printable_groups c.requires.groups)

pub push_circuits-requires-clause-places : goal.push_circuits-requires-clause-places
push_circuits-requires-clause-places c =
    let lists = lists_of c.args.groups.now in
    rw (c.deref.ensures.value)
    (subst (λ n. All (λ place. place < n) c.in_ok-order.order.items) (length-lists_of c.args.groups.now ∙ sym c.requires.each)
    (places_within lists c.args.levels.now c.in_ok-order.order.items c.in_ok-order.ensures))
