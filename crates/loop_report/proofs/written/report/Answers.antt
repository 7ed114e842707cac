use Rattle.std.proofs.Common.{◌<◌, All, subst, sym}
use Rattle.graph_law.specs.Graph.{lists_of}
use Rattle.graph_law.proofs.GraphLaws.{length-lists_of}
use Rattle.report_lines.specs.Reportable.{ArePrintable}
use Rattle.report_lines.proofs.LineOrder.{places_within}
use Rattle.report_lines.proofs.Printable.{printable_groups}
use Rattle.loop_report.proofs.written.report.Goals as goal

pub line_order-requires : goal.line_order-requires
line_order-requires c = subst (λ n. ArePrintable n (lists_of c.args.groups.now) c.args.levels.now) (sym c.count.ensures) (printable_groups c.requires)

pub text_of_order-requires-clause-printable : goal.text_of_order-requires-clause-printable
text_of_order-requires-clause-printable c = printable_groups c.requires

pub text_of_order-requires-clause-places : goal.text_of_order-requires-clause-places
text_of_order-requires-clause-places c =
    let lists = lists_of c.args.groups.now in
    rw (c.deref.ensures.value)
    (subst (λ n. All (λ place. place < n) c.in_ok-order.order.items) (length-lists_of c.args.groups.now)
    (places_within lists c.args.levels.now c.in_ok-order.order.items c.in_ok-order.ensures))
