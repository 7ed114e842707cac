use Rattle.std.proofs.Common.{◌<◌, All, subst, sym}
use Rattle.graph_law.specs.Graph.{lists_of}
use Rattle.graph_law.proofs.GraphLaws.{length-lists_of}
use Rattle.report_lines.specs.Reportable.{ArePrintable}
use Rattle.report_lines.proofs.LineOrder.{places_within}
use Rattle.report_lines.proofs.Printable.{printable_groups}
use Rattle.loop_report.proofs.written.report_pieces.Goals as goal

pub line_order-requires : goal.line_order-requires
line_order-requires g c = subst (λ n. ArePrintable n (lists_of c.args.groups.now) c.args.levels.now) (sym c.count.ensures) (printable_groups c.requires)

pub written_texts-requires-clause-printable : goal.written_texts-requires-clause-printable
written_texts-requires-clause-printable g c κs within = printable_groups c.requires

pub written_texts-requires-clause-places : goal.written_texts-requires-clause-places
written_texts-requires-clause-places g c κs within =
    let lists = lists_of c.args.groups.now in
    rw (c.deref.ensures.value)
    (subst (λ n. All (λ place. place < n) c.in_ok-order.order.items) (length-lists_of c.args.groups.now)
    (places_within lists c.args.levels.now c.in_ok-order.order.items c.in_ok-order.ensures))
