use Rattle.std.proofs.Common.{◌<◌, length, All, sym, ap, subst, ◌∙◌, arith}
use Rattle.graph_law.specs.Graph.{lists_of}
use Rattle.graph_law.proofs.GraphLaws.{length-lists_of}
use Rattle.byte_names.specs.Names.{names_of}
use Rattle.component_report.specs.Report.{report_in}
use Rattle.report_lines.proofs.LineOrder.{places_within}
use Rattle.report_lines.proofs.Printable.{printable_groups}
use Rattle.component_report.proofs.whole.report.Goals as goal

pub overflow_cast-names : goal.overflow_cast-names
overflow_cast-names c = omega (arith, c.requires.few)

pub line_order-requires : goal.line_order-requires
line_order-requires c = printable_groups c.requires.groups

pub written-requires : goal.written-requires
written-requires c =
    let groups = lists_of c.args.groups.now in
    let within = places_within groups c.args.levels.now c.in_ok-order.order.items c.in_ok-order.ensures in
    record {
      few = c.requires.few;
      printable = printable_groups c.requires.groups;
      places =
          subst (All (λ place. place < length c.args.groups.now)) (sym c.deref.ensures.value)
          (subst (λ n. All (λ place. place < n) c.in_ok-order.order.items) (length-lists_of c.args.groups.now) within);
    }

pub returns : goal.returns
returns c = record {
  order = c.in_ok-order.order.items;
  in_order = c.in_ok-order.ensures;
  is = c.in_ok-bytes.ensures ∙ ap (report_in c.args.form (names_of c.args.names.now) (lists_of c.args.groups.now) c.args.levels.now) c.deref.ensures.value;
}
