use Rattle.std.proofs.Common.{◌≡◌, ◌<◌, length, All, sym, ap, subst, ◌∙◌, arith}
use Rattle.std.specs.List.{range_with_len}
use Rattle.graph_law.specs.Graph.{lists_of}
use Rattle.graph_law.proofs.GraphLaws.{length-lists_of}
use Rattle.byte_names.specs.Names.{names_of}
use Rattle.component_report.specs.Report.{report_in}
use Rattle.report_lines.proofs.LineOrder.{range_within}
use Rattle.report_lines.proofs.Printable.{few_groups, printable_groups}
use Rattle.component_report.proofs.whole.order_report.Goals as goal

pub group_count-requires : goal.group_count-requires
group_count-requires c = omega (arith, few_groups c.requires.few (printable_groups c.requires.groups), length-lists_of c.args.groups.now)

pub written-requires : goal.written-requires
written-requires c =
    let count = length c.args.groups.now in
    let order : c.deref.result.now ≡ range_with_len 0 count = c.deref.ensures.value ∙ c.in_ok-order.ensures ∙ ap (range_with_len 0) c.group_count.ensures in
    record {
      few = c.requires.few;
      printable = printable_groups c.requires.groups;
      places = subst (All (λ place. place < count)) (sym order) (range_within count);
    }

pub returns : goal.returns
returns c =
    let report = report_in c.args.form (names_of c.args.names.now) (lists_of c.args.groups.now) c.args.levels.now in
    c.in_ok-bytes.ensures
    ∙ ap report (c.deref.ensures.value ∙ c.in_ok-order.ensures ∙ ap (range_with_len 0) (c.group_count.ensures ∙ sym (length-lists_of c.args.groups.now)))
