use Rattle.std.proofs.Common.{◌<◌, ◌^◌, ◌∙◌, ℕ, All, length, ap, sym, subst, arith}
use Rattle.std.specs.List.{range_with_len}
use Rattle.graph_law.proofs.GraphLaws.{length-lists_of}
use Rattle.report_lines.proofs.LineOrder.{range_within}
use Rattle.report_lines.proofs.Printable.{few_groups, printable_groups}
use Rattle.loop_report.proofs.written.order_report.Goals as goal

pub group_count-requires : goal.group_count-requires
group_count-requires c =
    let few : length c.args.program.now.predicates < 2 ^ 32 = omega (arith, c.is_known.ensures.few) in
    omega (arith, few_groups few (printable_groups c.requires), length-lists_of c.args.groups.now)

pub text_of_order-requires-clause-printable : goal.text_of_order-requires-clause-printable
text_of_order-requires-clause-printable c = printable_groups c.requires

pub text_of_order-requires-clause-places : goal.text_of_order-requires-clause-places
text_of_order-requires-clause-places c =
    let n : ℕ = length c.args.groups.now in
    subst (All (λ place. place < n)) (sym (c.deref.ensures.value ∙ (c.in_ok-order.ensures ∙ ap (range_with_len 0) c.group_count.ensures))) (range_within n)
