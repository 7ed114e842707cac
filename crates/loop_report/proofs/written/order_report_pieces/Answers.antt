use Rattle.std.proofs.Common.{◌<◌, ◌^◌, ◌∙◌, ℕ, All, length, ap, sym, subst, arith}
use Rattle.std.specs.List.{range_with_len}
use Rattle.graph_law.proofs.GraphLaws.{length-lists_of}
use Rattle.report_lines.proofs.LineOrder.{range_within}
use Rattle.report_lines.proofs.Printable.{few_groups, printable_groups}
use Rattle.loop_report.proofs.written.order_report_pieces.Goals as goal

pub group_count-requires : goal.group_count-requires
group_count-requires g c =
    let few : length c.args.program.now.predicates < 2 ^ 32 = omega (arith, c.is_known.ensures.few) in
    omega (arith, few_groups few (printable_groups c.requires), length-lists_of c.args.groups.now)

pub written_texts-requires-clause-printable : goal.written_texts-requires-clause-printable
written_texts-requires-clause-printable g c κs within = printable_groups c.requires

pub written_texts-requires-clause-places : goal.written_texts-requires-clause-places
written_texts-requires-clause-places g c κs within =
    let n : ℕ = length c.args.groups.now in
    subst (All (λ place. place < n)) (sym (c.deref.ensures.value ∙ (c.in_ok-given.ensures ∙ ap (range_with_len 0) c.group_count.ensures))) (range_within n)
