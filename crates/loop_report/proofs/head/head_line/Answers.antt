use Rattle.std.proofs.Common.{arith}
use Rattle.graph_law.proofs.GraphLaws.{length-lists_of}
use Rattle.report_lines.proofs.Printable.{printable_groups, few_groups, short_groups}
use Rattle.loop_report.proofs.head.head_line.Goals as goal

pub head_text-requires-clause-few : goal.head_text-requires-clause-few
head_text-requires-clause-few c = omega (arith, few_groups c.requires.1 (printable_groups c.requires.2), length-lists_of c.args.groups.now)

pub head_text-requires-clause-short : goal.head_text-requires-clause-short
head_text-requires-clause-short c = short_groups c.requires.1 (printable_groups c.requires.2)
