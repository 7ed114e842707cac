use Rattle.std.proofs.Common.{◌<◌, ◌^◌, length, arith}
use Rattle.graph_law.specs.Graph.{lists_of}
use Rattle.graph_law.proofs.GraphLaws.{length-lists_of}
use Rattle.loop_report.specs.Texts.{concatenated}
use Rattle.report_lines.proofs.Printable.{few_groups, short_groups}
use Rattle.loop_report.proofs.ReportTexts.{report_in_texts}
use Rattle.loop_report.proofs.written.written_pieces.Goals as goal

pub head_text-requires-clause-few : goal.head_text-requires-clause-few
head_text-requires-clause-few g c =
    let count : length c.args.program.now.predicates < 2 ^ 32 = omega (arith, c.is_known.ensures.few) in
    omega (arith, few_groups count c.requires.printable, length-lists_of c.args.groups.now)

pub head_text-requires-clause-short : goal.head_text-requires-clause-short
head_text-requires-clause-short g c =
    let count : length c.args.program.now.predicates < 2 ^ 32 = omega (arith, c.is_known.ensures.few) in short_groups count c.requires.printable

pub returns : goal.returns
returns g c =
    report_in_texts c.args.program.now.predicates c.args.program.now.loaded.files (lists_of c.args.groups.now) c.args.levels.now c.args.unreached
    c.args.order.now c.in_ok-first.first.items (concatenated c.in_ok-between.between.items) c.in_ok-last.last.items
    (concatenated c.in_ok-texts.texts.items) c.in_ok-first.ensures c.in_ok-between.ensures c.in_ok-last.ensures c.in_ok-texts.ensures
