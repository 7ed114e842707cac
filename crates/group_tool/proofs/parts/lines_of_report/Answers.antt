use Rattle.std.proofs.Common.{rules, length, arith}
use Rattle.group_words.specs.Settings.{see_options}
use Rattle.group_tool.proofs.GroupLemmas.{grouped_reportable}
use Rattle.group_tool.proofs.parts.lines_of_report.Goals as goal

pub first_line-requires : goal.first_line-requires
first_line-requires g c = (
  length c.args.program.now.predicates,
  omega (arith, c.is_known.ensures.few),
  grouped_reportable (see_options c.args.options.now) c.args.program.now c.args.grouped.now c.requires,
)

pub order_report_pieces-requires : goal.order_report_pieces-requires
order_report_pieces-requires g c = (search rules, grouped_reportable (see_options c.args.options.now) c.args.program.now c.args.grouped.now c.requires)

pub report_pieces-requires : goal.report_pieces-requires
report_pieces-requires g c = (search rules, grouped_reportable (see_options c.args.options.now) c.args.program.now c.args.grouped.now c.requires)
