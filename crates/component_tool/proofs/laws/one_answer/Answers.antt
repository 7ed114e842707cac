use Rattle.component_tool.proofs.OneAnswer.{one_end}
use Rattle.component_tool.proofs.laws.one_answer.Goals as goal

pub returns : goal.returns
returns c = one_end c.one_first_fault.ensures c.one_line_fault.ensures c.one_said_report.ensures c.one_setting.ensures
