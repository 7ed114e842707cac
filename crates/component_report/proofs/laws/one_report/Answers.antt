use Rattle.component_report.proofs.OneReport.{same_report}
use Rattle.component_report.proofs.laws.one_report.Goals as goal

pub returns : goal.returns
returns c form names lists roots groups others levels marks bytes other a b = same_report form names bytes other a b
