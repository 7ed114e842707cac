use Rattle.laws.proofs.Reports.{report_of, order_report_of}
use Rattle.laws.proofs.report.reports_exist.Goals as goal

pub returns : goal.returns
returns c = record { lines = report_of c.loops_exist.ensures; order = order_report_of c.loops_exist.ensures }
