use Rattle.component_laws.proofs.Reports.{report_of}
use Rattle.component_laws.proofs.report.reports_exist.Goals as goal

pub returns : goal.returns
returns c = report_of (record {
  ordered = c.order_exists.ensures;
  leveled = c.levels_exist.ensures;
  circuits = c.some_shortest.ensures.circuits;
})
