use Rattle.laws.proofs.Reports.{loops_of}
use Rattle.laws.proofs.report.loops_exist.Goals as goal

pub returns : goal.returns
returns c = loops_of c.order_exists.ensures
