use Rattle.loop_report.proofs.ReadBack.{spelled_once}
use Rattle.loop_report.proofs.laws.names_differ.Goals as goal

pub returns : goal.returns
returns c = spelled_once
