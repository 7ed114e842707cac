use Rattle.loop_report.proofs.ReadBack.{reads_back}
use Rattle.loop_report.proofs.laws.names_read_back.Goals as goal

pub returns : goal.returns
returns c = reads_back
