use Rattle.loop_report.proofs.OneReport.{same_report}
use Rattle.loop_report.proofs.laws.one_report.Goals as goal

pub returns : goal.returns
returns c predicates files lists roots groups others levels marks unreached bytes other a b first second =
    same_report predicates files unreached bytes other a b first second
