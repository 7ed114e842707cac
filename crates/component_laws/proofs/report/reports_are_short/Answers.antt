use Rattle.component_laws.proofs.ShortReports.{bytes_short}
use Rattle.component_laws.proofs.ShortTexts.{each_short}
use Rattle.component_laws.proofs.report.reports_are_short.Goals as goal

pub returns : goal.returns
returns c = λ names lists starts wanted bytes short. bytes_short names lists starts wanted bytes (each_short names short)
