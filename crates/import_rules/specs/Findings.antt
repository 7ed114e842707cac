-- What is found wrong, and imported, as it is seen.
use Rattle.std.specs.Prelude.{List, map}
use Rattle.import_rules.specs.declared.finding.Finding.{Finding}
use Rattle.import_rules.specs.Flaws.{Flaw}

abbrev pub see_finding : Finding → Flaw
see_finding f = record { file = f.file.now; offset = f.offset; cause = f.cause }

abbrev pub see_findings : List Finding → List Flaw
see_findings fs = map see_finding fs
