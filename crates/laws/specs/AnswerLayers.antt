-- What the words and the reports answer for each list of words and for all groups.
use Rattle.std.specs.Prelude.{ℕ, ◌⊎◌, Bool, List, All, length}
use Rattle.std.specs.Str.{IsUtf8}
use Rattle.group_release.specs.declared.level.Level.{Level}
use Rattle.module_table.specs.Facts.{Facts}
use Rattle.import_rules.specs.declared.names.PredName.{PredName}
use Rattle.group_words.specs.Settings.{Settings, AreLawful}
use Rattle.loop_report.specs.Report.{IsReport, IsOrderReport}
use Rattle.report_lines.specs.Reportable.{AreReportable}

-- words set some settings, or none
abbrev pub WordsAreDecided : Type 0
WordsAreDecided = (words : List (List ℕ)) → All IsUtf8 words
    → ((settings : Settings) × AreLawful words settings) ⊎ ((settings : Settings) → AreLawful words settings → ⊥)

-- groups that can be reported have a report
abbrev pub ReportsExist : Type 0
ReportsExist =
    (predicates : List PredName) (files : List Facts) (groups : List (List ℕ)) (levels : List Level) (unreached : Bool)
    → AreReportable (length predicates) groups levels
    → (bytes : List ℕ) × IsReport predicates files groups levels unreached bytes

-- groups have a report in their own order
abbrev pub OrderReportsExist : Type 0
OrderReportsExist =
    (predicates : List PredName) (files : List Facts) (groups : List (List ℕ)) (levels : List Level) (unreached : Bool)
    → (bytes : List ℕ) × IsOrderReport predicates files groups levels unreached bytes
