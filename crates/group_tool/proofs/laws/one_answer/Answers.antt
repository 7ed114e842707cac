use Rattle.std.proofs.Common.{sym, subst, false, ◌≡◌}
use Rattle.group_words.proofs.OneSettings.{one_settings}
use Rattle.group_words.specs.Settings.{Settings, AreLawful}
use Rattle.group_tool.specs.Groups.{groups_tool}
use Rattle.tool_run.specs.Wanted.{IsJust}
use Rattle.tool_run.proofs.KeepLemmas.{just_one}
use Rattle.tool_run.proofs.OneAnswer.{one_answer}
use Rattle.group_tool.proofs.OneReports.{reported_once}
use Rattle.group_tool.proofs.laws.one_answer.Goals as goal

pub returns-clause-words : goal.returns-clause-words
returns-clause-words c = λ words files answer other unordered is also.
    one_answer groups_tool (AreLawful words) (one_settings words) (λ settings lawful. reported_once settings (unordered settings lawful)) files answer other is also

pub returns-clause-options : goal.returns-clause-options
returns-clause-options c = λ options files answer other unordered is also.
    one_answer groups_tool (IsJust options) (just_one options) (λ settings same. reported_once settings (subst (λ (s : Settings). s.order ≡ false) (sym same) unordered)) files answer
    other is also
