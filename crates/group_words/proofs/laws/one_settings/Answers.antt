use Rattle.group_words.proofs.OneSettings.{one_settings}
use Rattle.group_words.proofs.laws.one_settings.Goals as goal

pub returns : goal.returns
returns c = one_settings
