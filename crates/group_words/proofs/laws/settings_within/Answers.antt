use Rattle.group_words.proofs.Within.{lawful_within}
use Rattle.group_words.proofs.laws.settings_within.Goals as goal

pub returns : goal.returns
returns c = lawful_within
