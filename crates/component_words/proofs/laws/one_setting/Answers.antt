use Rattle.component_words.proofs.GoesOn.{one_lawful}
use Rattle.component_words.proofs.laws.one_setting.Goals as goal

pub returns : goal.returns
returns c = one_lawful
