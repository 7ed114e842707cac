use Rattle.component_laws.proofs.SpelledWords as of_words
use Rattle.component_laws.proofs.words.settings_or_none.Goals as goal

pub returns : goal.returns
returns c = of_words.settings_or_none
