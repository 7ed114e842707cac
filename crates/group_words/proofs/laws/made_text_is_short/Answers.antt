use Rattle.group_words.proofs.MadeLengths.{short_text}
use Rattle.group_words.proofs.laws.made_text_is_short.Goals as goal

pub returns : goal.returns
returns c = short_text
