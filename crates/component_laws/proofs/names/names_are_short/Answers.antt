use Rattle.component_laws.proofs.ShortNames.{names_short}
use Rattle.component_laws.proofs.names.names_are_short.Goals as goal

pub returns : goal.returns
returns c = names_short c.words_have_places.ensures
