use Rattle.import_rules.proofs.PlacesTold.{places_told}
use Rattle.import_rules.proofs.laws.places_told.Goals as goal

pub returns : goal.returns
returns c = places_told
