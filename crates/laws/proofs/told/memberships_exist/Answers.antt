use Rattle.laws.proofs.GroupPlaces.{places_of}
use Rattle.laws.proofs.told.memberships_exist.Goals as goal

pub returns : goal.returns
returns c = places_of
