use Rattle.import_rules.proofs.FoundMeans.{below, means, found_for}
use Rattle.import_rules.proofs.laws.found_means.Goals as goal

pub returns-clause-below : goal.returns-clause-below
returns-clause-below c = below

pub returns-clause-means : goal.returns-clause-means
returns-clause-means c = means

pub returns-clause-found : goal.returns-clause-found
returns-clause-found c = found_for
