use Rattle.call_edges.proofs.RootLemmas.{root_below}
use Rattle.call_edges.proofs.laws.roots_below.Goals as goal

pub returns : goal.returns
returns c = root_below
