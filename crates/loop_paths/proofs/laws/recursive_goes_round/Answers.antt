use Rattle.graph_law.specs.Graph.{Calls}
use Rattle.loop_paths.proofs.GoesRound.{goes_round}
use Rattle.loop_paths.proofs.laws.recursive_goes_round.Goals as goal

pub returns : goal.returns
returns c = λ lists class found. goes_round (Calls lists) class found
