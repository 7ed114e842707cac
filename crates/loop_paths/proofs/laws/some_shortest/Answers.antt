use Rattle.loop_paths.proofs.Exists as some
use Rattle.loop_paths.proofs.laws.some_shortest.Goals as goal

pub returns-clause-path : goal.returns-clause-path
returns-clause-path c = some.some_shortest

pub returns-clause-circuits : goal.returns-clause-circuits
returns-clause-circuits c = some.some_circuits
