use Rattle.std.proofs.Common.{rules}
use Rattle.group_feed.proofs.LineSteps.{begins, forks}
use Rattle.group_feed.proofs.ends.open_line.Goals as goal

pub ruled-requires-clause-rule : goal.ruled-requires-clause-rule
ruled-requires-clause-rule g c = begins g.N.Graph.lists

pub another-taker-requires-clause-rule : goal.another-taker-requires-clause-rule
another-taker-requires-clause-rule g c = forks g.N.Graph.lists _ _ (search rules) (search rules)
