use Rattle.node_claims.specs.Claims.{nodes_with}
use Rattle.node_claims.proofs.turn.Turn.give.Given as goal

abbrev pub ghosts-give_named : goal.ghosts-give_named
ghosts-give_named a = record { nodes = nodes_with a.running.now a.unopened }
