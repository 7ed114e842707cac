use Rattle.node_claims.proofs.Once.{claimed_once, claimed_stand, closed_stand, stand_somewhere}
use Rattle.node_claims.proofs.laws.nodes_are_claimed_once.Goals as goal

pub returns-clause-once : goal.returns-clause-once
returns-clause-once c = claimed_once

pub returns-clause-somewhere : goal.returns-clause-somewhere
returns-clause-somewhere c = stand_somewhere

pub returns-clause-claimed : goal.returns-clause-claimed
returns-clause-claimed c = claimed_stand

pub returns-clause-closed : goal.returns-clause-closed
returns-clause-closed c = closed_stand
