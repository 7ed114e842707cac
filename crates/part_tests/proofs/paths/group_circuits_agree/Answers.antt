use Rattle.part_tests.proofs.paths.group_circuits_agree.Goals as goal

pub circuits-requires-clause-nodes : goal.circuits-requires-clause-nodes
circuits-requires-clause-nodes c κs = rw c.deref.ensures.value c.in_ok-groups.ensures.nodes
