use Rattle.part_tests.proofs.carriers.carriers_agree.Goals as goal

pub levels-requires-clause-nodes : goal.levels-requires-clause-nodes
levels-requires-clause-nodes g c κs = rw c.deref.ensures.value c.in_ok-groups.ensures.nodes

pub flow-requires-clause-nodes : goal.flow-requires-clause-nodes
flow-requires-clause-nodes g c κs within = rw c.deref-2.ensures.value c.in_ok-groups.ensures.nodes
