use Rattle.graph_rows.proofs.answers.search_groups.Goals as goal

pub levels-requires-clause-nodes : goal.levels-requires-clause-nodes
levels-requires-clause-nodes c κs = rw c.deref.ensures.value c.in_ok-groups.ensures.nodes
