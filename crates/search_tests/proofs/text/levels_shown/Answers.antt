use Rattle.group_release.proofs.Beside.{reached_within}
use Rattle.search_tests.proofs.text.levels_shown.Goals as goal

pub levels-requires-clause-nodes : goal.levels-requires-clause-nodes
levels-requires-clause-nodes c κs = λ p has.
    reached_within c.args.graph.now.lists c.args.graph.now.roots c.roots-roots.ensures.graph.closed c.roots-roots.ensures.graph.rooted p (c.requires.reached p has)
