use Rattle.group_feed.proofs.LineSteps.{fit, pushes}
use Rattle.group_feed.proofs.ends.push.Goals as goal

pub push_as-requires-clause-rule : goal.push_as-requires-clause-rule
push_as-requires-clause-rule g c = (
  pushes g.N.Graph.lists _ _ _ _ c.requires.feeds c.requires.open_yet c.requires.may,
  fit g.N.Graph.lists _ _ c.requires.feeds c.requires.open_yet,
)
