use Rattle.group_release.proofs.LevelSteps.{levels_done}
use Rattle.group_feed.proofs.level_taker.LevelTaker.levels.Goals as goal

pub returns-clause-are : goal.returns-clause-are
returns-clause-are g c = rw (← c.self.view_is) (levels_done c.self.invariant.ordered.legal c.self.invariant.each c.self.invariant.raised)
