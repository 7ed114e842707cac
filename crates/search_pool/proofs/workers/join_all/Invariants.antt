use Rattle.std.proofs.Common.{length, All}
use Rattle.search_pool.specs.Driving.{IsThrough}
use Rattle.search_pool.specs.Worker.{EndsWell}
use Rattle.search_pool.proofs.workers.join_all.Given as goal

abbrev pub invariant-others : goal.invariant-others
invariant-others l = IsThrough l.claims l.pass × All (EndsWell l.claims) l.others.items

abbrev pub decreases-others : goal.decreases-others
decreases-others l = length l.others.items
