-- What the pass has seen it still has seen after the run.
use Rattle.search_pool.proofs.worker.run.run.Goals as goal

pub release-requires-clause-at_work : goal.release-requires-clause-at_work
release-requires-clause-at_work g c = record {
  working = c.in-Ripe.ensures.stops.0.working;
  handed = c.requires.at_work.handed;
  within = c.requires.at_work.within;
  seen = λ k d lt. c.in-Ripe.ensures.seen _ (c.requires.at_work.seen k d lt);
}

pub suspend-requires-clause-at_work : goal.suspend-requires-clause-at_work
suspend-requires-clause-at_work g c = record {
  working = c.in-Wants.ensures.stops.0.working;
  handed = c.requires.at_work.handed;
  within = c.requires.at_work.within;
  seen = λ k d lt. c.in-Wants.ensures.seen _ (c.requires.at_work.seen k d lt);
}
