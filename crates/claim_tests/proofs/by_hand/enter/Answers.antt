use Rattle.search_pool.proofs.EdgesKept.{away_from}
use Rattle.claim_tests.proofs.by_hand.enter.Goals as goal

pub push-requires-clause-away : goal.push-requires-clause-away
push-requires-clause-away c = away_from c.in_ok-begin.ensures.runs c.in-Won.ensures.later
