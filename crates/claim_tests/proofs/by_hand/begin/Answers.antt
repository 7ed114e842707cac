use Rattle.std.proofs.Common.{sym}
use Rattle.search_pool.proofs.EdgesKept.{begins_on}
use Rattle.claim_tests.proofs.by_hand.begin.Goals as goal

pub returns-clause-runs : goal.returns-clause-runs
returns-clause-runs c =
    begins_on c.in-Some.next c.requires (sym c.in-Some.ensures.next) c.in-Some.ensures.begun
    (c.in-Some.ensures.good c.args.claims.now.lists c.args.claims.now.roots c.args.pass.now.view.seen c.requires.working.good)
