use Rattle.claim_tests.proofs.ByHand.{sees_root}
use Rattle.claim_tests.proofs.claim_tests.groups_by_hand.Goals as goal

pub finish-requires-clause-seen : goal.finish-requires-clause-seen
finish-requires-clause-seen g c =
    sees_root c.in_ok-claims.claims.roots c.see_done.new.pass c.in_ok-first.first c.join-pass.result c.in_ok-claims.ensures.roots
    c.in_ok-see_done.ensures.seen c.join-pass.ensures
