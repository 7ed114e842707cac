use Rattle.std.proofs.Common.{◌≡◌, [], ◌∷◌, ◌++◌, ap, arith}
use Rattle.list_laws.specs.Counts.{times}
use Rattle.list_laws.proofs.Counting.{times-append, times_here}
use Rattle.node_claims.specs.declared.view.View.{View}
use Rattle.claim_tests.proofs.by_hand.claim_done.Goals as goal

pub returns-clause-seen : goal.returns-clause-seen
returns-clause-seen c =
    let seen : c.claim.new.pass.view.seen ≡ c.args.pass.now.view.seen ++ c.args.node ∷ [] = ap (λ (v : View). v.seen) c.in-Done.ensures.view in
    omega (
      arith,
      ap (times c.args.node) seen,
      times-append c.args.node c.args.pass.now.view.seen (c.args.node ∷ []),
      times_here c.args.node,
    )
