use Rattle.std.proofs.Common.{true, false, inl}
use Rattle.std.proofs.lemmas.Bool.{OnFalse_at}
use Rattle.search_stack.proofs.Driving.{settles}
use Rattle.search_pool.proofs.EdgesKept.{moves_on}
use Rattle.claim_tests.proofs.by_hand.back.Goals as goal

pub returns : goal.returns
returns c =
    let runs = c.in_ok-begin.ensures.runs in
    let same = settles c.begin.new.search c.back.new.self c.args.node c.back.result c.in_ok-begin.ensures.last c.back.ensures.on.0 c.back.ensures.lowered
    (λ isnt. OnFalse_at isnt c.back.ensures.unchanged) in
    moves_on false runs same.0.keeps.nodes c.back.ensures.wants_nothing
    (c.back.ensures.good c.args.claims.now.lists c.args.claims.now.roots c.args.pass.now.view.seen true runs.working.good (inl c.if-not-back.false))
