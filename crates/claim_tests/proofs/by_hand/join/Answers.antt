use Rattle.std.proofs.Common.{sym, subst}
use Rattle.std.specs.Prelude.{false}
use Rattle.search_stack.specs.Search.{SearchValue}
use Rattle.search_pool.specs.Worker.{IsSearching}
use Rattle.search_pool.proofs.EdgesKept.{retreats_on, unripe_two}
use Rattle.claim_tests.proofs.by_hand.join.Goals as goal

pub returns : goal.returns
returns c =
    let running : SearchValue → Type 0 = λ s. IsSearching c.args.claims.now c.args.pass.now s false in
    let runs = subst running (sym c.in-None.ensures.unchanged) c.requires in
    let two = unripe_two c.begin.new.self c.is_ripe.result c.is_ripe.ensures.shaped c.in-None.ensures.done c.is_ripe.ensures.ripe.1 c.if-is_ripe.false in
    retreats_on runs two c.retreat.ensures.retreated
    (c.retreat.ensures.good c.args.claims.now.lists c.args.claims.now.roots c.args.pass.now.view.seen runs.working.good)
