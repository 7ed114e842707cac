use Rattle.std.proofs.Common.{ℕ, List, [], get_or, ap, ◌∙◌, sym}
use Rattle.search_stack.specs.Stack.{size}
use Rattle.search_pool.proofs.EdgesKept.{opens_it}
use Rattle.claim_tests.proofs.ByHand.{room_for_won}
use Rattle.claim_tests.proofs.by_hand.push.Goals as goal

pub returns : goal.returns
returns c =
    let succs = c.in_ok-expand.ensures.ok ∙ ap (λ (lists : List (List ℕ)). get_or lists c.args.node []) (sym c.requires.made) in
    let works = room_for_won {now = c.reserve.new.self} c.requires.working c.reserve.ensures.stack c.reserve.ensures.wanted in
    opens_it c.expand.new.out.items works c.push.ensures.pushed c.push.ensures.wants_nothing
    (c.push.ensures.good c.args.claims.now.lists c.args.claims.now.roots c.args.pass.now.view.seen works.good succs
    (λ none. c.requires.reached (ap size (sym c.reserve.ensures.stack) ∙ none)))
