use Rattle.std.proofs.Common.{ℕ, List, [], get_or, ap, ◌∙◌, sym}
use Rattle.search_pool.proofs.EdgesKept.{opens_it}
use Rattle.search_pool.proofs.edges.open_node.Goals as goal

pub returns-clause-running : goal.returns-clause-running
returns-clause-running g c =
    let succs = c.in_ok-expand.ensures.ok ∙ ap (λ (lists : List (List ℕ)). get_or lists c.args.node []) (sym c.requires.made) in
    opens_it c.expand.new.out.items c.requires.working c.push.ensures.pushed c.push.ensures.wants_nothing
    (c.push.ensures.good c.args.claims.now.lists c.args.claims.now.roots c.args.pass.now.view.seen c.requires.working.good succs c.requires.reached)
