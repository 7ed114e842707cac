use Rattle.std.proofs.Common.{◌<◌, length, ap, ◌∙◌, arith, reverse}
use Rattle.loop_paths.proofs.Climbing.{climbing_more, climbing_done, read_is}
use Rattle.loop_paths.proofs.tree.Tree.path.Goals as goal

pub loop-at-preserved : goal.loop-at-preserved
loop-at-preserved c =
    let tree = c.requires.tree.3 in
    let inside : c.loop-at.at < length c.args.self.now.nodes.items = omega (arith, c.loop-at.invariant.upto, c.requires.within) in
    let each = tree.a_caller_each in
    rw c.in_ok-push.ensures.items
    (climbing_more c.requires.tree.0 c.requires.tree.1 c.requires.tree.2 c.args.self.now.nodes.items c.args.self.now.callers.items c.args.place
    c.loop-at.at c.index-at.result.now c.index.result.now c.loop-at.path.items tree c.requires.within c.loop-at-test.true
    (read_is c.args.self.now.nodes.items c.loop-at.at c.index.result.now inside c.index.ensures)
    (read_is c.args.self.now.callers.items c.loop-at.at c.index-at.result.now (omega (arith, inside, each)) c.index-at.ensures)
    c.loop-at.invariant)

pub returns : goal.returns
returns c = λ lists from paths tree.
    c.reverse.ensures.items
    ∙ (ap reverse c.in_ok-push-2.ensures.items
    ∙ climbing_done c.args.self.now.nodes.items c.args.self.now.callers.items c.args.place c.loop-at.at c.index-2.result.now c.loop-at.path.items
    c.loop-at-test.false (read_is c.args.self.now.nodes.items 0 c.index-2.result.now tree.some c.index-2.ensures) c.loop-at.invariant lists from
    paths tree)
