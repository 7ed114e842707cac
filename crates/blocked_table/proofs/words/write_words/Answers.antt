use Rattle.std.proofs.Common.{◌≡◌, sym, subst, arith}
use Rattle.search_stack.specs.Stack.{size}
use Rattle.blocked_table.specs.Words.{AreWritten}
use Rattle.blocked_table.proofs.WordSteps.{written_none, written_more}
use Rattle.blocked_table.proofs.words.write_words.Goals as goal

pub positions-init : goal.positions-init
positions-init c = written_none c.args.search.now.stack c.args.from c.args.from c.args.word c.args.holders.now.items (omega arith)

pub index_mut-requires : goal.index_mut-requires
index_mut-requires c =
    let below =
    c.requires.below c.node_at-node.result
    (record { place = c.positions.position; within = omega (arith, c.positions-test.true, c.len-position-end.ensures.len); is = sym c.node_at-node.ensures }) in
    omega (arith, below, c.positions.invariant.each, c.positions.holders.ok.0)

pub positions-preserved : goal.positions-preserved
positions-preserved c =
    let below =
    c.requires.below c.node_at-node.result
    (record { place = c.positions.position; within = omega (arith, c.positions-test.true, c.len-position-end.ensures.len); is = sym c.node_at-node.ensures }) in
    written_more c.node_at-node.result c.positions.invariant c.positions.auto.position c.node_at-node.ensures below

pub returns-clause-written : goal.returns-clause-written
returns-clause-written c =
    let last : c.positions.position ≡ size c.args.search.now.stack = omega (arith, c.positions-test.false, c.positions.auto.position-end, c.requires.within, c.len-position-end.ensures.len) in
    subst (λ upto. AreWritten c.args.search.now.stack c.args.from upto c.args.word c.args.holders.now.items c.positions.holders.items) last c.positions.invariant
