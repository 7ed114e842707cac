use Rattle.std.proofs.Common.{◌++◌, get_or, ap, sym, ◌∙◌}
use Rattle.std.specs.List.{flat_map}
use Rattle.std.proofs.lemmas.List.{take_all}
use Rattle.call_edges.proofs.BodyLemmas.{flat_more}
use Rattle.call_table.specs.Clauses.{clauses_in}
use Rattle.call_table.proofs.clause_at.clauses_from.Goals as goal

pub loop-node-preserved : goal.loop-node-preserved
loop-node-preserved c =
    let seen = c.args.program.now in
    let nodes = c.args.nodes.now in
    let k = c.loop-node.node-index in
    let node = get_or nodes k 0 in
    c.in_ok-push_clauses_of.ensures
    ∙ (ap (λ xs. xs ++ clauses_in seen node) c.loop-node.invariant ∙ sym (flat_more (clauses_in seen) nodes k 0 c.loop-node-test.true))

pub returns : goal.returns
returns c =
    c.loop-node.invariant ∙ ap (flat_map (clauses_in c.args.program.now)) (take_all c.loop-node.node-index c.args.nodes.now c.loop-node-test.false)
