use Rattle.std.proofs.Common.{◌≢◌, sym, arith, take}
use Rattle.prolog_terms.specs.Tree.{none, count}
use Rattle.prolog_terms.specs.Terms.{trees_of}
use Rattle.prolog_terms.specs.Forest.{forest}
use Rattle.prolog_terms.proofs.SizedNodes.{count_parts, pair_none}
use Rattle.prolog_terms.proofs.term.Parts.pair.Goals as goal

pub returns-then-self-ne2-clause-trees : goal.returns-then-self-ne2-clause-trees
returns-then-self-ne2-clause-trees c =
    let parts = c.args.self.now in
    let other : count (trees_of parts) ≢ 2 = λ one. c.if-self-ne2.true (omega (arith, one, count_parts parts.count (forest parts.names.now (take parts.end parts.nodes.now)) none)) in
    sym (pair_none (trees_of parts) other)
