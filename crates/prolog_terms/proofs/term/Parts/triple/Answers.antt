use Rattle.std.proofs.Common.{◌≢◌, sym, arith, take}
use Rattle.prolog_terms.specs.Tree.{none, count}
use Rattle.prolog_terms.specs.Terms.{trees_of}
use Rattle.prolog_terms.specs.Forest.{forest}
use Rattle.prolog_terms.proofs.SizedNodes.{count_parts, triple_none}
use Rattle.prolog_terms.proofs.term.Parts.triple.Goals as goal

pub returns-then-self-ne3 : goal.returns-then-self-ne3
returns-then-self-ne3 c =
    let parts = c.args.self.now in
    let other : count (trees_of parts) ≢ 3 = λ one. c.if-self-ne3.true (omega (arith, one, count_parts parts.count (forest parts.names.now (take parts.end parts.nodes.now)) none)) in
    sym (triple_none (trees_of parts) other)
