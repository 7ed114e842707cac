use Rattle.std.proofs.Common.{arith}
use Rattle.prolog_terms.specs.Tree.{none}
use Rattle.prolog_terms.specs.Forest.{forest}
use Rattle.std.proofs.Common.{take}
use Rattle.prolog_terms.proofs.SizedNodes.{count_parts}
use Rattle.prolog_terms.proofs.term.Parts.len.Goals as goal

pub returns : goal.returns
returns c =
    let parts = c.args.self.now in
    omega (arith, count_parts parts.count (forest parts.names.now (take parts.end parts.nodes.now)) none)
