use Rattle.std.proofs.Common.{reverse, arith}
use Rattle.std.proofs.lemmas.List.{length-reverse}
use Rattle.prolog_terms.proofs.Entries.{entries_length}
use Rattle.prolog_terms.proofs.stack.Stack.height.Goals as goal

pub returns : goal.returns
returns c = λ names trees.
    let items = c.args.self.now.entries.items in
    omega (arith, c.len.ensures, c.args.self.now.entries.ok, entries_length names (reverse items) trees, length-reverse items)
