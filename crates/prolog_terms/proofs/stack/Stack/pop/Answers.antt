use Rattle.prolog_terms.proofs.Entries.{popped}
use Rattle.prolog_terms.proofs.stack.Stack.pop.Goals as goal

pub returns : goal.returns
returns c =
    let top = c.in_ok-top.top in
    (top.reach, top.separates, popped c.args.self.now.entries.items c.pop.new.self.items top c.in_ok-top.ensures.items)
