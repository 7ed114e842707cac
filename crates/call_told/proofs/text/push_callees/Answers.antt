use Rattle.call_told.proofs.ToldLemmas.{node_listed}
use Rattle.call_told.proofs.text.push_callees.Goals as goal

pub expand-requires-clause-below : goal.expand-requires-clause-below
expand-requires-clause-below c =
    node_listed c.args.calls.now c.args.told.now.program.now c.args.node c.requires.calls c.requires.below
