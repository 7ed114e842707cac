use Rattle.std.proofs.Common.{subst}
use Rattle.import_rules.specs.Program.{IsKnown}
use Rattle.call_edges.proofs.graph.placed_call_lists.PlacedCallLists.is_known.Goals as goal

pub returns : goal.returns
returns c = subst IsKnown c.program.ensures c.is_known.ensures
