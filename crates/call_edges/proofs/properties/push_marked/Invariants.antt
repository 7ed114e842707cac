use Rattle.std.proofs.Common.{take}
use Rattle.call_edges.specs.Goals.{Adds}
use Rattle.call_edges.specs.Calls.{IsAmong}
use Rattle.call_edges.proofs.PropertyLemmas.{IsKeptMark}
use Rattle.call_edges.proofs.properties.push_marked.Given as goal

-- the marks so far
abbrev pub invariant-loop-mark : goal.invariant-loop-mark
invariant-loop-mark l = Adds (IsAmong (IsKeptMark l.program l.property l.names) (take l.mark-index l.marks)) l.fn.nodes.items l.nodes.items
