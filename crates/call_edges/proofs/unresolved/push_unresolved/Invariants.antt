use Rattle.std.proofs.Common.{map, take}
use Rattle.call_edges.specs.Goals.{Adds}
use Rattle.call_edges.specs.Calls.{IsAmong}
use Rattle.call_edges.specs.Called.{see_called}
use Rattle.call_edges.proofs.UnresolvedLemmas.{IsKeptName}
use Rattle.call_edges.proofs.unresolved.push_unresolved.Given as goal

-- the names of the calls so far
abbrev pub invariant-loop-one : goal.invariant-loop-one
invariant-loop-one l = Adds (IsAmong (IsKeptName l.program) (take l.one-index l.met)) (map see_called l.fn.names.items) (map see_called l.names.items)
