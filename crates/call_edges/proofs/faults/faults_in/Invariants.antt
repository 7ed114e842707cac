use Rattle.std.proofs.Common.{[], take}
use Rattle.call_edges.specs.ProgramRows.{rows_of}
use Rattle.call_edges.specs.Goals.{Adds}
use Rattle.call_edges.specs.Calls.{IsAmong}
use Rattle.call_edges.proofs.FaultLemmas.{IsSeenFault}
use Rattle.call_edges.proofs.faults.faults_in.Given as goal

-- the places in the bodies so far
abbrev pub invariant-loop-body : goal.invariant-loop-body
invariant-loop-body l = Adds (IsAmong (IsSeenFault (rows_of l.program)) (take l.body-index l.bodies)) [] l.faults.items
