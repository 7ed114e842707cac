use Rattle.std.proofs.Common.{take}
use Rattle.call_edges.specs.Goals.{Adds}
use Rattle.call_edges.specs.Meant.{AreMeant}
use Rattle.call_edges.specs.ProgramRows.{rows_of}
use Rattle.call_edges.specs.Seen.{see_mets}
use Rattle.call_edges.specs.Calls.{IsAmong}
use Rattle.call_edges.proofs.BodyMets.{IsSeenMet}
use Rattle.call_edges.proofs.goals_met.push_met.Given as goal

-- what is met in the bodies so far, each with what it means
abbrev pub invariant-loop-body : goal.invariant-loop-body
invariant-loop-body l = record {
  met : Adds (IsAmong (IsSeenMet (rows_of l.program)) (take l.body-index l.bodies)) (see_mets l.fn.met.items) (see_mets l.met.items);
  meant : AreMeant l.program l.fn.met.items → AreMeant l.program l.met.items;
}
