use Rattle.std.proofs.Common.{◌≡◌, true, [], ◌-◌, ◌*◌}
use Rattle.call_edges.specs.Goals.{Adds}
use Rattle.call_edges.specs.Successors.{successor_lists}
use Rattle.call_edges.specs.CallLists.{piece_lists}
use Rattle.call_edges.proofs.KeptCallLemmas.{AreFirstCalls}
use Rattle.call_edges.proofs.LaidOutLemmas.{AreFirst}
use Rattle.call_edges.proofs.PieceLemmas.{IsFaultBetween}
use Rattle.call_edges.proofs.piece.open_piece.Given as goal

-- the lists of the predicates so far, where their goals aren't callable, and the calls that are kept
abbrev pub invariant-loop-node : goal.invariant-loop-node
invariant-loop-node l = record {
  lists : AreFirst (piece_lists (successor_lists l.program) l.number) (l.node - l.number * 512) l.piece.starts.items l.piece.callees.items;
  faults : Adds (IsFaultBetween l.program (l.number * 512) l.node) [] l.piece.faults.items;
  calls : l.keep ≡ true → AreFirstCalls l.program (l.number * 512) (l.node - l.number * 512) l.kept.spans.items l.kept.calls.items;
}
