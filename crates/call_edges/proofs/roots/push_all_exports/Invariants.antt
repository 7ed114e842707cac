use Rattle.std.proofs.Common.{take}
use Rattle.call_edges.specs.Goals.{Adds}
use Rattle.call_edges.specs.Calls.{IsAmong}
use Rattle.call_edges.proofs.PlainRoots.{IsExportedBy}
use Rattle.call_edges.proofs.roots.push_all_exports.Given as goal

-- what the root files so far export
abbrev pub invariant-loop-file : goal.invariant-loop-file
invariant-loop-file l =
    Adds (IsAmong (IsExportedBy l.program) (take l.file-index l.file-items)) l.fn.roots.items l.roots.items
