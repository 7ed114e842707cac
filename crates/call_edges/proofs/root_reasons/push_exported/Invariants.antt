use Rattle.std.proofs.Common.{take}
use Rattle.call_edges.specs.Goals.{Adds}
use Rattle.call_edges.specs.Calls.{IsAmong}
use Rattle.call_edges.proofs.RootReasons.{IsModuleExport}
use Rattle.call_edges.proofs.root_reasons.push_exported.Given as goal

-- what the files so far export
abbrev pub invariant-loop-file : goal.invariant-loop-file
invariant-loop-file l = Adds (IsAmong (IsModuleExport l.program) (take l.file-index l.file-items)) l.fn.nodes.items l.nodes.items
