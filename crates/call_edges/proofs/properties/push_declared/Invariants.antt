use Rattle.std.proofs.Common.{take}
use Rattle.call_edges.specs.Goals.{Adds}
use Rattle.call_edges.specs.Calls.{IsAmong}
use Rattle.call_edges.proofs.PropertyLemmas.{IsKeptIn}
use Rattle.call_edges.proofs.properties.push_declared.Given as goal

-- what the files so far declare
abbrev pub invariant-loop-file : goal.invariant-loop-file
invariant-loop-file l = Adds (IsAmong (IsKeptIn l.program l.property) (take l.file-index l.file-items)) l.fn.nodes.items l.nodes.items
