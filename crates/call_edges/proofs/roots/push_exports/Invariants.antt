use Rattle.std.proofs.Common.{take}
use Rattle.call_edges.specs.Goals.{Adds}
use Rattle.call_edges.specs.Calls.{IsAmong}
use Rattle.call_edges.proofs.RootLemmas.{IsExport}
use Rattle.call_edges.proofs.roots.push_exports.Given as goal

-- the exports so far
abbrev pub invariant-loop-export : goal.invariant-loop-export
invariant-loop-export l =
    Adds (IsAmong (IsExport l.program l.owner) (take l.export-index l.exports)) l.fn.roots.items l.roots.items
