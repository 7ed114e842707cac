use Rattle.std.proofs.Common.{take}
use Rattle.std.specs.List.{filter_map}
use Rattle.call_edges.specs.Called.{unresolved}
use Rattle.call_edges.specs.Seen.{see_mets}
use Rattle.group_tool.proofs.KindLemmas.{AreKinds}
use Rattle.group_tool.proofs.own_kinds.kinds_in.Given as goal

-- the kinds of what was met so far
abbrev pub invariant-loop-one : goal.invariant-loop-one
invariant-loop-one l = AreKinds (filter_map (unresolved l.program) (see_mets (take l.one-index l.met))) l.all
