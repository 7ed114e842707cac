use Rattle.std.proofs.Common.{take}
use Rattle.std.specs.List.{AllZip}
use Rattle.call_edges.proofs.PlainRoots.{IsMark}
use Rattle.call_edges.proofs.roots.plain_roots.Given as goal

-- the marks of the files so far
abbrev pub invariant-loop-file : goal.invariant-loop-file
invariant-loop-file l = AllZip (IsMark l.fn.program.loaded.roots) (take l.file-index l.file-items) l.marks.items
