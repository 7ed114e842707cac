use Rattle.std.proofs.Common.{take}
use Rattle.std.specs.List.{AllZip}
use Rattle.tool_run.specs.Roots.{IsNamed}
use Rattle.tool_run.proofs.roots.numbers_of.Given as goal

-- the numbers of the names so far
abbrev pub invariant-loop-name : goal.invariant-loop-name
invariant-loop-name l = AllZip (IsNamed l.program.predicates) (take l.name-index l.list) l.roots.items
