use Rattle.std.proofs.Common.{◌≡◌, take}
use Rattle.byte_names.specs.Names.{names_of}
use Rattle.component_tool.proofs.telling.lent_names.Given as goal

-- the names so far
abbrev pub invariant-loop-name : goal.invariant-loop-name
invariant-loop-name l = names_of l.lent.items ≡ take l.name-index l.names
