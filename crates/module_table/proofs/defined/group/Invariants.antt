use Rattle.std.proofs.Common.{map, flat_map}
use Rattle.module_table.specs.Defined.{AreDefined, see_defined, see_run}
use Rattle.module_table.proofs.defined.group.Given as goal

-- the runs so far are grouped
abbrev pub invariant-loop-run : goal.invariant-loop-run
invariant-loop-run l = AreDefined (flat_map (see_run l.names) l.yielded) (map (see_defined l.names) l.defined.items)
