use Rattle.std.proofs.Common.{map}
use Rattle.import_rules.specs.Clashes.{see_item}
use Rattle.import_rules.specs.KnownFiles.{files_of, shared_of}
use Rattle.import_rules.proofs.ModuleClashes.{AreDone, lent_runs}
use Rattle.import_rules.proofs.module_clashes.all_clashes.Given as goal

-- the clashes of the runs so far are found
abbrev pub invariant-loop-run : goal.invariant-loop-run
invariant-loop-run l =
    AreDone (files_of l.lookups) (shared_of l.lookups) l.initial.run-iterator.rest.now (lent_runs l.yielded) l.run-iterator.rest.now (map see_item l.clashes.items)
