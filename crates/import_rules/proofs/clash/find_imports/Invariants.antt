use Rattle.std.proofs.Common.{◌≡◌, map}
use Rattle.import_rules.specs.Clashes.{see_item}
use Rattle.import_rules.proofs.ImportedNames.{into, firsts_in, clashes_in, now_of}
use Rattle.import_rules.proofs.NameOrder.{pred_cmp_total}
use Rattle.import_rules.proofs.Runs.{IsCut}
use Rattle.import_rules.specs.Names.{pred_cmp}
use Rattle.import_rules.proofs.clash.find_imports.Given as goal

-- the items so far are cut into runs, of which each is done
abbrev pub invariant-loop-run : goal.invariant-loop-run
invariant-loop-run l =
    IsCut pred_cmp pred_cmp_total into l.initial.run-iterator.rest.now (now_of l.yielded) l.run-iterator.rest.now
    × (map see_item l.found.firsts.items ≡ firsts_in (now_of l.yielded)) × (map see_item l.found.clashes.items ≡ clashes_in (now_of l.yielded))
