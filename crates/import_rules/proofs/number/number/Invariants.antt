use Rattle.std.proofs.Common.{◌≡◌}
use Rattle.import_rules.specs.Names.{pred_cmp}
use Rattle.import_rules.specs.Numbers.{lists_of}
use Rattle.import_rules.specs.Parts.{name_of_part}
use Rattle.import_rules.proofs.NameOrder.{pred_cmp_total}
use Rattle.import_rules.proofs.Numbering.{places_in_runs, now_of}
use Rattle.import_rules.proofs.Runs.{IsCut}
use Rattle.import_rules.proofs.number.number.Given as goal

-- the parts so far are cut into runs, of which each is done
abbrev pub invariant-loop-run : goal.invariant-loop-run
invariant-loop-run l =
    IsCut pred_cmp pred_cmp_total (name_of_part l.files) l.initial.run-iterator.rest.now (now_of l.yielded) l.run-iterator.rest.now
    × (lists_of l.predicates.items ≡ places_in_runs (now_of l.yielded))
