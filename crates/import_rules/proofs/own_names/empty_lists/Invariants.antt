use Rattle.import_rules.specs.OwnNames.{AreNothing}
use Rattle.import_rules.proofs.own_names.empty_lists.Given as goal

-- nothing is kept in the lists so far
abbrev pub invariant-loop-file : goal.invariant-loop-file
invariant-loop-file l = AreNothing l.lists.items
