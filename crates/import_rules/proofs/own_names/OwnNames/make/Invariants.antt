use Rattle.import_rules.specs.OwnNames.{AreKept}
use Rattle.import_rules.specs.Parts.{names_at}
use Rattle.import_rules.proofs.own_names.OwnNames.make.Given as goal

-- what is kept so far is right
abbrev pub invariant-loop-node : goal.invariant-loop-node
invariant-loop-node l = AreKept l.files (names_at l.files l.predicates) l.lists.items
