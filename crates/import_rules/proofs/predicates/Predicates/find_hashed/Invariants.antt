use Rattle.std.proofs.Common.{length}
use Rattle.import_rules.specs.Names.{pred_name}
use Rattle.import_rules.specs.Parts.{names_at}
use Rattle.import_rules.proofs.Chains.{IsPassed}
use Rattle.import_rules.proofs.predicates.Predicates.find_hashed.Given as goal

-- the name stands at no place from here on
abbrev pub invariant-loop : goal.invariant-loop
invariant-loop l =
    IsPassed (names_at l.self-inside.files.now l.self-inside.places.now) (length l.self-inside.chains.now.heads.items) (pred_name l.module l.name l.arity) l.at
