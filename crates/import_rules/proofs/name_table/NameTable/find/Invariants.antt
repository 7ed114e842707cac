use Rattle.std.proofs.Common.{length}
use Rattle.import_rules.specs.Names.{pred_name}
use Rattle.import_rules.proofs.Chains.{IsPassed}
use Rattle.import_rules.proofs.name_table.NameTable.find.Given as goal

-- the name stands at no place from here on
abbrev pub invariant-loop : goal.invariant-loop
invariant-loop l = IsPassed l.self-inside.names.items (length l.self-inside.heads.items) (pred_name l.module l.name l.arity) l.at
