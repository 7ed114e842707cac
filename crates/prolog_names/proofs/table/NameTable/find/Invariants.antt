use Rattle.std.proofs.Common.{length, ◌-◌}
use Rattle.std.specs.BTreeMap.{get_by_text}
use Rattle.std.specs.String.{string_bytes}
use Rattle.prolog_names.specs.Table.{names_of}
use Rattle.prolog_names.proofs.Chains.{IsPassed}
use Rattle.prolog_names.proofs.table.NameTable.find.Given as goal

-- the name stands at no place from here on
abbrev pub invariant-loop-at : goal.invariant-loop-at
invariant-loop-at l =
    IsPassed (get_by_text l.self-inside.far) (names_of (string_bytes l.self-inside.texts) l.self-inside.entries.items) (length l.self-inside.heads.items - 1) l.name
    l.at

abbrev pub decreases-loop-at : goal.decreases-loop-at
decreases-loop-at l = l.at
