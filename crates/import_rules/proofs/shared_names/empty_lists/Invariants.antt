use Rattle.std.proofs.Common.{◌≡◌, [], All, Vec, length}
use Rattle.std.specs.declared.alloc.Global.{Global}
use Rattle.import_rules.specs.declared.shared_names.Exporter.{Exporter}
use Rattle.import_rules.proofs.shared_names.empty_lists.Given as goal

-- the lists so far are empty
abbrev pub invariant-loop : goal.invariant-loop
invariant-loop l = (length l.lists.items ≡ l.counter) × All (λ (list : Vec Exporter Global). list.items ≡ []) l.lists.items
