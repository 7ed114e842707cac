use Rattle.std.proofs.Common.{◌≡◌, length}
use Rattle.import_rules.proofs.Marks.{AreEmptyRows}
use Rattle.import_rules.proofs.taken_modules.empty_rows.Given as goal

-- the rows so far
abbrev pub invariant-loop : goal.invariant-loop
invariant-loop l = (length l.rows.items ≡ l.counter) × AreEmptyRows l.size l.rows.items
