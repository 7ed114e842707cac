-- The lines of groups have an order.
use Rattle.std.proofs.Common.{ℕ, List, length, map, refl}
use Rattle.std.specs.List.{range_with_len}
use Rattle.graph_law.specs.LegalOrder.{IsLegalOrder}
use Rattle.group_release.specs.declared.level.Level.{Level}
use Rattle.report_lines.specs.LineOrder.{IsLineOrder}
use Rattle.report_lines.proofs.LineOrder.{line_at, line_cmp, line_cmp_total, ordered, places}
use Rattle.report_lines.proofs.Printable.{least_differ}
use Rattle.laws.proofs.Orders.{HasSorted, has_sorted}

pub line_order_of : {calls : ℕ → ℕ → Type 0} (groups : List (List ℕ)) (levels : List Level) → IsLegalOrder calls groups
    → (order : List ℕ) × IsLineOrder groups levels order
line_order_of groups levels legal =
    let lines = map (line_at groups levels) (range_with_len 0 (length groups)) in
    let rising : HasSorted line_cmp line_cmp_total lines = has_sorted line_cmp line_cmp_total lines in
    (places rising.sorted, ordered groups levels lines rising.sorted refl (least_differ legal) rising.moved rising.in_order)
