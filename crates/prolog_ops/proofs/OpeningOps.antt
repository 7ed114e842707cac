-- The opening table is a table.
use Rattle.std.proofs.Common.{ℕ, ◌≡◌, inl, inr, List, [], ◌∷◌, Some, refl, sym, subst, ◌∙◌, lit<, lit≤}
use Rattle.std.proofs.Math.Path.{fun_ext}
use Rattle.prolog_ops.specs.declared.op.Op.{Op}
use Rattle.prolog_ops.specs.ByName.{Entries, ByName, op_at, no_op, with_op, with_each}
use Rattle.prolog_ops.specs.Table.{Place, Prefix, Infix, Postfix, Row, with_rows, opening_rows, opening, Fits, IsOps, ops_of}
use Rattle.prolog_ops.proofs.Changes.{at_name}

-- each operator fits the place
abbrev AllFit : Place → ByName → Type 0
AllFit place ops = (name : List ℕ) (op : Op) → ops name ≡ Some op → Fits place op

abbrev RowsFit : Place → List Row → Type 0
RowsFit place [] = Unit {0}
RowsFit place (row ∷ rows) = Fits place row.op × RowsFit place rows

with_op_fits : (place : Place) (ops : ByName) (name : List ℕ) (op : Op) → AllFit place ops → Fits place op → AllFit place (with_op ops name (Some op))
with_op_fits place ops name op all fits other o h =
    elim (at_name ops name (Some op) other) [
      | inl kept ↦ all other o (sym kept ∙ h)
      | inr hit ↦ let same : op ≡ o = (let both : Some op ≡ Some o = sym hit.1 ∙ h in cc) in subst (λ q. Fits place q) same fits
    ]

with_each_fits : (place : Place) (ops : ByName) (names : List (List ℕ)) (op : Op) → AllFit place ops → Fits place op → AllFit place (with_each ops names op)
with_each_fits place ops [] op all fits = all
with_each_fits place ops (name ∷ names) op all fits =
    with_each_fits place (with_op ops name (Some op)) names op (with_op_fits place ops name op all fits) fits

with_rows_fits : (place : Place) (ops : ByName) (rows : List Row) → AllFit place ops → RowsFit place rows → AllFit place (with_rows ops rows)
with_rows_fits place ops [] all fits = all
with_rows_fits place ops (row ∷ rows) all fits =
    with_rows_fits place (with_each ops row.names row.op) rows (with_each_fits place ops row.names row.op all fits.0) fits.1

no_op_fits : (place : Place) → AllFit place no_op
no_op_fits place name op h = cc

rows_fit : (place : Place) → RowsFit place (opening_rows place)
rows_fit Prefix = (
  record { there = refl; some = lit< tt; most = lit≤ tt },
  (
    record { there = refl; some = lit< tt; most = lit≤ tt },
    (
      record { there = refl; some = lit< tt; most = lit≤ tt },
      (record { there = refl; some = lit< tt; most = lit≤ tt }, tt),
    ),
  ),
)
rows_fit Infix = (
  record { there = refl; some = lit< tt; most = lit≤ tt },
  (
    record { there = refl; some = lit< tt; most = lit≤ tt },
    (
      record { there = refl; some = lit< tt; most = lit≤ tt },
      (
        record { there = refl; some = lit< tt; most = lit≤ tt },
        (
          record { there = refl; some = lit< tt; most = lit≤ tt },
          (
            record { there = refl; some = lit< tt; most = lit≤ tt },
            (
              record { there = refl; some = lit< tt; most = lit≤ tt },
              (
                record { there = refl; some = lit< tt; most = lit≤ tt },
                (record { there = refl; some = lit< tt; most = lit≤ tt }, tt),
              ),
            ),
          ),
        ),
      ),
    ),
  ),
)
rows_fit Postfix = tt

pub opening_is : IsOps opening
opening_is = record {
  fixed = λ place name h. refl;
  apart = λ name infix_there postfix_there. cc;
  fits = λ place. with_rows_fits place no_op (opening_rows place) (no_op_fits place) (rows_fit place);
}

-- the lists of the three places are the opening table
pub opening_lists : (prefixes infixes postfixes : Entries) → op_at prefixes ≡ opening Prefix → op_at infixes ≡ opening Infix → op_at postfixes ≡ no_op
    → ops_of (record { prefixes = prefixes; infixes = infixes; postfixes = postfixes }) ≡ opening
opening_lists prefixes infixes postfixes prefix_is infix_is postfix_is = fun_ext at
  where
    at : (place : Place) → ops_of (record { prefixes = prefixes; infixes = infixes; postfixes = postfixes }) place ≡ opening place
    at Prefix = prefix_is
    at Infix = infix_is
    at Postfix = postfix_is
