use Rattle.std.proofs.Common.{inl, inr}
use Rattle.prolog_tokens.proofs.RowLemmas.{starts_row, starts_before}
use Rattle.prolog_tokens.proofs.rows.tokens_in.Goals as goal

pub returns-in_default-clause-row : goal.returns-in_default-clause-row
returns-in_default-clause-row c =
    let from = c.args.span.now.from in
    (from, c.go_on.ensures.row from (starts_row c.args.text.now from _ c.in_ok-with_capacity.ensures.items))

pub returns-in_default-clause-all : goal.returns-in_default-clause-all
returns-in_default-clause-all c =
    let from = c.args.span.now.from in
    record {
      stands = c.go_on.ensures.row from (starts_row c.args.text.now from _ c.in_ok-with_capacity.ensures.items);
      before = c.go_on.ensures.before (starts_before c.args.span.now.to _ c.in_ok-with_capacity.ensures.items);
      over = inl (c.in_default.field-0, rw c.in_default.is at c.go_on.ensures.next);
    }

pub returns-in_default-fault : goal.returns-in_default-fault
returns-in_default-fault c =
    let from = c.args.span.now.from in
    record {
      row = (from, c.go_on.ensures.row from (starts_row c.args.text.now from _ c.in_ok-with_capacity.ensures.items));
      all = record {
        stands = c.go_on.ensures.row from (starts_row c.args.text.now from _ c.in_ok-with_capacity.ensures.items);
        before = c.go_on.ensures.before (starts_before c.args.span.now.to _ c.in_ok-with_capacity.ensures.items);
        over = inr (c.in-Err.fault, (rw c.in-Err.is at c.go_on.ensures.fault) c.in_default-fault.not-NoMemory);
      };
    }
