use Rattle.std.proofs.Common.{◌≤◌, length, arith, ap, sym, refl, subst}
use Rattle.std.specs.Str.{IsValidUpTo}
use Rattle.prolog_tokens.specs.Cut.{IsCut}
use Rattle.prolog_tokens.specs.Rows.{EachEndsClause, tokens_of}
use Rattle.prolog_tokens.proofs.Lookups.{cut_fewer}
use Rattle.clause_text.specs.Clauses.{text_trees, opening_ops, total_weight}
use Rattle.clause_text.specs.TextFault.{bytes, tokens, clauses}
use Rattle.clause_text.proofs.Outcomes.{on_err, err_only, ok_with}
use Rattle.clause_text.proofs.OneFault.{one_fault, fault_no_reading}
use Rattle.clause_text.proofs.RowClauses.{row_tokens}
use Rattle.clause_text.proofs.TextLemmas.{reads_plainly, one_plainly, clauses_have, tokens_have, placed_or_none, plain_clauses_weigh}
use Rattle.clause_text.proofs.text.read_text.Goals as goal

pub returns-in-Err-clause-only_fault : goal.returns-in-Err-clause-only_fault
returns-in-Err-clause-only_fault g c = λ some other also.
    one_fault c.args.bytes.now other _ also
    (bytes (c.valid_up_to.result, refl, subst (IsValidUpTo c.args.bytes.now) (sym c.valid_up_to.ensures) c.in-Err.ensures.cases.1))

pub returns-in_err-rows-clause-none : goal.returns-in_err-rows-clause-none
returns-in_err-rows-clause-none g c =
    on_err c.from_residual.result _ _ c.from_residual.ensures.1
    (λ fault same some others reads.
    fault_no_reading c.args.bytes.now fault others
    (tokens (tokens_have c.args.bytes.now c.in-Ok.text.now c.in_err-rows.field-0.0 fault c.in-Ok.ensures.cases.0 c.in-Ok.ensures.cases.1 same c.in_err-rows.ensures.fault some)) reads)

pub returns-in_err-rows-clause-fault : goal.returns-in_err-rows-clause-fault
returns-in_err-rows-clause-fault g c =
    on_err c.from_residual.result _ _ c.from_residual.ensures.1
    (λ fault same some.
    tokens (tokens_have c.args.bytes.now c.in-Ok.text.now c.in_err-rows.field-0.0 fault c.in-Ok.ensures.cases.0 c.in-Ok.ensures.cases.1 same c.in_err-rows.ensures.fault some))

pub returns-in_err-rows-clause-only_fault : goal.returns-in_err-rows-clause-only_fault
returns-in_err-rows-clause-only_fault g c =
    on_err c.from_residual.result _ _ c.from_residual.ensures.1
    (λ fault same some other also.
    one_fault c.args.bytes.now other fault also
    (tokens (tokens_have c.args.bytes.now c.in-Ok.text.now c.in_err-rows.field-0.0 fault c.in-Ok.ensures.cases.0 c.in-Ok.ensures.cases.1 same c.in_err-rows.ensures.fault some)))

pub read_clauses-requires-clause-cut : goal.read_clauses-requires-clause-cut
read_clauses-requires-clause-cut g c = λ lifetimes outlives.
    subst (λ rows. IsCut c.in-Ok.text.now (tokens_of rows)) (sym c.in_ok-numbered.ensures.tokens) c.in_ok-rows.ensures.ok

pub read_clauses-requires-clause-ends : goal.read_clauses-requires-clause-ends
read_clauses-requires-clause-ends g c = λ lifetimes outlives. subst EachEndsClause (sym c.in_ok-numbered.ensures.tokens) c.in_ok-rows.ensures.ends

pub returns-clause-ok : goal.returns-clause-ok
returns-clause-ok g c =
    ok_with c.read_clauses.result _ _ c.read_clauses.ensures.ok
    (λ found are.
    reads_plainly c.args.bytes.now c.in-Ok.text.now (tokens_of c.in_ok-rows.rows.items) (row_tokens c.in_ok-numbered.numbered.rows.items) (text_trees found) c.in-Ok.ensures.cases.0
    (ap tokens_of c.in_ok-numbered.ensures.tokens) c.in-Ok.ensures.cases.1 c.in_ok-rows.ensures.ok are)

pub returns-clause-fault : goal.returns-clause-fault
returns-clause-fault g c =
    err_only c.read_clauses.result _ _ c.read_clauses.ensures.fault
    (λ fault has some.
    clauses (clauses_have c.args.bytes.now c.in-Ok.text.now (tokens_of c.in_ok-rows.rows.items) (row_tokens c.in_ok-numbered.numbered.rows.items) fault c.in-Ok.ensures.cases.0
    (ap tokens_of c.in_ok-numbered.ensures.tokens) c.in-Ok.ensures.cases.1 c.in_ok-rows.ensures.ok (has some)))

pub returns-clause-only : goal.returns-clause-only
returns-clause-only g c =
    ok_with c.read_clauses.result _ _ c.read_clauses.ensures.ok
    (λ found are others reads.
    one_plainly c.args.bytes.now (text_trees found) others
    (reads_plainly c.args.bytes.now c.in-Ok.text.now (tokens_of c.in_ok-rows.rows.items) (row_tokens c.in_ok-numbered.numbered.rows.items) (text_trees found) c.in-Ok.ensures.cases.0 (ap tokens_of c.in_ok-numbered.ensures.tokens)
    c.in-Ok.ensures.cases.1 c.in_ok-rows.ensures.ok are) reads)

pub returns-clause-none : goal.returns-clause-none
returns-clause-none g c =
    err_only c.read_clauses.result _ _ c.read_clauses.ensures.fault
    (λ fault has some others reads.
    fault_no_reading c.args.bytes.now fault others
    (clauses (clauses_have c.args.bytes.now c.in-Ok.text.now (tokens_of c.in_ok-rows.rows.items) (row_tokens c.in_ok-numbered.numbered.rows.items) fault c.in-Ok.ensures.cases.0 (ap tokens_of c.in_ok-numbered.ensures.tokens)
    c.in-Ok.ensures.cases.1 c.in_ok-rows.ensures.ok (has some))) reads)

pub returns-clause-only_fault : goal.returns-clause-only_fault
returns-clause-only_fault g c =
    err_only c.read_clauses.result _ _ c.read_clauses.ensures.fault
    (λ fault has some other also.
    one_fault c.args.bytes.now other fault also
    (clauses (clauses_have c.args.bytes.now c.in-Ok.text.now (tokens_of c.in_ok-rows.rows.items) (row_tokens c.in_ok-numbered.numbered.rows.items) fault c.in-Ok.ensures.cases.0 (ap tokens_of c.in_ok-numbered.ensures.tokens)
    c.in-Ok.ensures.cases.1 c.in_ok-rows.ensures.ok (has some))))

pub returns-clause-offset : goal.returns-clause-offset
returns-clause-offset g c =
    err_only c.read_clauses.result _ _ c.read_clauses.ensures.fault
    (λ fault has.
    placed_or_none c.args.bytes.now fault
    (λ some.
    clauses_have c.args.bytes.now c.in-Ok.text.now (tokens_of c.in_ok-rows.rows.items) (row_tokens c.in_ok-numbered.numbered.rows.items) fault c.in-Ok.ensures.cases.0 (ap tokens_of c.in_ok-numbered.ensures.tokens)
    c.in-Ok.ensures.cases.1 c.in_ok-rows.ensures.ok (has some)))

pub returns-clause-weights : goal.returns-clause-weights
returns-clause-weights g c =
    let fewer : length (tokens_of c.in_ok-rows.rows.items) ≤ length c.in-Ok.text.now = cut_fewer c.in-Ok.text.now (tokens_of c.in_ok-rows.rows.items) c.in_ok-rows.ensures.ok in
    ok_with c.read_clauses.result _ _ c.read_clauses.ensures.ok
    (λ found are.
    (let weigh : total_weight (text_trees found) ≤ length (row_tokens c.in_ok-numbered.numbered.rows.items) =
    plain_clauses_weigh opening_ops c.in-Ok.text.now (row_tokens c.in_ok-numbered.numbered.rows.items) (text_trees found) are in
    omega (arith, fewer, weigh, ap (λ rows. length (tokens_of rows)) c.in_ok-numbered.ensures.tokens, ap length c.in-Ok.ensures.cases.0)))
