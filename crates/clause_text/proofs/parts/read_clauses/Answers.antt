use Rattle.std.proofs.Common.{length, ap, sym, refl, ◌∙◌, subst, arith}
use Rattle.std.proofs.lemmas.List.{nil_from_length}
use Rattle.prolog_names.specs.Numbers.{AreNumbered}
use Rattle.prolog_ops.specs.Table.{ops_of}
use Rattle.prolog_terms.specs.Clause.{ArePart}
use Rattle.clause_text.specs.Clauses.{HasClauseFault, clause_trees, opening_ops}
use Rattle.clause_text.specs.Pieces.{AreAdded, IsFaultAhead}
use Rattle.clause_text.proofs.Outcomes.{on_err}
use Rattle.clause_text.proofs.OneReading.{opening_ops-is}
use Rattle.clause_text.proofs.RowClauses.{row_tokens, all_left, none_left, next_part, next_numbered, next_read, next_refused}
use Rattle.clause_text.proofs.parts.read_clauses.Goals as goal

pub returns-in_err-clauses-clause-fault : goal.returns-in_err-clauses-clause-fault
returns-in_err-clauses-clause-fault g c =
    on_err c.from_residual-in_err-clauses.result _ _ c.from_residual-in_err-clauses.ensures.1 (λ fault same some. absurd (some same))

pub loop-row-init : goal.loop-row-init
loop-row-init g c = record {
  names = refl;
  left = all_left c.args.numbered.names c.args.text.now (row_tokens c.args.numbered.rows.items) c.args.numbered.rows.items c.into_iter-row-iterator.result.rest.items
      (ops_of c.in_ok-table.table) (clause_trees c.args.numbered.names c.in_ok-clauses.clauses.items) c.into_iter-row-iterator.ensures.into_iter_gives.0 refl
      (c.in_ok-table.ensures ∙ opening_ops-is) (ap (clause_trees c.args.numbered.names) c.in_ok-clauses.ensures.items) c.requires.cut c.requires.ends c.requires.numbered;
}

pub read_row-requires-clause-tokens : goal.read_row-requires-clause-tokens
read_row-requires-clause-tokens g c = λ lifetimes outlives. record {
  small = c.requires.small;
  part = subst (ArePart c.args.text.now) (sym c.deref-in-loop-row.ensures.value)
      (next_part c.loop-row.names c.args.text.now (row_tokens c.args.numbered.rows.items) c.loop-row.row-iterator.rest.items (ops_of c.loop-row.table)
      (clause_trees c.loop-row.names c.loop-row.clauses.items) c.in-Some.row c.next.new.self.rest.items c.in-Some.ensures.steps.0 c.loop-row.invariant.left);
  numbered = subst (λ ts. AreNumbered c.args.text.now c.loop-row.names ts c.in-Some.row.numbers.items) (sym c.deref-in-loop-row.ensures.value)
      (next_numbered c.loop-row.names c.args.text.now (row_tokens c.args.numbered.rows.items) c.loop-row.row-iterator.rest.items (ops_of c.loop-row.table)
      (clause_trees c.loop-row.names c.loop-row.clauses.items) c.in-Some.row c.next.new.self.rest.items c.in-Some.ensures.steps.0 c.loop-row.invariant.left);
}

pub returns-in_err-ahead-clause-fault : goal.returns-in_err-ahead-clause-fault
returns-in_err-ahead-clause-fault g c =
    on_err c.from_residual-in_err-ahead.result _ _ c.from_residual-in_err-ahead.ensures.1
    (λ fault same some.
    subst (λ f. HasClauseFault opening_ops c.args.text.now (row_tokens c.args.numbered.rows.items) f) (sym same)
    (next_refused c.loop-row.names c.args.text.now (row_tokens c.args.numbered.rows.items) c.loop-row.row-iterator.rest.items (ops_of c.loop-row.table)
    (clause_trees c.loop-row.names c.loop-row.clauses.items) c.in-Some.row c.next.new.self.rest.items c.in-Some.ensures.steps.0 c.loop-row.invariant.left c.in_err-ahead.field-0.0
    (subst (λ ts. IsFaultAhead (ops_of c.loop-row.table) c.args.text.now ts 0 c.in_err-ahead.field-0.0) c.deref-in-loop-row.ensures.value
    (c.in_err-ahead.ensures.fault (λ none. some (same ∙ none))))))

pub loop-row-preserved : goal.loop-row-preserved
loop-row-preserved g c = record {
  names = c.loop-row.invariant.names;
  left = next_read c.loop-row.names c.args.text.now (row_tokens c.args.numbered.rows.items) c.loop-row.row-iterator.rest.items (ops_of c.loop-row.table)
      (clause_trees c.loop-row.names c.loop-row.clauses.items) c.in-Some.row c.next.new.self.rest.items c.in-Some.ensures.steps.0 c.loop-row.invariant.left
      (ops_of c.read_row.new.table) (clause_trees c.loop-row.names c.read_row.new.clauses.items)
      (subst (λ ts. AreAdded (ops_of c.loop-row.table) c.args.text.now ts 0 (clause_trees c.loop-row.names c.loop-row.clauses.items)
      (clause_trees c.loop-row.names c.read_row.new.clauses.items) (ops_of c.read_row.new.table) (length ts)) c.deref-in-loop-row.ensures.value c.in_ok-ahead.ensures.ok);
}

pub returns-clause-ok : goal.returns-clause-ok
returns-clause-ok g c =
    none_left c.loop-row.names c.args.text.now (row_tokens c.args.numbered.rows.items) c.loop-row.row-iterator.rest.items (ops_of c.loop-row.table)
    (clause_trees c.loop-row.names c.loop-row.clauses.items)
    (nil_from_length c.loop-row.row-iterator.rest.items (omega (arith, c.in-None.ensures.steps.0, c.loop-row.row-iterator.rest.ok.0))) c.loop-row.invariant.left
