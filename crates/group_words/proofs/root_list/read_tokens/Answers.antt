use Rattle.std.proofs.Common.{◌∙◌, [], Some, true≢false, ap, sym, refl, subst, option_map, append-nil}
use Rattle.prolog_tokens.specs.declared.token.Token.{Token}
use Rattle.prolog_tokens.specs.Cut.{IsCut}
use Rattle.prolog_terms.specs.Words.{table_of}
use Rattle.prolog_terms.specs.Clause.{IsClauseOf, IsOneClause}
use Rattle.prolog_terms.proofs.ClausesOf.{clause_once}
use Rattle.prolog_terms.proofs.ReaderTables.{table_is}
use Rattle.clause_text.specs.Clauses.{opening_ops}
use Rattle.clause_text.proofs.OneReading.{opening_ops_are}
use Rattle.group_words.proofs.root_list.read_tokens.Goals as goal

pub returns-then-not-is_one_clause : goal.returns-then-not-is_one_clause
returns-then-not-is_one_clause c tree clause =
    let once = clause_once (table_of opening_ops) (table_is opening_ops opening_ops_are) c.args.text.now c.args.tokens.now tree clause in
    let one : IsOneClause c.args.tokens.now = record {
      some = once.some;
      one_end = λ k token below stands is. once.no_other k below (ap (option_map (λ (t : Token). t.kind)) stands ∙ ap (λ x. Some x) is);
    } in
    true≢false (sym (c.if-not-is_one_clause.ensures.1 one))

pub read_clause-requires : goal.read_clause-requires
read_clause-requires c = record {
  small = c.requires.small;
  part = record {
    before = [];
    after = [];
    cut = subst (λ ts. IsCut c.args.text.now ts) (sym (append-nil c.args.tokens.now)) c.requires.cut;
  };
  clause = c.if-not-is_one_clause.ensures.0 refl;
  numbered = rw c.as_slice.ensures.value c.in_ok-numbered.ensures;
}

pub returns : goal.returns
returns c tree clause =
    (c.in-Err.ensures.fault c.in_default.not-NoMemory).none tree
    (subst (λ ops. IsClauseOf (table_of ops) c.args.text.now c.args.tokens.now tree) (sym c.in_ok-table.ensures) clause)
