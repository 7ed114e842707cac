use Rattle.std.proofs.Common.{[], sym, refl, subst, append-nil}
use Rattle.prolog_tokens.specs.Cut.{IsCut}
use Rattle.prolog_terms.specs.Clause.{ArePart}
use Rattle.text_rows.proofs.terms.read_term.Goals as goal

-- the tokens of a text are a part of themselves
pub read_clause-requires : goal.read_clause-requires
read_clause-requires c =
    let text = c.args.text.now in
    let found = c.in_ok-found.found.items in
    let whole : ArePart text found = record { before = []; after = []; cut = subst (IsCut text) (sym (append-nil found)) c.in_ok-found.ensures.ok } in
    record {
      small = c.requires;
      part = rw c.as_slice-cut.ensures.value whole;
      clause = c.if-not-is_one_clause.ensures refl;
      numbered = rw c.as_slice.ensures.value c.in-Ok.ensures;
    }
