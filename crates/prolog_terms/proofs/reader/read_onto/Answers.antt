use Rattle.std.proofs.Common.{[], sym, subst}
use Rattle.std.proofs.lemmas.List.{append-nil}
use Rattle.prolog_ops.specs.Table.{ops_of}
use Rattle.prolog_terms.specs.Words.{table_of}
use Rattle.prolog_terms.specs.Clause.{IsOnlyClauseOf}
use Rattle.prolog_terms.proofs.reader.read_onto.Goals as goal

pub returns-in-Err-clause-more : goal.returns-in-Err-clause-more
returns-in-Err-clause-more c = ([], sym (append-nil c.args.nodes.now))

pub returns-clause-ok : goal.returns-clause-ok
returns-clause-ok c =
    subst (IsOnlyClauseOf (table_of (ops_of c.args.table.now)) c.args.text.now c.args.tokens.now) (sym (c.in_ok-append.ensures.root c.args.names.now)) c.in-Ok.ensures.ok
