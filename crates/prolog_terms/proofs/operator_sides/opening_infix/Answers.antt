use Rattle.std.proofs.Common.{sym, ap, ◌∙◌, arith}
use Rattle.prolog_names.specs.Names.{name_at}
use Rattle.prolog_ops.specs.Table.{Infix, opening}
use Rattle.prolog_terms.specs.Words.{named_operator}
use Rattle.prolog_terms.proofs.OpeningSides.{infix_at, no_operator}
use Rattle.prolog_terms.proofs.operator_sides.opening_infix.Goals as goal

pub returns-then-name-ge-OPENING_COUNT : goal.returns-then-name-ge-OPENING_COUNT
returns-then-name-ge-OPENING_COUNT c =
    sym (no_operator Infix (name_at c.args.names.now c.args.name)
    (λ some k below. c.opening_law.ensures.others c.args.name k c.if-name-ge-OPENING_COUNT.true some below))

pub returns : goal.returns
returns c =
    let below = c.if-name-ge-OPENING_COUNT.false in
    infix_at c.args.name (omega (arith, below))
    ∙ ap (named_operator (opening Infix)) (sym (c.opening_law.ensures.named c.args.name (omega (arith, below))))
