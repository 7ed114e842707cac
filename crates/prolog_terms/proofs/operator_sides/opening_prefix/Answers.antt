use Rattle.std.proofs.Common.{sym, ap, ◌∙◌, arith}
use Rattle.prolog_names.specs.Names.{name_at}
use Rattle.prolog_ops.specs.Table.{Prefix, opening}
use Rattle.prolog_terms.specs.Words.{named_operator}
use Rattle.prolog_terms.proofs.OpeningSides.{prefix_at, no_operator}
use Rattle.prolog_terms.proofs.operator_sides.opening_prefix.Goals as goal

pub returns-then-name-ge-OPENING_COUNT : goal.returns-then-name-ge-OPENING_COUNT
returns-then-name-ge-OPENING_COUNT c =
    sym (no_operator Prefix (name_at c.args.names.now c.args.name)
    (λ some k below. c.opening_law.ensures.others c.args.name k c.if-name-ge-OPENING_COUNT.true some below))

pub returns : goal.returns
returns c =
    let below = c.if-name-ge-OPENING_COUNT.false in
    prefix_at c.args.name (omega (arith, below))
    ∙ ap (named_operator (opening Prefix)) (sym (c.opening_law.ensures.named c.args.name (omega (arith, below))))
