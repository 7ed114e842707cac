use Rattle.std.proofs.Common.{sym, ap, ◌∙◌}
use Rattle.prolog_names.specs.Names.{name_at}
use Rattle.prolog_ops.specs.Table.{Prefix}
use Rattle.prolog_terms.specs.Words.{named_operator}
use Rattle.prolog_terms.proofs.operator_sides.named_prefix.Goals as goal

pub returns-then-is_opening : goal.returns-then-is_opening
returns-then-is_opening c =
    c.opening_prefix.ensures
    ∙ ap (λ ops. named_operator (ops Prefix) (name_at c.args.names.now c.args.name)) (sym (c.is_opening.ensures.opening c.if-is_opening.true))
