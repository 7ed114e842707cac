use Rattle.std.proofs.Common.{Some, option_map, sym, ap, ◌∙◌}
use Rattle.prolog_names.specs.Names.{name_at}
use Rattle.prolog_ops.specs.Table.{Postfix, ops_of}
use Rattle.prolog_terms.specs.Words.{sides, named_operator}
use Rattle.prolog_terms.proofs.OpeningSides.{no_postfix}
use Rattle.prolog_terms.proofs.operator_sides.named_postfix.Goals as goal

pub returns-then-is_opening : goal.returns-then-is_opening
returns-then-is_opening c =
    let text = name_at c.args.names.now c.args.name in
    sym (no_postfix text) ∙ ap (λ ops. named_operator (ops Postfix) text) (sym (c.is_opening.ensures.opening c.if-is_opening.true))

pub returns-in_err-text : goal.returns-in_err-text
returns-in_err-text c = c.from_residual.ensures ∙ sym (c.in_err-text.ensures (ops_of c.args.table.now Postfix))

pub returns-in_err-op : goal.returns-in_err-op
returns-in_err-op c =
    c.from_residual-in_err-op.ensures
    ∙ ap (option_map sides) c.in_err-op.ensures.is
    ∙ sym (c.in_ok-text.ensures (ops_of c.args.table.now Postfix))

pub returns : goal.returns
returns c =
    ap (λ s. Some s) c.sides_of.ensures
    ∙ ap (option_map sides) c.in_ok-op.ensures.is
    ∙ sym (c.in_ok-text.ensures (ops_of c.args.table.now Postfix))
