use Rattle.std.proofs.Common.{Some, option_map, sym, ap, ◌∙◌}
use Rattle.prolog_ops.specs.Table.{Infix, ops_of}
use Rattle.prolog_terms.specs.Words.{sides}
use Rattle.prolog_terms.proofs.operator_sides.changed_infix.Goals as goal

pub returns-in_err-text : goal.returns-in_err-text
returns-in_err-text c = c.from_residual.ensures ∙ sym (c.in_err-text.ensures (ops_of c.args.table.now Infix))

pub returns-in_err-op : goal.returns-in_err-op
returns-in_err-op c =
    c.from_residual-in_err-op.ensures
    ∙ ap (option_map sides) c.in_err-op.ensures.is
    ∙ sym (c.in_ok-text.ensures (ops_of c.args.table.now Infix))

pub returns : goal.returns
returns c =
    ap (λ s. Some s) c.sides_of.ensures
    ∙ ap (option_map sides) c.in_ok-op.ensures.is
    ∙ sym (c.in_ok-text.ensures (ops_of c.args.table.now Infix))
