use Rattle.std.proofs.Common.{Some, ap, ◌∙◌}
use Rattle.prolog_ops.specs.ByName.{op_at, with_op}
use Rattle.prolog_ops.proofs.Lookups.{op_at-updates}
use Rattle.prolog_ops.proofs.place_ops.PlaceOps.put.Goals as goal

pub returns-clause-put : goal.returns-clause-put
returns-clause-put c =
    op_at-updates c.self.inside.ops c.insert.new.self _ (Some c.args.op) c.in_ok-insert.ensures.updates c.args.self.now c.self.view_is
    ∙ ap (λ name. with_op (op_at c.args.self.now) name (Some c.args.op)) c.in_ok-key.ensures.ok
