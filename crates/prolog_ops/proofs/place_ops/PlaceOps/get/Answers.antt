use Rattle.std.proofs.Common.{ap, sym, ◌∙◌}
use Rattle.prolog_ops.specs.ByName.{op_at}
use Rattle.prolog_ops.proofs.Lookups.{op_at-entries}
use Rattle.prolog_ops.proofs.place_ops.PlaceOps.get.Goals as goal

pub returns : goal.returns
returns c =
    c.copied.ensures ∙ c.get.ensures.value ∙ sym (op_at-entries c.self.inside.ops.entries c.args.name.now)
    ∙ ap (λ entries. op_at entries c.args.name.now) c.self.view_is
