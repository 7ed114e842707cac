use Rattle.std.proofs.Common.{None}
use Rattle.prolog_ops.proofs.Lookups.{op_at-updates}
use Rattle.prolog_ops.proofs.place_ops.PlaceOps.remove.Goals as goal

pub returns : goal.returns
returns c = op_at-updates c.self.inside.ops c.swap_remove.new.self c.args.name.now None c.swap_remove.ensures.updates c.args.self.now c.self.view_is
