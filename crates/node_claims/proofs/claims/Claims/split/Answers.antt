use Rattle.std.proofs.Common.{arith}
use Rattle.node_claims.specs.Claims.{IsPassOf}
use Rattle.node_claims.specs.ClaimsFields.{claims_of}
use Rattle.node_claims.specs.PassFields.{pass_of}
use Rattle.node_claims.proofs.Passes.{splits_it}
use Rattle.node_claims.proofs.claims.Claims.split.Goals as goal

pub split_seat-other-requires : goal.split_seat-other-requires
split_seat-other-requires c =
    let met : IsPassOf (claims_of c.self.inside) (pass_of c.pass.inside) = rw (← c.self.view_is, ← c.pass.view_is) at c.requires in
    (met.0, omega (arith, c.self.invariant.0), splits_it c.pass.inside.seat.id c.pass.inside.seat.me.0 c.pass.invariant.1.0)
