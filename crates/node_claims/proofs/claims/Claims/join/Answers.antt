use Rattle.std.proofs.Common.{arith}
use Rattle.node_claims.specs.Claims.{IsPassOf}
use Rattle.node_claims.specs.ClaimsFields.{claims_of}
use Rattle.node_claims.specs.PassFields.{pass_of}
use Rattle.node_claims.proofs.Passes.{joins_it}
use Rattle.node_claims.proofs.claims.Claims.join.Goals as goal

pub join_seat-requires : goal.join_seat-requires
join_seat-requires c =
    let left : IsPassOf (claims_of c.self.inside) (pass_of c.left.inside) = rw (← c.self.view_is, ← c.left.view_is) at c.requires.left in
    let right : IsPassOf (claims_of c.self.inside) (pass_of c.right.inside) = rw (← c.self.view_is, ← c.right.view_is) at c.requires.right in (
      left.0,
      right.0,
      c.right.invariant.0,
      omega (arith, c.self.invariant.0),
      joins_it c.left.inside.seat.id c.left.inside.seat.me.0 c.right.inside.seat.id c.right.inside.seat.me.0 c.left.invariant.1.0 c.right.invariant.1.0
          c.right.invariant.1.1,
    )
