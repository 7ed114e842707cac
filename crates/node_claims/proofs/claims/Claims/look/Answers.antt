use Rattle.std.proofs.Common.{◌<◌, List, ℕ, length, subst, sym, arith}
use Rattle.node_claims.specs.Claims.{IsPassOf}
use Rattle.node_claims.specs.ClaimsFields.{claims_of}
use Rattle.node_claims.specs.PassFields.{pass_of}
use Rattle.node_claims.proofs.Calls.{looks_as}
use Rattle.node_claims.proofs.claims.Claims.look.Goals as goal

pub load-requires : goal.load-requires
load-requires c =
    let met : IsPassOf (claims_of c.self.inside) (pass_of c.pass.inside) = rw (← c.self.view_is, ← c.pass.view_is) at c.requires.pass in
    let lt : c.args.node < length (claims_of c.self.inside).lists = rw (← c.self.view_is) at c.requires.node in
    let node : c.args.node < length (pass_of c.pass.inside).view.lists = subst (λ (l : List (List ℕ)). c.args.node < length l) (sym met.1.0) lt in
    (met.0, omega (arith, lt, c.self.invariant.0), looks_as _ _ c.args.node c.pass.inside.seat.me c.pass.invariant.1.0 node)
