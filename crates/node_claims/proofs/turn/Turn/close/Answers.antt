use Rattle.std.proofs.Common.{◌≡◌, ◌<◌, List, ℕ, length, subst, sym, ap, ◌∙◌, arith}
use Rattle.node_claims.specs.Claims.{ClaimsValue}
use Rattle.node_claims.specs.ClaimsFields.{claims_of}
use Rattle.node_claims.specs.TurnFields.{taken_of, turn_of}
use Rattle.node_claims.specs.Steps.{MayClose}
use Rattle.node_claims.proofs.Calls.{closes_as, table_same}
use Rattle.node_claims.proofs.turn.Turn.close.Goals as goal

pub store-requires : goal.store-requires
store-requires c =
    let may : MayClose (turn_of c.self.inside).view (turn_of c.self.inside).taken c.args.node = rw (← c.self.view_is) at c.requires.may in
    let node : c.args.node < length (turn_of c.self.inside).view.lists = rw (← c.self.view_is) at c.requires.node in
    let lists : (claims_of c.claims.inside).lists ≡ c.self.inside.seat.me.0.lists = ap (λ (v : ClaimsValue). v.lists) c.claims.view_is ∙ c.self.invariant.1.1.1.1 in
    let lt : c.args.node < length (claims_of c.claims.inside).lists = subst (λ (l : List (List ℕ)). c.args.node < length l) (sym lists) node in (
      table_same (claims_of c.claims.inside) c.self.inside.claims.now c.self.inside.seat.table_id c.claims.view_is c.self.invariant.0,
      omega (arith, lt, c.claims.invariant.0),
      closes_as _ _ c.args.node c.self.inside.seat.me (taken_of c.self.inside.seat.me.0.turn) c.self.invariant.1.1.0 c.self.invariant.1.1.1.0
          (record { stands = may.stands; open_yet = may.open_yet }),
    )
