use Rattle.std.proofs.Common.{◌≡◌, [], ◌∷◌, Some, subst, ◌∙◌, arith}
use Rattle.node_claims.specs.declared.view.Taken.{Taken}
use Rattle.node_claims.specs.Claims.{nodes_with}
use Rattle.node_claims.specs.ClaimsFields.{claims_of}
use Rattle.node_claims.specs.TurnFields.{taken_of, turn_of}
use Rattle.node_claims.specs.Steps.{MayGive}
use Rattle.node_claims.specs.Views.{outline_of}
use Rattle.node_claims.proofs.Calls.{gives_as, slot_put, table_same}
use Rattle.node_claims.proofs.turn.Turn.give_named.Goals as goal

pub store-requires : goal.store-requires
store-requires g c =
    let table : c.self.inside.seat.table_id ≡ (claims_of c.claims.inside).table = table_same (claims_of c.claims.inside) c.self.inside.claims.now c.self.inside.seat.table_id c.claims.view_is c.self.invariant.0 in
    let may : MayGive (turn_of c.self.inside).view (turn_of c.self.inside).taken (outline_of (turn_of c.self.inside).book) (nodes_with c.args.running.now c.args.unopened) =
    rw (← c.self.view_is) at c.requires.may in
    let me : c.exchange.new.seat.me ≡ (c.self.inside.seat.me.0, (0, Some c.self.inside.book) ∷ []) =
    slot_put c.self.inside.seat.me.0 c.self.inside.book c.self.inside.seat.me.1 c.exchange.new.seat.me c.exchange.ensures.3 c.self.invariant.1.0 in
    let taken : Taken = taken_of c.self.inside.seat.me.0.turn in
    let given : MayGive c.self.inside.seat.me.0 taken (outline_of c.self.inside.book) (nodes_with c.args.running.now c.args.unopened) =
    record { lists = may.lists; roots = may.roots; failed = may.failed; released = may.released; closed = may.closed; same = may.same; wants = may.wants } in (
      c.exchange.ensures.0 ∙ table,
      omega (arith, c.claims.invariant.0),
      gives_as _ _ c.exchange.new.seat.me c.self.inside.seat.me.0 c.self.inside.book taken _ me c.self.invariant.1.1.0 c.self.invariant.1.1.1.0
          (subst (MayGive c.self.inside.seat.me.0 taken (outline_of c.self.inside.book)) c.requires.named given),
    )
