use Rattle.std.proofs.Common.{◌≡◌, List, ℕ, ◌∷◌, Some, ap, ◌∙◌, sym, arith}
use Rattle.atomic_table.specs.Table.{Me, rest}
use Rattle.node_claims.specs.declared.view.View.{View}
use Rattle.node_claims.specs.ClaimsFields.{claims_of}
use Rattle.node_claims.specs.PassFields.{pass_of}
use Rattle.node_claims.specs.Rule.{Slot}
use Rattle.node_claims.specs.Steps.{Took}
use Rattle.node_claims.proofs.Turning.{takes_it}
use Rattle.node_claims.proofs.claims.Claims.take.Goals as goal

pub compare_exchange-requires : goal.compare_exchange-requires
compare_exchange-requires g c =
    let table : (pass_of c.pass.inside).table ≡ (claims_of c.self.inside).table = rw (← c.self.view_is, ← c.pass.view_is) at c.requires in (
      c.loop.invariant.2 ∙ table,
      omega (arith, c.self.invariant.0),
      takes_it _ _ c.loop.seat.me (ap (λ (m : Me Slot View). m.1) c.loop.invariant.3 ∙ c.pass.invariant.0)
          (ap (λ (m : Me Slot View). m.0.live) c.loop.invariant.3 ∙ c.pass.invariant.1.0),
    )

pub exchange-requires : goal.exchange-requires
exchange-requires g c =
    let table : (pass_of c.pass.inside).table ≡ (claims_of c.self.inside).table = rw (← c.self.view_is, ← c.pass.view_is) at c.requires in
    let took : Took c.loop.seat.me c.compare_exchange.new.seat.me = c.compare_exchange.ensures.2.0 c.if-compare_exchange-eq0.true in (
      c.compare_exchange.ensures.0 ∙ c.loop.invariant.2 ∙ table,
      (Some took.book, took.slots ∙ ap (λ (l : List (ℕ × Slot)). (0, Some took.book) ∷ l) (sym (ap rest took.slots))),
    )
