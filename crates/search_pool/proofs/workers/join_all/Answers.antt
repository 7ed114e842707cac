use Rattle.std.proofs.Common.{Option, subst}
use Rattle.std.proofs.lemmas.List.Elements.{All-pop}
use Rattle.std.specs.Prelude.{IfSome}
use Rattle.search_pool.specs.declared.ended.Ended.{Ended}
use Rattle.search_pool.specs.Worker.{EndsWell}
use Rattle.search_pool.proofs.DrivingJoins.{joins_through}
use Rattle.search_pool.proofs.workers.join_all.Goals as goal

pub others-preserved : goal.others-preserved
others-preserved c =
    let well : Ended → Type 0 = EndsWell c.args.claims.now in
    let popped =
    All-pop well c.others.others.items c.pop-in-others.new.self.items c.pop-in-others.result c.pop-in-others.ensures.items c.others.invariant.1 in
    let one = subst (λ (r : Option Ended). IfSome r well) c.in-Some-pop.is popped.1 in
    let right = subst well c.in-Finished-other.is one in (
      joins_through c.args.claims.now c.others.pass c.in-Finished-other.right c.join-pass.result c.others.invariant.0 right c.join-pass.ensures,
      popped.0,
    )
