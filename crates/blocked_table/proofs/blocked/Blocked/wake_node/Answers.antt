use Rattle.std.proofs.Common.{◌≡◌, ◌<◌, length, sym, subst}
use Rattle.blocked_table.specs.Blocked.{BlockedValue}
use Rattle.blocked_table.specs.Waking.{AreSomeWoken}
use Rattle.blocked_table.proofs.Chain.{place_within}
use Rattle.blocked_table.proofs.FieldSteps.{still_only}
use Rattle.blocked_table.proofs.Waits.{wants_below, wants_less}
use Rattle.blocked_table.proofs.WakeSteps.{one_some, some_more}
use Rattle.blocked_table.proofs.blocked.Blocked.wake_node.Goals as goal

pub places-smaller : goal.places-smaller
places-smaller c =
    let one = c.wake_one.ensures.woken c.places-test.true in
    let less : wants_below c.wake_one.new.self.kept (length c.wake_one.new.self.kept) < wants_below c.places.self.kept (length c.places.self.kept) =
    rw one.each (wants_less one (length c.places.self.kept) (place_within c.places.self.kept one.place one.search one.at)) in
    less

pub places-preserved : goal.places-preserved
places-preserved c = record {
  only = still_only c.args.self.now c.places.invariant.only c.wake_one.ensures.only;
  woken = some_more c.places.invariant.woken (one_some (c.wake_one.ensures.woken c.places-test.true)) (λ w is. is);
}

pub returns-clause-woken : goal.returns-clause-woken
returns-clause-woken c =
    subst (λ (value : BlockedValue). AreSomeWoken (λ w. w ≡ c.args.node) c.args.self.now.kept value.kept)
    (sym (c.wake_one.ensures.unchanged c.places-test.false)) c.places.invariant.woken
