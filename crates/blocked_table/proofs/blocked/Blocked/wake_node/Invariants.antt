use Rattle.std.proofs.Common.{◌≡◌, length}
use Rattle.blocked_table.specs.Waking.{AreSomeWoken}
use Rattle.blocked_table.proofs.Waits.{wants_below}
use Rattle.blocked_table.proofs.blocked.Blocked.wake_node.Given as goal

abbrev pub invariant-places : goal.invariant-places
invariant-places l = record {
  only : l.self ≡ record l.fn.self { kept = l.self.kept };
  woken : AreSomeWoken (λ w. w ≡ l.node) l.fn.self.kept l.self.kept;
}

abbrev pub decreases-places : goal.decreases-places
decreases-places l = wants_below l.self.kept (length l.self.kept)
