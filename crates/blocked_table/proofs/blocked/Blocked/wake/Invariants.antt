use Rattle.std.proofs.Common.{◌≡◌, ℕ, take}
use Rattle.std.specs.Prelude.{Contains}
use Rattle.blocked_table.specs.Waking.{AreSomeWoken, IsUnwanted}
use Rattle.blocked_table.proofs.blocked.Blocked.wake.Given as goal

abbrev pub invariant-nodes : goal.invariant-nodes
invariant-nodes l = record {
  only : l.self ≡ record l.fn.self { kept = l.self.kept };
  woken : AreSomeWoken (Contains l.group) l.fn.self.kept l.self.kept;
  none : (w : ℕ) → Contains (take l.node-index l.group) w → IsUnwanted l.self.kept w;
}
