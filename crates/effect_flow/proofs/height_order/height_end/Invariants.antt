use Rattle.std.proofs.Common.{length, ◌-◌, ◌≡◌, ℕ, ◌<◌, ◌≤◌}
use Rattle.effect_flow.specs.Heights.{height_at}
use Rattle.effect_flow.proofs.height_order.height_end.Given as goal

-- the groups so far are as high
abbrev pub invariant-loop-at : goal.invariant-loop-at
invariant-loop-at l = record {
  some : l.from < l.at;
  most : l.at ≤ length l.order;
  level : (k : ℕ) → l.from ≤ k → k < l.at → height_at l.levels l.order k ≡ height_at l.levels l.order l.from;
}

abbrev pub decreases-loop-at : goal.decreases-loop-at
decreases-loop-at l = length l.order - l.at
