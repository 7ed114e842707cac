use Rattle.std.proofs.Common.{◌≡◌, map}
use Rattle.std.specs.List.{range_with_len}
use Rattle.effect_flow.proofs.ByHeight.{stand_at}
use Rattle.effect_flow.proofs.height_order.height_order.Given as goal

-- the groups so far
abbrev pub invariant-loop-place : goal.invariant-loop-place
invariant-loop-place g l = l.stands.items ≡ map (stand_at l.levels) (range_with_len 0 l.place)
