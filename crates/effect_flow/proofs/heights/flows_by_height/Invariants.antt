use Rattle.std.proofs.Common.{length, ◌-◌}
use Rattle.graph_law.specs.Graph.{lists_of}
use Rattle.effect_flow.specs.Seen.{see_flows}
use Rattle.effect_flow.proofs.Stretches.{AreRightBelow}
use Rattle.effect_flow.proofs.heights.flows_by_height.Given as goal

-- the groups so far have their flows
abbrev pub invariant-loop-from : goal.invariant-loop-from
invariant-loop-from g l = AreRightBelow (g.O.Opener.lists l.grouped.opener.now) l.grouped.own.now (lists_of l.grouped.groups.now) l.order.items l.from (see_flows l.flows.items)

abbrev pub decreases-loop-from : goal.decreases-loop-from
decreases-loop-from g l = length l.order.items - l.from
