use Rattle.std.proofs.Common.{take}
use Rattle.graph_law.specs.Graph.{lists_of}
use Rattle.effect_flow.specs.Flows.{AreFound}
use Rattle.effect_flow.specs.Seen.{see_flows}
use Rattle.effect_flow.proofs.carriers.push_flows.Given as goal

-- the flows so far
abbrev pub invariant-loop-place : goal.invariant-loop-place
invariant-loop-place g l = AreFound (g.O.Opener.lists l.grouped.opener.now) l.grouped.own.now (lists_of l.grouped.groups.now) (take l.place-index l.stretch) (see_flows l.found.items)
