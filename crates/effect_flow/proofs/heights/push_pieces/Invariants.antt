use Rattle.std.proofs.Common.{take, ◌*◌}
use Rattle.graph_law.specs.Graph.{lists_of}
use Rattle.effect_flow.specs.declared.heights.TheConstants.{SIZE}
use Rattle.effect_flow.specs.Flows.{AreFound}
use Rattle.effect_flow.specs.Seen.{see_flows}
use Rattle.effect_flow.proofs.heights.push_pieces.Given as goal

-- the flows of the pieces so far
abbrev pub invariant-loop-one : goal.invariant-loop-one
invariant-loop-one g l = AreFound (g.O.Opener.lists l.grouped.opener.now) l.grouped.own.now (lists_of l.grouped.groups.now) (take (l.one-index * SIZE) l.stretch) (see_flows l.found.items)
