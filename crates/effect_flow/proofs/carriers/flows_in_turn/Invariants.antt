use Rattle.graph_law.specs.Graph.{lists_of}
use Rattle.effect_flow.specs.Seen.{see_flows}
use Rattle.effect_flow.proofs.InTurn.{AreRightBefore}
use Rattle.effect_flow.proofs.carriers.flows_in_turn.Given as goal

-- the groups so far have their flows
abbrev pub invariant-loop-place : goal.invariant-loop-place
invariant-loop-place g l =
    AreRightBefore (g.O.Opener.lists l.grouped.opener.now) l.grouped.own.now (lists_of l.grouped.groups.now) l.place (see_flows l.flows.items)
