use Rattle.std.proofs.Common.{take}
use Rattle.effect_flow.specs.Flows.{IsPut}
use Rattle.effect_flow.specs.Seen.{see_flows}
use Rattle.effect_flow.proofs.heights.put.Given as goal

-- those so far are put
abbrev pub invariant-loop-k : goal.invariant-loop-k
invariant-loop-k l = IsPut (take l.k l.stretch) (see_flows l.found) (see_flows l.initial.flows) (see_flows l.flows)
