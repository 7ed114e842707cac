use Rattle.std.proofs.Common.{◌≡◌, ◌⊎◌, ℕ, ◌<◌, take, Some}
use Rattle.effect_flow.specs.Carriers.{IsFirst, first_at}
use Rattle.effect_flow.specs.Flows.{IsOfCallee}
use Rattle.effect_flow.specs.Seen.{see_flow, see_flows}
use Rattle.effect_flow.proofs.carriers.with_callees.Given as goal
use Rattle.effect_flow.specs.declared.kinds.TheConstants.{KINDS}

-- what the flow and the callees so far give
abbrev pub invariant-loop-callee : goal.invariant-loop-callee
invariant-loop-callee l = (kind : ℕ) → kind < KINDS
    → IsFirst (λ q. (first_at (see_flow l.fn.start) kind ≡ Some q) ⊎ IsOfCallee l.places l.place (see_flows l.flows) kind (take l.callee-index l.callees) q)
    (first_at (see_flow l.flow) kind)
