-- What is seen of flows.
use Rattle.std.specs.Prelude.{ℕ, List, Option, map}
use Rattle.effect_flow.specs.declared.flows.Flow.{Flow}
use Rattle.effect_flow.specs.Carriers.{see_node}

-- for each kind its carrier
abbrev pub see_flow : Flow → List (Option ℕ)
see_flow flow = map see_node flow.firsts

abbrev pub see_flows : List Flow → List (List (Option ℕ))
see_flows flows = map see_flow flows
