-- Flows under a relation that has the same calls, and carriers as nodes.
use Rattle.std.proofs.Common.{◌≡◌, ℕ, ◌<◌, List, length, Option, Some}
use Rattle.graph_law.specs.Classes.{HasMember, group_at}
use Rattle.graph_law.specs.Graph.{Calls, IsClosed}
use Rattle.graph_law.specs.Reach.{Agree}
use Rattle.graph_law.proofs.ReachLaws.{along_walk, is_reached_along}
use Rattle.effect_flow.specs.Carriers.{AreFlows, IsCarried, first_at, flow_at}
use Rattle.effect_flow.proofs.LeastOnes.{first_same}
use Rattle.effect_flow.specs.declared.kinds.TheConstants.{KINDS}

pub AreFlows-agree : {c d : ℕ → ℕ → Type 0} {own : List ℕ} {groups : List (List ℕ)} {flows : List (List (Option ℕ))} → Agree c d → AreFlows c own groups flows → AreFlows d own groups flows
AreFlows-agree {c} {d} {own} {groups} {flows} agree are = record {
  each = are.each;
  carriers = λ place lt kind low.
      let group : List ℕ = group_at groups place in
      first_same (IsCarried c own kind group) (IsCarried d own kind group) (first_at (flow_at flows place) kind)
      (λ q is. record { reached = is_reached_along c d agree.to group q is.reached; has = is.has })
      (λ q is. record { reached = is_reached_along d c agree.from group q is.reached; has = is.has }) (are.carriers place lt kind low);
}

-- carriers of groups of nodes are nodes
pub carriers_below : (lists : List (List ℕ)) {own : List ℕ} {groups : List (List ℕ)} {flows : List (List (Option ℕ))} → IsClosed lists
    → ((p : ℕ) → HasMember groups p → p < length lists) → AreFlows (Calls lists) own groups flows
    → (place kind q : ℕ) → place < length groups → kind < KINDS → first_at (flow_at flows place) kind ≡ Some q → q < length lists
carriers_below lists {own} {groups} {flows} closed nodes are place kind q lt low at =
    let carried : IsCarried (Calls lists) own kind (group_at groups place) q = (are.carriers place lt kind low).is q at in
    let reached = carried.reached in
    along_walk (Calls lists) (λ n. n < length lists) (λ n m below call. closed n m call) reached.start reached.reaches.path q reached.reaches.walk
    (nodes reached.start (record { place = place; within = lt; member = reached.is_start }))
