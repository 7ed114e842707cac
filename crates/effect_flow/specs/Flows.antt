-- What the flow of a group is found by: the flows of the groups that it calls, and the place of each node's group.
use Rattle.std.specs.Prelude.{◌≡◌, ℕ, ◌<◌, ◌*◌, ◌⊎◌, List, length, take, drop, Option, Some, Result, IfOk, Vec, slice_index, All, Contains}
use Rattle.std.specs.List.{AllZip, range_with_len}
use Rattle.std.specs.declared.alloc.AllocError.{AllocError}
use Rattle.graph_law.specs.CallOrder.{AreGroupPlaces}
use Rattle.graph_law.specs.Classes.{GroupCalls, HasMember, group_at}
use Rattle.graph_law.specs.Graph.{Calls, IsClosed}
use Rattle.graph_law.specs.LegalOrder.{IsLegalOrder}
use Rattle.effect_flow.specs.declared.heights.TheConstants.{SIZE}
use Rattle.effect_flow.specs.declared.flows.Flow.{Flow}
use Rattle.effect_flow.specs.Carriers.{IsFlow, first_at, flow_at}
use Rattle.effect_flow.specs.Seen.{see_flows}

-- the groups are in a legal order, their members are nodes, and these are the places of the groups and the kinds of the nodes
pub record AreReady (lists : List (List ℕ)) (own : List ℕ) (groups : List (List ℕ)) (places : List ℕ) : Type 0 where
  pub legal : IsLegalOrder (Calls lists) groups
  pub nodes : (p : ℕ) → HasMember groups p → p < length lists
  pub closed : IsClosed lists
  pub few : length lists < 4294967296
  pub owned : length own ≡ length lists
  pub placed : AreGroupPlaces (length lists) groups places

-- the flows of all groups that the one at a place calls are known
pub record IsNext (lists : List (List ℕ)) (own : List ℕ) (groups : List (List ℕ)) (flows : List (List (Option ℕ))) (place : ℕ) : Type 0 where
  pub within : place < length groups
  pub each : length flows ≡ length groups
  pub known : (j : ℕ) → GroupCalls (Calls lists) groups place j → IsFlow (Calls lists) own (group_at groups j) (flow_at flows j)

-- one of the callees is in another group, whose carrier this is
pub record IsOfCallee (places : List ℕ) (place : ℕ) (flows : List (List (Option ℕ))) (kind : ℕ) (callees : List ℕ) (q : ℕ) : Type 0 where
  pub callee : ℕ
  pub is_callee : Contains callees callee
  pub other : slice_index places callee ≡ place → ⊥
  pub carrier : first_at (flow_at flows (slice_index places callee)) kind ≡ Some q

-- the flow of a group is found for each place, one after another
pub record AreFound (lists : List (List ℕ)) (own : List ℕ) (groups : List (List ℕ)) (places : List ℕ) (found : List (List (Option ℕ))) : Type 0 where
  pub each : length found ≡ length places
  pub flows : (k : ℕ) → k < length places → IsFlow (Calls lists) own (group_at groups (slice_index places k)) (flow_at found k)

-- those of the places that are in the piece of that number
abbrev pub piece_of : List ℕ → ℕ → List ℕ
piece_of places number = take SIZE (drop (number * SIZE) places)

-- what the flows of a piece are found by
pub record IsAsked (lists : List (List ℕ)) (own : List ℕ) (groups : List (List ℕ)) (places : List ℕ) (flows : List (List (Option ℕ)))
    (stretch : List ℕ) (number : ℕ) : Type 0 where
  pub ready : AreReady lists own groups places
  pub next : All (IsNext lists own groups flows) stretch
  pub within : number * SIZE < length stretch

-- the flows of each piece, in the order of their numbers: so many that no place is left out
pub record ArePieces {A : Type 0} (lists : List (List ℕ)) (own : List ℕ) (groups : List (List ℕ)) (places : List ℕ)
    (each : List (Result (Vec Flow A) AllocError)) : Type 0 where
  pub as_many : (number : ℕ) → number * SIZE < length places → number < length each
  pub pieces : AllZip (λ number one. IfOk one (λ found. AreFound lists own groups (piece_of places number) (see_flows found.items)))
      (range_with_len 0 (length each)) each

-- the flows that were found stand at the places, and the others are as before
pub record IsPut (places : List ℕ) (found old new : List (List (Option ℕ))) : Type 0 where
  pub each : length new ≡ length old
  pub put : (place : ℕ) → Contains places place
      → (k : ℕ) × ((k < length places) × ((slice_index places k ≡ place) × (flow_at new place ≡ flow_at found k)))
  pub kept : (place : ℕ) → Contains places place ⊎ (flow_at new place ≡ flow_at old place)

-- the groups at the places have their flows, and so has each other group that had its flow before
pub record AreAdded (lists : List (List ℕ)) (own : List ℕ) (groups : List (List ℕ)) (places : List ℕ) (old new : List (List (Option ℕ))) : Type 0 where
  pub each : length new ≡ length old
  pub right : (place : ℕ) → Contains places place → IsFlow (Calls lists) own (group_at groups place) (flow_at new place)
  pub kept : (place : ℕ) → IsFlow (Calls lists) own (group_at groups place) (flow_at old place)
      → IsFlow (Calls lists) own (group_at groups place) (flow_at new place)
