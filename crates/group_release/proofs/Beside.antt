-- The nodes of a good search whose last edge leads to a node that isn't released: none of them is released, and all are nodes of the graph.
use Rattle.std.proofs.Common.{◌≡◌, ℕ, ◌<◌, ◌+◌, ◌-◌, Bool, List, length, subst, arith}
use Rattle.std.proofs.lemmas.List.Elements.{All-contains}
use Rattle.std.specs.Prelude.{All}
use Rattle.graph_law.specs.Classes.{HasMember}
use Rattle.graph_law.specs.Graph.{Calls, IsClosed}
use Rattle.graph_law.specs.LegalOrder.{IsLegalOrder}
use Rattle.graph_law.specs.Reach.{IsReached, Reaches}
use Rattle.graph_law.proofs.ReachLaws.{along_walk}
use Rattle.search_stack.specs.Stack.{Stack, height, top, node, begun, position}
use Rattle.search_stack.specs.GoodSearch.{IsGood}
use Rattle.search_stack.specs.Search.{IsLastBegun, IsOn}
use Rattle.search_stack.proofs.Frames.{begun_edge, place_reaches, position_at, position_end, position_within}
use Rattle.search_stack.proofs.Released.{legal_call}

-- what a root reaches is a node
pub reached_within : (lists : List (List ℕ)) (roots : List ℕ) → IsClosed lists → All (λ root. root < length lists) roots
    → (v : ℕ) → IsReached (Calls lists) roots v → v < length lists
reached_within lists roots closed rooted v reached =
    along_walk (Calls lists) (λ u. u < length lists) (λ p q lt call. closed p q call) reached.start reached.reaches.path v reached.reaches.walk
    (All-contains (λ root. root < length lists) roots reached.start rooted reached.is_start)

module _ {lists : List (List ℕ)} {roots done : List ℕ} {opened : Bool} {s : Stack} {on : ℕ} (good : IsGood lists roots done opened s)
    (last : IsLastBegun s on) where
  -- the top's entry calls the node
  pub top_calls : Calls lists (node s (position s (top s))) on
  top_calls =
      let lt : top s < height s = omega (arith, last.some) in
      subst (Calls lists (node s (position s (top s)))) last.is
      (begun_edge good (position s (top s)) (begun s (position s (top s)) - 1) (position_within good.shaped (top s) lt) (omega (arith, last.begins)))

  pub last_below : IsClosed lists → on < length lists
  last_below closed = closed (node s (position s (top s))) on top_calls

  -- each node on the stack reaches the top's
  pub top_reached : (v : ℕ) → IsOn s v → Reaches (Calls lists) v (node s (position s (top s)))
  top_reached v at =
      let lt : top s < height s = omega (arith, last.some) in
      let end : position s (top s + 1) ≡ position s (height s) = position_at s (top s + 1) (height s) (omega (arith, last.some)) in
      subst (λ u. Reaches (Calls lists) u (node s (position s (top s)))) at.is
      (place_reaches good at.place (top s) lt (omega (arith, at.within, end, position_end s)))

  pub none_released : {groups : List (List ℕ)} → IsLegalOrder (Calls lists) groups → (HasMember groups on → ⊥)
      → (v : ℕ) → IsOn s v → HasMember groups v → ⊥
  none_released {groups} legal unreleased v at has =
      let way : Reaches (Calls lists) v (node s (position s (top s))) = top_reached v at in
      let t : ℕ = node s (position s (top s)) in
      let there : HasMember groups t =
      along_walk (Calls lists) (HasMember groups) (λ p q held call. legal_call legal p q held call) v way.path t way.walk has in
      unreleased (legal_call legal t on there top_calls)

pub on_within : (lists : List (List ℕ)) (roots : List ℕ) {done : List ℕ} {opened : Bool} {s : Stack} → IsClosed lists
    → All (λ root. root < length lists) roots → IsGood lists roots done opened s → (v : ℕ) → IsOn s v → v < length lists
on_within lists roots {done} {opened} {s} closed rooted good v at =
    reached_within lists roots closed rooted v (subst (IsReached (Calls lists) roots) at.is (good.reached at.place at.within))
