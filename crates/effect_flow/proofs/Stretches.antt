-- Flows of heights, one after another.
use Rattle.std.proofs.Common.{◌≡◌, inl, inr, ℕ, ◌<◌, ◌≤◌, ◌+◌, ◌-◌, false, List, length, get_or, map, take, drop, Option, ap, subst, sym, ◌∙◌, arith}
use Rattle.std.specs.Prelude.{All, Contains, slice_range}
use Rattle.std.proofs.lemmas.Bool.{cases_eq, cases_lt}
use Rattle.std.proofs.lemmas.List.{get_or-drop, get_or-map, get_or-take, get_or_default, length-drop, length-map, length-take-le}
use Rattle.std.proofs.lemmas.List.Elements.{Contains-get_or}
use Rattle.graph_law.specs.CallOrder.{AreApart}
use Rattle.graph_law.specs.Classes.{GroupCalls, HasMember, group_at}
use Rattle.graph_law.specs.Graph.{Calls}
use Rattle.graph_law.specs.LegalOrder.{IsLegalOrder}
use Rattle.group_release.specs.declared.level.Level.{Level}
use Rattle.group_release.specs.Level.{AreLevels, level_at}
use Rattle.effect_flow.specs.Carriers.{AreFlows, IsFlow, flow_at}
use Rattle.effect_flow.specs.Flows.{AreAdded, IsNext}
use Rattle.effect_flow.specs.Heights.{AreByHeight, height_at}

-- the groups at the first places of the order have their flows
pub record AreRightBelow (lists : List (List ℕ)) (own : List ℕ) (groups : List (List ℕ)) (order : List ℕ) (from : ℕ) (flows : List (List (Option ℕ))) : Type 0 where
  pub most : from ≤ length order
  pub each : length flows ≡ length groups
  pub right : (k : ℕ) → k < from → IsFlow (Calls lists) own (group_at groups (get_or order k 0)) (flow_at flows (get_or order k 0))

-- the group that calls another is higher
pub higher : {calls : ℕ → ℕ → Type 0} {groups : List (List ℕ)} {levels : List Level} (i j : ℕ) → AreLevels calls groups levels → GroupCalls calls groups i j
    → (level_at levels j).height < (level_at levels i).height
higher {calls} {groups} {levels} i j are call =
    let height : Level → ℕ = λ level. level.height in
    let none : Level = record { height = 0; recursive = false } in
    let long : length levels ≡ length groups = sym (length-map levels height) ∙ are.heights.each in
    let first = call.caller_within in
    let second = call.callee_within in
    let at : (k : ℕ) → k < length levels → get_or (map height levels) k 0 ≡ (level_at levels k).height = λ k lt. get_or-map height levels k none 0 lt in
    omega (arith, are.heights.above i j call, at i (omega (arith, first, long)), at j (omega (arith, second, long)))

stretch_at : (xs : List ℕ) (from to k d : ℕ) → to ≤ length xs → k < length (slice_range xs from to) → (from + k < to) × (get_or (slice_range xs from to) k d ≡ get_or xs (from + k) 0)
stretch_at xs from to k d most lt =
    let rest : List ℕ = drop from xs in
    let long : length rest ≡ length xs - from = length-drop from xs in
    let all : length (take (to - from) rest) ≡ to - from = length-take-le (to - from) rest (omega (arith, long, most)) in
    let inside : k < to - from = omega (arith, all, lt) in (
      omega (arith, inside),
      get_or-take (to - from) rest k d inside ∙ get_or-drop from xs k d ∙ get_or_default xs (from + k) d 0 (omega (arith, inside, most)),
    )

stretch_has : (xs : List ℕ) (from to k : ℕ) → to ≤ length xs → from ≤ k → k < to → Contains (slice_range xs from to) (get_or xs k 0)
stretch_has xs from to k most low lt =
    let rest : List ℕ = drop from xs in
    let long : length rest ≡ length xs - from = length-drop from xs in
    let all : length (take (to - from) rest) ≡ to - from = length-take-le (to - from) rest (omega (arith, long, most)) in
    let inside : k - from < length (take (to - from) rest) = omega (arith, all, low, lt) in
    let at = stretch_at xs from to (k - from) 0 most inside in
    let same : from + (k - from) ≡ k = omega (arith, low) in
    subst (Contains (slice_range xs from to)) (at.1 ∙ ap (λ n. get_or xs n 0) same) (Contains-get_or (slice_range xs from to) (k - from) 0 inside)

-- the groups of the next height call only groups that have their flows
pub all_next : {lists : List (List ℕ)} {own : List ℕ} {groups : List (List ℕ)} {levels : List Level} {order : List ℕ} {from to : ℕ} {flows : List (List (Option ℕ))}
    → AreLevels (Calls lists) groups levels → AreByHeight levels order → AreRightBelow lists own groups order from flows
    → from < length order → to ≤ length order
    → ((k : ℕ) → from ≤ k → k < to → height_at levels order k ≡ height_at levels order from)
    → All (IsNext lists own groups flows) (slice_range order from to)
all_next {lists} {own} {groups} {levels} {order} {from} {to} {flows} are by_height right within most level = λ k d lt.
    let long : length levels ≡ length groups = sym (length-map levels (λ (level : Level). level.height)) ∙ are.heights.each in
    let at = stretch_at order from to k d most lt in
    let here : from + k < to = at.0 in
    let place : ℕ = get_or order (from + k) 0 in
    let inside : place < length levels = by_height.within (from + k) 0 (omega (arith, here, most)) in
    let as_high : height_at levels order (from + k) ≡ height_at levels order from = level (from + k) (omega arith) here in
    subst (IsNext lists own groups flows) (sym at.1)
    (record {
      within = omega (arith, inside, long);
      each = right.each;
      known = λ j call.
          let lower : (level_at levels j).height < (level_at levels place).height = higher place j are call in
          let callee = call.callee_within in
          let has = by_height.all j (omega (arith, callee, long)) in
          let there : get_or order has.0 0 ≡ j = get_or_default order has.0 0 j has.1 ∙ has.2 in
          let low : height_at levels order has.0 ≡ (level_at levels j).height = ap (λ p. (level_at levels p).height) there in
          let before : has.0 < from =
          elim (cases_lt has.0 from) [
            | inl earlier ↦ earlier
            | inr later ↦
                elim (cases_eq has.0 from) [
                  | inl same ↦
                      let equal : height_at levels order has.0 ≡ height_at levels order from = ap (height_at levels order) same in
                      absurd (omega (arith, equal, low, as_high, lower))
                  | inr ne ↦
                      let rises = by_height.rising from has.0 (omega (arith, later, ne)) has.1 in
                      absurd (omega (arith, rises, low, as_high, lower))
                ]
          ] in
          subst (λ p. IsFlow (Calls lists) own (group_at groups p) (flow_at flows p)) there (right.right has.0 before);
    })

-- one height more
pub right_more : {lists : List (List ℕ)} {own : List ℕ} {groups : List (List ℕ)} {order : List ℕ} {from to : ℕ} {old new : List (List (Option ℕ))}
    → AreRightBelow lists own groups order from old → to ≤ length order → AreAdded lists own groups (slice_range order from to) old new
    → AreRightBelow lists own groups order to new
right_more {lists} {own} {groups} {order} {from} {to} {old} {new} right most is = record {
  most = most;
  each = is.each ∙ right.each;
  right = λ k lt.
      elim (cases_lt k from) [
        | inl before ↦ is.kept (get_or order k 0) (right.right k before)
        | inr later ↦ is.right (get_or order k 0) (stretch_has order from to k most later lt)
      ];
}

-- all heights
pub right_done : {lists : List (List ℕ)} {own : List ℕ} {groups : List (List ℕ)} {levels : List Level} {order : List ℕ} {from : ℕ} {flows : List (List (Option ℕ))}
    → AreLevels (Calls lists) groups levels → AreByHeight levels order → AreRightBelow lists own groups order from flows → length order ≤ from
    → AreFlows (Calls lists) own groups flows
right_done {lists} {own} {groups} {levels} {order} {from} {flows} are by_height right passed =
    let long : length levels ≡ length groups = sym (length-map levels (λ (level : Level). level.height)) ∙ are.heights.each in
    record {
      each = right.each;
      carriers = λ place lt.
          let has = by_height.all place (omega (arith, lt, long)) in
          let there : get_or order has.0 0 ≡ place = get_or_default order has.0 0 place has.1 ∙ has.2 in
          let before : has.0 < from = (let inside = has.1 in omega (arith, inside, passed)) in
          subst (λ p. IsFlow (Calls lists) own (group_at groups p) (flow_at flows p)) there (right.right has.0 before);
    }

-- groups in a legal order share no node
pub apart_of : {calls : ℕ → ℕ → Type 0} {groups : List (List ℕ)} {count : ℕ} → IsLegalOrder calls groups → ((p : ℕ) → HasMember groups p → p < count) → AreApart count groups
apart_of {calls} {groups} {count} legal nodes =
    record { below = λ i p lt member. nodes p (record { place = i; within = lt; member = member }); once = legal.once }
