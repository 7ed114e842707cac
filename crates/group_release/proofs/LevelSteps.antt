-- How the levels of groups in a legal order are found, one group after another.
use Rattle.std.proofs.Common.{◌≡◌, ◌↔◌, inl, inr, ℕ, ◌<◌, ◌≤◌, ◌+◌, false, IsTrue, List, [], ◌∷◌, ◌++◌, length, get_or, map, subst, sym, ap, ◌∙◌, arith}
use Rattle.std.proofs.lemmas.Bool.{cases_eq, cases_lt}
use Rattle.std.proofs.lemmas.List.{get_or_append_left, get_or_default, get_or_push, get_or-map, length_push, length-map}
use Rattle.std.proofs.lemmas.List.Elements.{Contains-get_or}
use Rattle.std.specs.Prelude.{All, Contains}
use Rattle.graph_law.specs.Classes.{GroupCalls, HasMember, IsRecursive, group_at}
use Rattle.graph_law.specs.CallOrder.{AreApart}
use Rattle.graph_law.specs.Graph.{Calls}
use Rattle.graph_law.specs.LegalOrder.{IsLegalOrder, StandsUpTo}
use Rattle.group_release.specs.declared.level.Level.{Level}
use Rattle.group_release.specs.Level.{AreLevels, level_at}
use Rattle.group_release.specs.Levels.{AreRaised, IsLevelOf, IsRaised, MembersLeadDown}
use Rattle.graph_law.specs.Stamp.{IsStamped}
use Rattle.group_release.proofs.FewGroups.{few_groups}
use Rattle.group_release.proofs.RaisedSteps.{raised_same}

-- the table has the place of each node of the first n groups
pub record ArePlacesBelow (count : ℕ) (groups : List (List ℕ)) (n : ℕ) (places : List ℕ) : Type 0 where
  pub each : length places ≡ count
  pub at : (i p : ℕ) → i < n → Contains (group_at groups i) p → get_or places p 0 ≡ i

-- one group more has its places
pub places_more : {calls : ℕ → ℕ → Type 0} {count : ℕ} {groups : List (List ℕ)} {n : ℕ} {old new : List ℕ} → IsLegalOrder calls groups
    → n < length groups → ArePlacesBelow count groups n old → IsStamped (group_at groups n) n old new → ArePlacesBelow count groups (n + 1) new
places_more {calls} {count} {groups} {n} {old} {new} legal within are is = record {
  each = is.each ∙ are.each;
  at = λ i p lt member.
      elim (cases_lt i n) [
        | inl before ↦
            elim (is.kept p 0) [
              | inl here ↦
                  let same : i ≡ n = legal.once i n p (omega (arith, before, within)) within member here in absurd (omega (arith, same, before))
              | inr same ↦ same ∙ are.at i p before member
            ]
        | inr from ↦
            let last : i ≡ n = omega (arith, from, lt) in
            is.stamped p 0 (subst (λ k. Contains (group_at groups k) p) last member) ∙ sym last
      ];
}

-- a group calls only groups before it
pub calls_before : {calls : ℕ → ℕ → Type 0} {groups : List (List ℕ)} {i j : ℕ} → IsLegalOrder calls groups → GroupCalls calls groups i j → j < i
calls_before {calls} {groups} {i} {j} legal led =
    let stands : StandsUpTo groups i led.callee = legal.callees_first i led.caller led.callee led.caller_within led.is_caller led.call in
    let within : i < length groups = led.caller_within in
    let same : stands.place ≡ j =
    legal.once stands.place j led.callee (omega (arith, stands.upto, within)) led.callee_within stands.member led.is_callee in
    elim (cases_eq i j) [ inl is ↦ absurd (led.other is) | inr ne ↦ omega (arith, ne, same, stands.upto) ]

-- where a member's callee stands
pub callee_place : (lists : List (List ℕ)) {count : ℕ} {groups : List (List ℕ)} {n : ℕ} {places : List ℕ} → IsLegalOrder (Calls lists) groups
    → n < length groups → ArePlacesBelow count groups (n + 1) places → (p q : ℕ) → Contains (group_at groups n) p → Calls lists p q
    → (get_or places q 0 ≤ n) × Contains (group_at groups (get_or places q 0)) q
callee_place lists {count} {groups} {n} {places} legal within are p q member call =
    let stands : StandsUpTo groups n q = legal.callees_first n p q within member call in
    let at : get_or places q 0 ≡ stands.place = are.at stands.place q (omega (arith, stands.upto)) stands.member in
    (omega (arith, at, stands.upto), subst (λ k. Contains (group_at groups k) q) (sym at) stands.member)

-- to lead down to a group is to call it
raised_by_calls : {lists : List (List ℕ)} {count : ℕ} {groups : List (List ℕ)} {n : ℕ} {places : List ℕ} {levels : List Level} {height : ℕ}
    → IsLegalOrder (Calls lists) groups → n < length groups → ArePlacesBelow count groups (n + 1) places
    → IsRaised (MembersLeadDown lists places n (group_at groups n)) levels 0 height → IsRaised (GroupCalls (Calls lists) groups n) levels 0 height
raised_by_calls {lists} {count} {groups} {n} {places} {levels} {height} legal within are =
    raised_same (MembersLeadDown lists places n (group_at groups n)) (GroupCalls (Calls lists) groups n) levels 0 height
    (λ j led.
    let stands = callee_place lists legal within are led.member led.leads.callee led.is_member led.leads.is_callee in
    let earlier : j < n = led.leads.earlier in
    record {
      caller = led.member;
      callee = led.leads.callee;
      caller_within = within;
      callee_within = omega (arith, earlier, within);
      other = λ same. omega (arith, same, earlier);
      is_caller = led.is_member;
      is_callee = subst (λ k. Contains (group_at groups k) led.leads.callee) led.leads.at stands.1;
      call = led.leads.is_callee;
    })
    (λ j led.
    let earlier : j < n = calls_before legal led in
    record {
      member = led.caller;
      is_member = led.is_caller;
      leads = record {
        callee = led.callee;
        is_callee = led.call;
        at = are.at j led.callee (omega (arith, earlier)) led.is_callee;
        earlier = earlier;
      };
    })

-- a level at the end changes no height that is led to
raised_kept : (P : ℕ → Type 0) (levels : List Level) (level : Level) (height : ℕ) → ((j : ℕ) → P j → j < length levels)
    → IsRaised P levels 0 height → IsRaised P (levels ++ level ∷ []) 0 height
raised_kept P levels level height within is =
    let same : (j : ℕ) → P j → (level_at (levels ++ level ∷ []) j).height ≡ (level_at levels j).height =
    λ j led.
    ap (λ (each : Level). each.height) (get_or_append_left levels (level ∷ []) (record { height = 0; recursive = false }) j (within j led)) in
    record {
      kept = is.kept;
      above = λ j led. omega (arith, same j led, is.above j led);
      least = elim is.least [ inl none ↦ inl none | inr (j, led, at) ↦ inr (j, led, omega (arith, same j led, at)) ];
    }

-- one group more has its level, which is raised above those that it calls
pub raised_more : {calls : ℕ → ℕ → Type 0} {groups : List (List ℕ)} {levels : List Level} (level : Level) → IsLegalOrder calls groups
    → AreRaised calls groups levels → IsRaised (GroupCalls calls groups (length levels)) levels 0 level.height
    → IsTrue level.recursive ↔ IsRecursive calls (group_at groups (length levels)) → AreRaised calls groups (levels ++ level ∷ [])
raised_more {calls} {groups} {levels} level legal so_far found mark =
    let none : Level = record { height = 0; recursive = false } in
    let more : List Level = levels ++ level ∷ [] in
    let n : ℕ = length levels in
    let long : length more ≡ length levels + 1 = length_push levels level in
    let before : (i : ℕ) → i < n → level_at more i ≡ level_at levels i = λ i lt. get_or_append_left levels (level ∷ []) none i lt in
    let last : (i : ℕ) → n ≤ i → i < length more → (i ≡ n) × (level_at more i ≡ level) =
    λ i from lt. (omega (arith, from, lt, long), get_or_push levels level none i (omega (arith, from, lt, long))) in
    let low : level.height ≤ n =
    elim found.least [
      | inl zero_height ↦ omega (arith, zero_height)
      | inr (j, led, at) ↦ (let earlier : j < n = calls_before legal led in omega (arith, at, earlier, so_far.low j earlier))
    ] in
    let kept : (i height : ℕ) → i ≤ n → IsRaised (GroupCalls calls groups i) levels 0 height → IsRaised (GroupCalls calls groups i) more 0 height =
    λ i height upto raised.
    raised_kept (GroupCalls calls groups i) levels level height
    (λ j led. let earlier : j < i = calls_before legal led in omega (arith, earlier, upto)) raised in
    record {
      low = λ i lt. elim (cases_lt i n) [
        | inl first ↦ rw (before i first) (so_far.low i first)
        | inr from ↦ (let (is_n, is_level) = last i from lt in rw is_level (omega (arith, is_n, low)))
      ];
      heights = λ i lt. elim (cases_lt i n) [
        | inl first ↦ rw (before i first) (kept i (level_at levels i).height (omega (arith, first)) (so_far.heights i first))
        | inr from ↦
            let here : IsRaised (GroupCalls calls groups n) more 0 level.height = kept n level.height (omega arith) found in
            rw ((last i from lt).1, (last i from lt).0) here
      ];
      marks = λ i lt. elim (cases_lt i n) [
        | inl first ↦ rw (before i first) (so_far.marks i first)
        | inr from ↦ rw ((last i from lt).1, (last i from lt).0) mark
      ];
    }

-- and so where the level is found by the places of the groups
pub levels_more : {lists : List (List ℕ)} {count : ℕ} {groups : List (List ℕ)} {n : ℕ} {places : List ℕ} {levels : List Level} (level : Level)
    → IsLegalOrder (Calls lists) groups → n < length groups → length levels ≡ n → ArePlacesBelow count groups (n + 1) places
    → AreRaised (Calls lists) groups levels → IsLevelOf lists places levels (group_at groups n) level
    → AreRaised (Calls lists) groups (levels ++ level ∷ [])
levels_more {lists} {count} {groups} {n} {places} {levels} level legal within each are so_far is =
    let found : IsRaised (GroupCalls (Calls lists) groups n) levels 0 level.height =
    raised_by_calls legal within are (subst (λ k. IsRaised (MembersLeadDown lists places k (group_at groups n)) levels 0 level.height) each is.height) in
    raised_more level legal so_far (subst (λ k. IsRaised (GroupCalls (Calls lists) groups k) levels 0 level.height) (sym each) found)
    (subst (λ k. IsTrue level.recursive ↔ IsRecursive (Calls lists) (group_at groups k)) (sym each) is.mark)

-- all groups have their levels
pub levels_done : {calls : ℕ → ℕ → Type 0} {groups : List (List ℕ)} {levels : List Level} → IsLegalOrder calls groups
    → length levels ≡ length groups → AreRaised calls groups levels → AreLevels calls groups levels
levels_done {calls} {groups} {levels} legal each so_far =
    let height : Level → ℕ = λ level. level.height in
    let none : Level = record { height = 0; recursive = false } in
    let at : (i : ℕ) → i < length groups → get_or (map height levels) i 0 ≡ (level_at levels i).height =
    λ i lt. get_or-map height levels i none 0 (omega (arith, lt, each)) in
    record {
      heights = record {
        each = length-map levels height ∙ each;
        above = λ i j led.
            let within = led.caller_within in
            let inside = led.callee_within in
            omega (arith, at i within, at j inside, (so_far.heights i (omega (arith, within, each))).above j led);
        least = λ i lt.
            elim (so_far.heights i (omega (arith, lt, each))).least [
              | inl zero_height ↦ inl (at i lt ∙ zero_height)
              | inr (j, led, is) ↦ inr (j, led, (let inside = led.callee_within in omega (arith, at i lt, at j inside, is)))
            ];
      };
      marks = λ i lt. so_far.marks i (omega (arith, lt, each));
    }

-- the heights so far leave room for one more
pub heights_fit : {calls : ℕ → ℕ → Type 0} {count : ℕ} {groups : List (List ℕ)} {levels : List Level} → IsLegalOrder calls groups
    → ((p : ℕ) → HasMember groups p → p < count) → count < 4294967296 → length levels < length groups → AreRaised calls groups levels
    → All (λ (level : Level). level.height < 4294967295) levels
heights_fit {calls} {count} {groups} {levels} legal nodes small within so_far =
    let none : Level = record { height = 0; recursive = false } in
    let apart : AreApart count groups =
    record { below = λ i p lt member. nodes p (record { place = i; within = lt; member = member }); once = legal.once } in
    let few : length groups ≤ count = few_groups count groups (λ k d lt. (legal.each k d lt).inhabited) apart in
    λ k d lt.
    let same : (get_or levels k d).height ≡ (level_at levels k).height =
    ap (λ (level : Level). level.height) (get_or_default levels k d none lt) in
    omega (arith, same, so_far.low k lt, lt, within, few, small)

-- the members of a group that is read are nodes
pub members_below : {count : ℕ} {groups : List (List ℕ)} (n : ℕ) (group : List ℕ) → n < length groups → group ≡ group_at groups n
    → ((p : ℕ) → HasMember groups p → p < count) → All (λ p. p < count) group
members_below {count} {groups} n group lt is nodes = λ k d within.
    nodes (get_or group k d)
    (record { place = n; within = lt; member = subst (λ each. Contains each (get_or group k d)) is (Contains-get_or group k d within) })
