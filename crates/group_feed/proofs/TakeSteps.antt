-- One group more and its level.
use Rattle.std.proofs.Common.{◌≡◌, ℕ, ◌<◌, ◌≤◌, ◌+◌, List, [], ◌∷◌, ◌++◌, length, take, drop, get_or, subst, sym, ◌∙◌, arith}
use Rattle.std.proofs.lemmas.List.{get_or_append_left, get_or_push, length_push, take_at}
use Rattle.std.proofs.lemmas.List.Elements.{Contains-get_or}
use Rattle.std.specs.Prelude.{All, Contains}
use Rattle.graph_law.specs.CallOrder.{AreGroupPlaces}
use Rattle.graph_law.specs.Classes.{GroupCalls, group_at}
use Rattle.graph_law.specs.Graph.{Calls}
use Rattle.graph_law.specs.LegalOrder.{IsLegalOrder}
use Rattle.graph_law.specs.Stamp.{IsStamped}
use Rattle.group_release.specs.declared.level.Level.{Level}
use Rattle.group_release.specs.Level.{level_at}
use Rattle.group_release.specs.Levels.{AreRaised, IsLevelOf}
use Rattle.group_release.proofs.LevelSteps.{ArePlacesBelow, calls_before, heights_fit, levels_more, places_more, callee_place}
use Rattle.group_release.proofs.RaisedSteps.{raised_same}
use Rattle.group_feed.specs.Leveling.{AreLeveled}
use Rattle.group_feed.specs.Ordered.{AreOrdered}

-- the same in the words of all levels
places_below : {count : ℕ} {groups : List (List ℕ)} {places : List ℕ} → AreGroupPlaces count groups places → ArePlacesBelow count groups (length groups) places
places_below are = record { each = are.each; at = are.at }

places_from_below : {count : ℕ} {groups : List (List ℕ)} {places : List ℕ} → ArePlacesBelow count groups (length groups) places → AreGroupPlaces count groups places
places_from_below are = record { each = are.each; at = are.at }

-- the groups that were there stand where they stood, and the new one behind them
pub old_group : (taken : List (List ℕ)) (group : List ℕ) (i : ℕ) → i < length taken → group_at (taken ++ group ∷ []) i ≡ group_at taken i
old_group taken group i lt = get_or_append_left taken (group ∷ []) [] i lt

pub new_group : (taken : List (List ℕ)) (group : List ℕ) → group_at (taken ++ group ∷ []) (length taken) ≡ group
new_group taken group = get_or_push taken group [] (length taken) (omega arith)

pub longer : (taken : List (List ℕ)) (group : List ℕ) → length taken < length (taken ++ group ∷ [])
longer taken group = let long = length_push taken group in omega (arith, long)

-- the members of the new group are nodes
pub new_below : (lists taken : List (List ℕ)) (group : List ℕ) → AreOrdered lists (taken ++ group ∷ []) → All (λ p. p < length lists) group
new_below lists taken group ordered = λ k d lt.
    ordered.nodes (get_or group k d)
    (record {
      place = length taken;
      within = longer taken group;
      member = subst (λ g. Contains g (get_or group k d)) (sym (new_group taken group)) (Contains-get_or group k d lt);
    })

-- the places of the old groups are places among all
old_places : (count : ℕ) (taken : List (List ℕ)) (group : List ℕ) (places : List ℕ) → ArePlacesBelow count taken (length taken) places
    → ArePlacesBelow count (taken ++ group ∷ []) (length taken) places
old_places count taken group places are = record {
  each = are.each;
  at = λ i p lt member. are.at i p lt (subst (λ g. Contains g p) (old_group taken group i lt) member);
}

-- with the new group stamped, all groups have their places
pub stamped_places : (lists taken : List (List ℕ)) (group : List ℕ) (old new : List ℕ) → AreOrdered lists (taken ++ group ∷ [])
    → ArePlacesBelow (length lists) taken (length taken) old → IsStamped group (length taken) old new
    → ArePlacesBelow (length lists) (taken ++ group ∷ []) (length taken + 1) new
stamped_places lists taken group old new ordered are is =
    places_more ordered.legal (longer taken group) (old_places (length lists) taken group old are)
    (subst (λ g. IsStamped g (length taken) old new) (sym (new_group taken group)) is)

-- and the old groups among them
pub kept_places : (lists taken : List (List ℕ)) (group : List ℕ) (new : List ℕ)
    → ArePlacesBelow (length lists) (taken ++ group ∷ []) (length taken + 1) new → ArePlacesBelow (length lists) taken (length taken) new
kept_places lists taken group new are = record {
  each = are.each;
  at = λ i p lt member. are.at i p (omega (arith, lt)) (subst (λ g. Contains g p) (sym (old_group taken group i lt)) member);
}

-- the calls of an old group are the same among all groups
to_all : (calls : ℕ → ℕ → Type 0) (taken : List (List ℕ)) (group : List ℕ) (i j : ℕ) → GroupCalls calls taken i j → GroupCalls calls (taken ++ group ∷ []) i j
to_all calls taken group i j led =
    let long = length_push taken group in
    let i_lt = led.caller_within in
    let j_lt = led.callee_within in
    record {
      caller = led.caller;
      callee = led.callee;
      caller_within = omega (arith, long, i_lt);
      callee_within = omega (arith, long, j_lt);
      other = led.other;
      is_caller = subst (λ g. Contains g led.caller) (sym (old_group taken group i i_lt)) led.is_caller;
      is_callee = subst (λ g. Contains g led.callee) (sym (old_group taken group j j_lt)) led.is_callee;
      call = led.call;
    }

from_all : (calls : ℕ → ℕ → Type 0) (taken : List (List ℕ)) (group : List ℕ) (i j : ℕ) → IsLegalOrder calls (taken ++ group ∷ []) → i < length taken
    → GroupCalls calls (taken ++ group ∷ []) i j → GroupCalls calls taken i j
from_all calls taken group i j legal i_lt led =
    let before : j < i = calls_before legal led in
    let j_lt : j < length taken = omega (arith, before, i_lt) in
    record {
      caller = led.caller;
      callee = led.callee;
      caller_within = i_lt;
      callee_within = j_lt;
      other = led.other;
      is_caller = subst (λ g. Contains g led.caller) (old_group taken group i i_lt) led.is_caller;
      is_callee = subst (λ g. Contains g led.callee) (old_group taken group j j_lt) led.is_callee;
      call = led.call;
    }

-- the levels of the old groups are levels among all
pub old_levels : (calls : ℕ → ℕ → Type 0) (taken : List (List ℕ)) (group : List ℕ) (levels : List Level) → IsLegalOrder calls (taken ++ group ∷ [])
    → length levels ≡ length taken → AreRaised calls taken levels → AreRaised calls (taken ++ group ∷ []) levels
old_levels calls taken group levels legal each so_far = record {
  low = so_far.low;
  heights = λ i lt.
      let i_lt : i < length taken = omega (arith, lt, each) in
      raised_same (GroupCalls calls taken i) (GroupCalls calls (taken ++ group ∷ []) i) levels 0 (level_at levels i).height
      (λ j led. to_all calls taken group i j led)
      (λ j led. from_all calls taken group i j legal i_lt led) (so_far.heights i lt);
  marks = λ i lt.
      let i_lt : i < length taken = omega (arith, lt, each) in
      rw (old_group taken group i i_lt) (so_far.marks i lt);
}

-- one group more is leveled
pub leveled_more : (lists taken : List (List ℕ)) (group : List ℕ) (old new : List ℕ) (levels : List Level) (level : Level)
    → AreOrdered lists (taken ++ group ∷ []) → AreLeveled lists taken old levels
    → ArePlacesBelow (length lists) (taken ++ group ∷ []) (length taken + 1) new → IsLevelOf lists new levels group level
    → AreLeveled lists (taken ++ group ∷ []) new (levels ++ level ∷ [])
leveled_more lists taken group old new levels level ordered are placed is =
    let long : length (taken ++ group ∷ []) ≡ length taken + 1 = length_push taken group in
    let long_levels : length (levels ++ level ∷ []) ≡ length levels + 1 = length_push levels level in
    let each = are.each in
    record {
      ordered = ordered;
      each = omega (arith, long, long_levels, each);
      placed = places_from_below (subst (λ n. ArePlacesBelow (length lists) (taken ++ group ∷ []) n new) (sym long) placed);
      raised =
          levels_more level ordered.legal (longer taken group) each placed
          (old_levels (Calls lists) taken group levels ordered.legal each are.raised)
          (subst (λ g. IsLevelOf lists new levels g level) (sym (new_group taken group)) is);
    }

-- without memory, the old ones still are
pub leveled_still : (lists taken : List (List ℕ)) (group : List ℕ) (old new : List ℕ) (levels : List Level) → AreLeveled lists taken old levels
    → ArePlacesBelow (length lists) (taken ++ group ∷ []) (length taken + 1) new → AreLeveled lists taken new levels
leveled_still lists taken group old new levels are placed =
    record { ordered = are.ordered; each = are.each; placed = places_from_below (kept_places lists taken group new placed); raised = are.raised }

-- the heights of the old groups leave room for one more
pub heights_low : (lists taken : List (List ℕ)) (group : List ℕ) (places : List ℕ) (levels : List Level) → AreOrdered lists (taken ++ group ∷ [])
    → AreLeveled lists taken places levels → length lists < 4294967296 → All (λ (level : Level). level.height < 4294967295) levels
heights_low lists taken group places levels ordered are small =
    let long : length (taken ++ group ∷ []) ≡ length taken + 1 = length_push taken group in
    let each = are.each in
    heights_fit ordered.legal ordered.nodes small (omega (arith, long, each))
    (old_levels (Calls lists) taken group levels ordered.legal each are.raised)

-- where a member's callee stands
pub callee_within : (lists taken : List (List ℕ)) (group : List ℕ) (new : List ℕ) → AreOrdered lists (taken ++ group ∷ [])
    → ArePlacesBelow (length lists) (taken ++ group ∷ []) (length taken + 1) new → (p q : ℕ) → Contains group p → Calls lists p q
    → get_or new q 0 ≤ length taken
callee_within lists taken group new ordered placed p q member call =
    (callee_place lists ordered.legal (longer taken group) placed p q (subst (λ g. Contains g p) (sym (new_group taken group)) member) call).0

-- while a group is taken: its nodes have their places, and the groups before it are leveled
pub record IsMidway (lists taken : List (List ℕ)) (group table : List ℕ) (levels : List Level) : Type 0 where
  pub ordered : AreOrdered lists (taken ++ group ∷ [])
  pub are : AreLeveled lists taken table levels
  pub placed : ArePlacesBelow (length lists) (taken ++ group ∷ []) (length taken + 1) table

pub midway : (lists taken : List (List ℕ)) (group old table : List ℕ) (n room : ℕ) (levels : List Level) → AreOrdered lists (taken ++ group ∷ [])
    → AreLeveled lists taken old levels → n ≡ length levels → room ≡ length old → IsStamped group n old table
    → IsMidway lists taken group (take room (table ++ drop (length table) old)) levels
midway lists taken group old table n room levels ordered are counted fits is =
    let stamped : IsStamped group (length taken) old table = subst (λ k. IsStamped group k old table) (counted ∙ are.each) is in
    let placed : ArePlacesBelow (length lists) (taken ++ group ∷ []) (length taken + 1) table =
    stamped_places lists taken group old table ordered (places_below are.placed) stamped in
    rw (take_at table (drop (length table) old) room (is.each ∙ sym fits))
    (record { ordered = ordered; are = leveled_still lists taken group old table levels are placed; placed = placed })
