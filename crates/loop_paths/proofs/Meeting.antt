-- How the callees of a node are met one after another.
use Rattle.std.proofs.Common.{◌≡◌, ◌↔◌, ℕ, ◌<◌, ◌≤◌, ◌+◌, not, cond, Bool, true, false, List, [], ◌∷◌, ◌++◌, length, get_or, set, refl, ap, ◌∙◌, arith}
use Rattle.std.specs.Prelude.{count_by, Contains}
use Rattle.std.specs.List.Sorted.{IsStrictlyIncreasing}
use Rattle.std.proofs.lemmas.List.{length_push, length-set}
use Rattle.std.proofs.lemmas.List.Sums.{sum_by-set}
use Rattle.graph_law.specs.Graph.{Calls}
use Rattle.loop_paths.specs.Grown.{IsGrown}
use Rattle.loop_paths.proofs.Growing.{IsOpening, opening_start, opening_skip, opening_push, opening_done}

-- the first j callees are met
pub record IsMeeting (nodes0 callers0 : List ℕ) (seen0 : List Bool) (place : ℕ) (callees : List ℕ) (j : ℕ) (nodes callers : List ℕ) (seen : List Bool) : Type 0 where
  pub each : length seen ≡ length seen0
  pub balance : count_by (λ mark. not mark) seen + length nodes ≡ count_by (λ mark. not mark) seen0 + length nodes0
  pub opens : (lists : List (List ℕ)) (from to : ℕ) → IsGrown (Calls lists) from to nodes0 callers0 seen0 place → place < length nodes0
      → ((q : ℕ) → Contains callees q ↔ Calls lists (get_or nodes0 place 0) q) → IsOpening (Calls lists) from to nodes callers seen place callees j

pub meeting_start : (nodes callers : List ℕ) (seen : List Bool) (place : ℕ) (callees : List ℕ) → IsMeeting nodes callers seen place callees 0 nodes callers seen
meeting_start nodes callers seen place callees = record {
  each = refl;
  balance = refl;
  opens = λ lists from to grown within are. opening_start (Calls lists) from to nodes callers seen place callees grown within are;
}

pub meeting_skip : (nodes0 callers0 : List ℕ) (seen0 : List Bool) (place : ℕ) (callees : List ℕ) (j : ℕ) (nodes callers : List ℕ) (seen : List Bool)
    → IsMeeting nodes0 callers0 seen0 place callees j nodes callers seen → j < length callees → get_or seen (get_or callees j 0) false ≡ true
    → IsMeeting nodes0 callers0 seen0 place callees (j + 1) nodes callers seen
meeting_skip nodes0 callers0 seen0 place callees j nodes callers seen meeting lt marked = record {
  each = meeting.each;
  balance = meeting.balance;
  opens = λ lists from to grown within are.
      opening_skip (Calls lists) from to nodes callers seen place callees j (meeting.opens lists from to grown within are) lt marked;
}

fewer : (seen : List Bool) (c : ℕ) → c < length seen → get_or seen c false ≡ false
    → count_by (λ mark. not mark) (set seen c true) + 1 ≡ count_by (λ mark. not mark) seen
fewer seen c lt unmarked =
    let weight : Bool → ℕ = λ mark. cond (not mark) 1 0 in
    let set_one = sum_by-set weight seen c true false lt in
    let one : ◌≡◌ {A = ℕ} (cond (not (get_or seen c false)) 1 0) (cond (not false) 1 0) = ap weight unmarked in
    omega (arith, set_one, one)

pub meeting_push : (nodes0 callers0 : List ℕ) (seen0 : List Bool) (place : ℕ) (callees : List ℕ) (j : ℕ) (nodes callers : List ℕ) (seen : List Bool)
    → IsMeeting nodes0 callers0 seen0 place callees j nodes callers seen → IsStrictlyIncreasing callees → j < length callees
    → get_or callees j 0 < length seen → get_or seen (get_or callees j 0) false ≡ false
    → IsMeeting nodes0 callers0 seen0 place callees (j + 1) (nodes ++ get_or callees j 0 ∷ []) (callers ++ place ∷ []) (set seen (get_or callees j 0) true)
meeting_push nodes0 callers0 seen0 place callees j nodes callers seen meeting up lt small unmarked =
    let c : ℕ = get_or callees j 0 in
    record {
      each = length-set seen c true ∙ meeting.each;
      balance =
          let one = fewer seen c small unmarked in
          let long = length_push nodes c in
          let was = meeting.balance in
          omega (arith, one, long, was);
      opens = λ lists from to grown within are.
          opening_push (Calls lists) from to nodes callers seen place callees j (meeting.opens lists from to grown within are) up lt small;
    }

pub meeting_done : (nodes0 callers0 : List ℕ) (seen0 : List Bool) (place : ℕ) (callees : List ℕ) (j : ℕ) (nodes callers : List ℕ) (seen : List Bool)
    → IsMeeting nodes0 callers0 seen0 place callees j nodes callers seen → length callees ≤ j
    → (lists : List (List ℕ)) (from to : ℕ) → IsGrown (Calls lists) from to nodes0 callers0 seen0 place → place < length nodes0
    → ((q : ℕ) → Contains callees q ↔ Calls lists (get_or nodes0 place 0) q) → (Contains callees to → ⊥)
    → IsGrown (Calls lists) from to nodes callers seen (place + 1)
meeting_done nodes0 callers0 seen0 place callees j nodes callers seen meeting all lists from to grown within are none =
    opening_done (Calls lists) from to nodes callers seen place callees j (meeting.opens lists from to grown within are) all none
