-- Each search ends, so there is a least path or none, and there are circuits.
use Rattle.std.proofs.Common.{◌≡◌, ◌⊎◌, ◌↔◌, inl, inr, ℕ, zero, suc, ◌<◌, ◌≤◌, ◌+◌, not, Bool, true, false, List, [], ◌∷◌, ◌++◌, Option, None, Some, length, get_or, set, refl, sym, ap, ◌∙◌, arith, subst}
use Rattle.std.specs.Prelude.{All, Contains, count_by}
use Rattle.std.specs.List.Sorted.{IsStrictlyIncreasing}
use Rattle.std.proofs.Math.ListN.{replicate}
use Rattle.std.proofs.Math.Numerals.{suc-eq-add-one}
use Rattle.std.proofs.lemmas.Bool.{cases_Bool, cases_eq, cases_lt, false≢true}
use Rattle.std.proofs.lemmas.List.{get_or-replicate, get_or_append_left, get_or_past, get_or_push, length_push, length-replicate, length-set}
use Rattle.std.proofs.lemmas.List.Elements.{All-contains, Contains-append_cases, Contains-append_left, Contains-append_right, Contains-push, Contains-push_cases, Contains-get_or}
use Rattle.graph_law.specs.Classes.{HasMember, group_at, least_member}
use Rattle.graph_law.specs.Graph.{Calls, IsClosed}
use Rattle.graph_law.specs.LegalOrder.{IsLegalOrder}
use Rattle.graph_law.proofs.ClassLaws.{least_is_member}
use Rattle.graph_law.proofs.Increasing.{increasing_push}
use Rattle.loop_paths.specs.Circuits.{AreCircuits, IsCircuit, IsShortest}
use Rattle.loop_paths.specs.Found.{IsFound}
use Rattle.loop_paths.specs.Grown.{IsGrown, path_at}
use Rattle.loop_paths.proofs.Leads.{circuit_least, circuit_none, lead_least, lead_none, path_least, path_none, path_self}
use Rattle.loop_paths.proofs.Meeting.{IsMeeting, meeting_start, meeting_skip, meeting_push, meeting_done}
use Rattle.loop_paths.proofs.Searching.{IsClear, grown_start}

-- a node is in a list, or isn't
has_or_not : (xs : List ℕ) (q : ℕ) → Contains xs q ⊎ (Contains xs q → ⊥)
has_or_not [] q = inr (λ has. let lt = has.1 in absurd (omega (arith, lt)))
has_or_not (x ∷ xs) q =
    elim (cases_eq x q) as (λ _. Contains (x ∷ xs) q ⊎ (Contains (x ∷ xs) q → ⊥)) [
      | inl is ↦ inl (Contains-append_left (x ∷ []) xs q (0, omega arith, is))
      | inr other ↦
          elim (has_or_not xs q) as (λ _. Contains (x ∷ xs) q ⊎ (Contains (x ∷ xs) q → ⊥)) [
            | inl later ↦ inl (Contains-append_right (x ∷ []) xs q later)
            | inr none ↦
                inr (λ has. elim (Contains-append_cases (x ∷ []) xs q has) [ inl first ↦ other (only x q first) | inr later ↦ none later ])
          ]
    ]
  where
    zero_at : (i : ℕ) → i < 1 → i ≡ 0
    zero_at i lt = omega (arith, lt)

    only : (n m : ℕ) → Contains (n ∷ []) m → n ≡ m
    only n m one = sym (ap (λ i. get_or (n ∷ []) i m) (zero_at one.0 one.1)) ∙ one.2

-- the members of a list below a bound, ascending and each once
record HasAscending (xs : List ℕ) (n : ℕ) : Type 0 where
  kept : List ℕ
  ascending : IsStrictlyIncreasing kept
  below : All (λ q. q < n) kept
  all : (q : ℕ) → q < n → Contains xs q → Contains kept q
  sound : (q : ℕ) → Contains kept q → Contains xs q

ascending_of : (xs : List ℕ) (n : ℕ) → HasAscending xs n
ascending_of xs zero = record {
  kept = [];
  ascending = λ k lt. absurd (omega (arith, lt));
  below = λ k d lt. absurd (omega (arith, lt));
  all = λ q lt has. absurd (omega (arith, lt));
  sound = λ q has. let lt = has.1 in absurd (omega (arith, lt));
}
ascending_of xs (suc n) =
    let rest = ascending_of xs n in
    elim (has_or_not xs n) as (λ _. HasAscending xs (suc n)) [
      | inl has ↦ record {
        kept = rest.kept ++ n ∷ [];
        ascending = increasing_push rest.kept n rest.ascending rest.below;
        below = λ k d lt. pushed_below n (rest.kept) rest.below k d lt;
        all = λ q lt there.
            elim (cases_eq q n) as (λ _. Contains (rest.kept ++ n ∷ []) q) [
              | inl is ↦ rw is (Contains-push rest.kept n)
              | inr other ↦ Contains-append_left rest.kept (n ∷ []) q (rest.all q (omega (arith, lt, other)) there)
            ];
        sound = λ q there.
            elim (Contains-push_cases rest.kept n q there) [ inl before ↦ rest.sound q before | inr is ↦ subst (Contains xs) is has ];
      }
      | inr none ↦ record {
        kept = rest.kept;
        ascending = rest.ascending;
        below = λ k d lt. let low = rest.below k d lt in omega (arith, low);
        all = λ q lt there.
            elim (cases_eq q n) as (λ _. Contains rest.kept q) [
              | inl is ↦ absurd (none (subst (Contains xs) is there))
              | inr other ↦ rest.all q (omega (arith, lt, other)) there
            ];
        sound = rest.sound;
      }
    ]
  where
    pushed_below : (n : ℕ) (kept : List ℕ) → All (λ q. q < n) kept → All (λ q. q < suc n) (kept ++ n ∷ [])
    pushed_below n kept below k d lt =
        elim (Contains-push_cases kept n (get_or (kept ++ n ∷ []) k d) (Contains-get_or (kept ++ n ∷ []) k d lt)) as (λ _. get_or (kept ++ n ∷ []) k d < suc n) [
          | inl before ↦
              let low = All-contains (λ q. q < n) kept (get_or (kept ++ n ∷ []) k d) below before in omega (arith, low)
          | inr is ↦ omega (arith, is)
        ]

-- all callees are met
record HasMet (nodes0 callers0 : List ℕ) (seen0 : List Bool) (place : ℕ) (callees : List ℕ) (j : ℕ) : Type 0 where
  nodes : List ℕ
  callers : List ℕ
  seen : List Bool
  meeting : IsMeeting nodes0 callers0 seen0 place callees j nodes callers seen

meet_all : (nodes0 callers0 : List ℕ) (seen0 : List Bool) (place : ℕ) (callees : List ℕ) → IsStrictlyIncreasing callees
    → All (λ q. q < length seen0) callees → (j : ℕ) → j ≤ length callees → HasMet nodes0 callers0 seen0 place callees j
meet_all nodes0 callers0 seen0 place callees up small zero le =
    record { nodes = nodes0; callers = callers0; seen = seen0; meeting = meeting_start nodes0 callers0 seen0 place callees }
meet_all nodes0 callers0 seen0 place callees up small (suc j) le =
    let rest = meet_all nodes0 callers0 seen0 place callees up small j (omega (arith, le)) in
    let lt : j < length callees = omega (arith, le) in
    rw (suc-eq-add-one j)
    (elim (cases_Bool (get_or rest.seen (get_or callees j 0) false)) as (λ _. HasMet nodes0 callers0 seen0 place callees (j + 1)) [
      | inl marked ↦ record {
        nodes = rest.nodes;
        callers = rest.callers;
        seen = rest.seen;
        meeting = meeting_skip nodes0 callers0 seen0 place callees j rest.nodes rest.callers rest.seen rest.meeting lt marked;
      }
      | inr unmarked ↦ record {
        nodes = rest.nodes ++ get_or callees j 0 ∷ [];
        callers = rest.callers ++ place ∷ [];
        seen = set rest.seen (get_or callees j 0) true;
        meeting =
            meeting_push nodes0 callers0 seen0 place callees j rest.nodes rest.callers rest.seen rest.meeting up lt
            (let each = rest.meeting.each in let low = small j 0 lt in omega (arith, each, low)) unmarked;
      }
    ])

record HasFound (lists : List (List ℕ)) (from to : ℕ) : Type 0 where
  nodes : List ℕ
  callers : List ℕ
  seen : List Bool
  found : Option ℕ
  is : IsFound lists from to nodes callers seen found

module _ (lists : List (List ℕ)) (closed : IsClosed lists) (from to : ℕ) where
  end : (a b : ℕ) → b ≤ a → a ≤ b → a ≡ b
  end a b le ge = omega (arith, le, ge)

  -- by the number of nodes that may still be opened
  grow_on : (n place : ℕ) (nodes callers : List ℕ) (seen : List Bool) → IsGrown (Calls lists) from to nodes callers seen place
      → length seen ≡ length lists → count_by (λ mark. not mark) seen + length nodes ≤ n + place → HasFound lists from to
  grow_on zero place nodes callers seen grown each fuel =
      let upto = grown.upto in
      let P : ℕ → Type 0 = λ at. IsGrown (Calls lists) from to nodes callers seen at in
      let whole : IsGrown (Calls lists) from to nodes callers seen (length nodes) =
      subst P (end place (length nodes) (omega (arith, fuel)) upto) grown in
      record { nodes = nodes; callers = callers; seen = seen; found = None; is = whole }
  grow_on (suc n) place nodes callers seen grown each fuel =
      elim (cases_lt place (length nodes)) as (λ _. HasFound lists from to) [
        | inr past ↦
            let upto = grown.upto in
            let P : ℕ → Type 0 = λ at. IsGrown (Calls lists) from to nodes callers seen at in
            let whole : IsGrown (Calls lists) from to nodes callers seen (length nodes) = subst P (end place (length nodes) past upto) grown in
            record { nodes = nodes; callers = callers; seen = seen; found = None; is = whole }
        | inl within ↦
            let node : ℕ = get_or nodes place 0 in
            let kept : HasAscending (get_or lists node []) (length lists) = ascending_of (get_or lists node []) (length lists) in
            let are : (q : ℕ) → Contains kept.kept q ↔ Calls lists node q =
            λ q. (kept.sound q, λ call. kept.all q (closed node q call) call) in
            elim (has_or_not kept.kept to) as (λ _. HasFound lists from to) [
              | inl has ↦ record { nodes = nodes; callers = callers; seen = seen; found = Some place; is = (grown, within, (are to).0 has) }
              | inr none ↦
                  let small : All (λ q. q < length seen) kept.kept = λ k d lt. let low = kept.below k d lt in omega (arith, low, each) in
                  let met : HasMet nodes callers seen place kept.kept (length kept.kept) =
                  meet_all nodes callers seen place kept.kept kept.ascending small (length kept.kept) (omega arith) in
                  let next : IsGrown (Calls lists) from to met.nodes met.callers met.seen (place + 1) =
                  meeting_done nodes callers seen place kept.kept (length kept.kept) met.nodes met.callers met.seen met.meeting (omega arith) lists from to
                  grown within are none in
                  let balance = met.meeting.balance in
                  grow_on n (place + 1) met.nodes met.callers met.seen next (met.meeting.each ∙ each) (omega (arith, balance, fuel))
            ]
      ]

  found_in : from < length lists → HasFound lists from to
  found_in lt =
      let seen : List Bool = replicate (length lists) false in
      let clear : IsClear seen = clear_start (length lists) in
      let long : length seen ≡ length lists = length-replicate (length lists) false in
      let marked : List Bool = set seen from true in
      grow_on (count_by (λ mark. not mark) marked + 1) 0 (from ∷ []) (0 ∷ []) marked
      (grown_start (Calls lists) from to seen clear (omega (arith, lt, long))) (length-set seen from true ∙ long) (omega arith)
    where
      clear_start : (count : ℕ) → IsClear (replicate count false)
      clear_start count q marked =
          elim (cases_lt q count) [
            | inl lt ↦ false≢true (sym (get_or-replicate count q false false lt) ∙ marked)
            | inr le ↦ false≢true (sym (get_or_past (replicate count false) q false (let same = length-replicate count false in omega (arith, same))) ∙ marked)
          ]

shortest_of : (lists : List (List ℕ)) (from to : ℕ) → (from ≡ to → ⊥) → (nodes callers : List ℕ) (seen : List Bool) (found : Option ℕ)
    → IsFound lists from to nodes callers seen found → (path : Option (List ℕ)) × IsShortest (Calls lists) from to path
shortest_of lists from to other nodes callers seen None grown =
    (None, path_none (Calls lists) from to other (lead_none (Calls lists) from to nodes callers seen grown))
shortest_of lists from to other nodes callers seen (Some place) found = (
  Some (path_at found.0.paths place ++ to ∷ []),
  path_least (Calls lists) from to (path_at found.0.paths place) other
      (lead_least (Calls lists) from to nodes callers seen place found.0 found.1 found.2),
)

pub some_shortest : (lists : List (List ℕ)) (p q : ℕ) → IsClosed lists → p < length lists → (path : Option (List ℕ)) × IsShortest (Calls lists) p q path
some_shortest lists p q closed lt =
    elim (cases_eq p q) as (λ _. (path : Option (List ℕ)) × IsShortest (Calls lists) p q path) [
      | inl is ↦
          let P : ℕ → Type 0 = λ each. (path : Option (List ℕ)) × IsShortest (Calls lists) p each path in
          subst P is (Some (p ∷ []), path_self (Calls lists) p)
      | inr other ↦
          let found = found_in lists closed p q lt in
          shortest_of lists p q other found.nodes found.callers found.seen found.found found.is
    ]

circuit_of : (lists : List (List ℕ)) (p : ℕ) (nodes callers : List ℕ) (seen : List Bool) (found : Option ℕ)
    → IsFound lists p p nodes callers seen found → (circuit : Option (List ℕ)) × IsCircuit (Calls lists) p circuit
circuit_of lists p nodes callers seen None grown =
    (None, circuit_none (Calls lists) p (lead_none (Calls lists) p p nodes callers seen grown))
circuit_of lists p nodes callers seen (Some place) found = (
  Some (path_at found.0.paths place),
  circuit_least (Calls lists) p (path_at found.0.paths place) (lead_least (Calls lists) p p nodes callers seen place found.0 found.1 found.2),
)

some_circuit : (lists : List (List ℕ)) (p : ℕ) → IsClosed lists → p < length lists → (circuit : Option (List ℕ)) × IsCircuit (Calls lists) p circuit
some_circuit lists p closed lt =
    let found = found_in lists closed p p lt in circuit_of lists p found.nodes found.callers found.seen found.found found.is

-- for each number of a range
listed : (P : ℕ → Option (List ℕ) → Type 0) (n : ℕ) → ((i : ℕ) → i < n → (one : Option (List ℕ)) × P i one)
    → (all : List (Option (List ℕ))) × (length all ≡ n) × ((i : ℕ) → i < n → P i (get_or all i None))
listed P zero some = ([], refl, λ i lt. absurd (omega (arith, lt)))
listed P (suc n) some =
    let rest = listed P n (λ i lt. some i (omega (arith, lt))) in
    let last = some n (omega arith) in
    let long = length_push rest.0 last.0 in
    let each = rest.1 in (
      rest.0 ++ last.0 ∷ [],
      omega (arith, long, each),
      λ i lt.
          elim (cases_eq i n) as (λ _. P i (get_or (rest.0 ++ last.0 ∷ []) i None)) [
            | inl is ↦ rw (is, get_or_push rest.0 last.0 None n each) last.1
            | inr other ↦
                rw (get_or_append_left rest.0 (last.0 ∷ []) None i (omega (arith, lt, other, each))) (rest.2 i (omega (arith, lt, other)))
          ],
    )

pub some_circuits : (lists groups : List (List ℕ)) → IsClosed lists → IsLegalOrder (Calls lists) groups
    → ((p : ℕ) → HasMember groups p → p < length lists) → (circuits : List (Option (List ℕ))) × AreCircuits (Calls lists) groups circuits
some_circuits lists groups closed legal nodes =
    let all =
    listed (λ i one. IsCircuit (Calls lists) (least_member (group_at groups i)) one) (length groups)
    (λ i lt.
    some_circuit lists (least_member (group_at groups i)) closed
    (nodes (least_member (group_at groups i)) (record { place = i; within = lt; member = least_is_member (legal.each i [] lt) }))) in
    (all.0, record { each = all.1; at = all.2 })
