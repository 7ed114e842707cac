-- What is true of small graphs and of orders of their groups, and what isn't.
use Rattle.std.proofs.Common.{◌≡◌, inl, inr, ℕ, zero, suc, ◌<◌, ◌≤◌, List, [], ◌∷◌, refl, subst, sym, arith}
use Rattle.std.specs.Prelude.{Contains}
use Rattle.graph_law.specs.Graph.{Calls, IsClosed, IsGraph}
use Rattle.graph_law.specs.Reach.{IsWalk, Reaches, IsReached, ReachEachOther}
use Rattle.graph_law.specs.Classes.{HasMember, IsClass, AreClasses, IsRecursive, GroupCalls, group_at}
use Rattle.graph_law.specs.Heights.{HaveHeights}
use Rattle.graph_law.specs.LegalOrder.{IsLegalOrder, IsComplete}

-- 0 calls 1, which calls nothing
abbrev chain : List (List ℕ)
chain = (1 ∷ []) ∷ [] ∷ []

-- 0 and 1 call each other
abbrev ring : List (List ℕ)
ring = (1 ∷ []) ∷ (0 ∷ []) ∷ []

-- 0 calls itself
abbrev loop : List (List ℕ)
loop = (0 ∷ []) ∷ []

abbrev just : ℕ → List ℕ
just node = node ∷ []

only_member : (x p : ℕ) → Contains (x ∷ []) p → x ≡ p
only_member x p (zero, lt, at) = at
only_member x p (suc k, lt, at) = absurd (omega (arith, lt))

no_member : (p : ℕ) → Contains [] p → ⊥
no_member p (k, lt, at) = omega (arith, lt)

first_member : (x : ℕ) → Contains (x ∷ []) x
first_member x = (0, omega arith, refl)

-- reach: a node itself, what it calls, and round a ring; but not against a call

reaches_itself : Reaches (Calls chain) 1 1
reaches_itself = record { path = []; walk = refl }

reaches_its_callee : Reaches (Calls chain) 0 1
reaches_its_callee = record { path = 1 ∷ []; walk = (first_member 1, refl) }

reaches_round : Reaches (Calls ring) 0 0
reaches_round = record { path = 1 ∷ 0 ∷ []; walk = (first_member 1, (first_member 0, refl)) }

no_walk_back : (path : List ℕ) → IsWalk (Calls chain) 1 path 0 → ⊥
no_walk_back [] is = omega (arith, is)
no_walk_back (n ∷ path) walk = no_member n walk.0

reaches_no_caller : Reaches (Calls chain) 1 0 → ⊥
reaches_no_caller back = no_walk_back back.path back.walk

-- a root is reached, and what it calls; but no caller of it

reached_root : IsReached (Calls chain) (just 0) 0
reached_root = record { start = 0; is_start = first_member 0; reaches = record { path = []; walk = refl } }

reached_callee : IsReached (Calls chain) (just 0) 1
reached_callee = record { start = 0; is_start = first_member 0; reaches = reaches_its_callee }

unreached_from : (start : ℕ) → 1 ≡ start → Reaches (Calls chain) start 0 → ⊥
unreached_from start is on = reaches_no_caller (let P : ℕ → Type 0 = λ k. Reaches (Calls chain) k 0 in subst P (sym is) on)

caller_unreached : IsReached (Calls chain) (just 1) 0 → ⊥
caller_unreached reached = unreached_from reached.start (only_member 1 reached.start reached.is_start) reached.reaches

-- successors that are nodes; but not one past the last

one_past : IsClosed ((1 ∷ []) ∷ []) → ⊥
one_past closed = omega (arith, closed 0 1 (first_member 1))

root_past : IsGraph (record { lists = chain; roots = just 2 }) → ⊥
root_past graph = omega (arith, graph.rooted 0 0 (omega arith))

-- the ring is one class; but half of it is none, nor are two nodes of the chain, nor a class that descends

half_a_ring : IsClass (Calls ring) (just 0) → ⊥
half_a_ring class =
    let both : ReachEachOther (Calls ring) 0 1 = record {
      there = record { path = just 1; walk = (first_member 1, refl) };
      back = record { path = just 0; walk = (first_member 0, refl) };
    } in
    omega (arith, only_member 0 1 (class.whole 0 1 (first_member 0) both))

two_of_the_chain : IsClass (Calls chain) (0 ∷ 1 ∷ []) → ⊥
two_of_the_chain class = reaches_no_caller (class.mutual_reach 0 1 (0, omega arith, refl) (1, omega arith, refl)).back

descending : IsClass (Calls ring) (1 ∷ 0 ∷ []) → ⊥
descending class = omega (arith, class.ascending 0 (omega arith))

no_nodes : IsClass (Calls ring) [] → ⊥
no_nodes class = omega (arith, class.inhabited)

-- what the roots don't reach is in no class, and what they reach is

too_much_listed : AreClasses (Calls chain) (just 1) (just 0 ∷ just 1 ∷ []) → ⊥
too_much_listed are = caller_unreached (are.reached 0 (record { place = 0; within = omega arith; member = first_member 0 }))

not_in_one_of_one : (place : ℕ) → place < 1 → Contains (group_at (just 0 ∷ []) place) 1 → ⊥
not_in_one_of_one zero lt member = omega (arith, only_member 0 1 member)
not_in_one_of_one (suc place) lt member = omega (arith, lt)

too_little_listed : AreClasses (Calls chain) (just 0) (just 0 ∷ []) → ⊥
too_little_listed are = let has : HasMember (just 0 ∷ []) 1 = are.all 1 reached_callee in not_in_one_of_one has.place has.within has.member

-- two nodes are recursive, and one that calls itself; but not one that doesn't

ring_recursive : IsRecursive (Calls ring) (0 ∷ 1 ∷ [])
ring_recursive = inl (omega arith)

loop_recursive : IsRecursive (Calls loop) (just 0)
loop_recursive = inr (refl, first_member 0)

chain_not_recursive : IsRecursive (Calls chain) (just 0) → ⊥
chain_not_recursive (inl two) = omega (arith, two)
chain_not_recursive (inr own) = omega (arith, only_member 1 0 own.1)

-- a caller is higher than what it calls, by one alone

abbrev chain_groups : List (List ℕ)
chain_groups = just 1 ∷ just 0 ∷ []

chain_calls : GroupCalls (Calls chain) chain_groups 1 0
chain_calls = record {
  caller = 0;
  callee = 1;
  caller_within = omega arith;
  callee_within = omega arith;
  other = λ is. omega (arith, is);
  is_caller = first_member 0;
  is_callee = first_member 1;
  call = first_member 1;
}

as_high : HaveHeights (Calls chain) chain_groups (0 ∷ 0 ∷ []) → ⊥
as_high heights = omega (arith, heights.above 1 0 chain_calls)

higher_than_nothing : HaveHeights (Calls []) (just 0 ∷ []) (just 1) → ⊥
higher_than_nothing heights = elim (heights.least 0 (omega arith)) [ inl is ↦ omega (arith, is) | inr calls ↦ omega (arith, no_member calls.1.callee calls.1.call) ]

-- a caller may not stand before what it calls, nor a node in two groups; each root must be there

callee_late : (place : ℕ) → place ≤ 0 → Contains (group_at (just 0 ∷ just 1 ∷ []) place) 1 → ⊥
callee_late zero le member = omega (arith, only_member 0 1 member)
callee_late (suc place) le member = omega (arith, le)

caller_first : IsLegalOrder (Calls chain) (just 0 ∷ just 1 ∷ []) → ⊥
caller_first legal =
    let stands = legal.callees_first 0 0 1 (omega arith) (first_member 0) (first_member 1) in callee_late stands.place stands.upto stands.member

group_twice : IsLegalOrder (Calls chain) (just 1 ∷ just 1 ∷ []) → ⊥
group_twice legal = omega (arith, legal.once 0 1 1 (omega arith) (omega arith) (first_member 1) (first_member 1))

root_there : IsComplete (just 1) chain_groups
root_there zero d lt = record { place = 0; within = omega arith; member = first_member 1 }
root_there (suc k) d lt = absurd (omega (arith, lt))

root_missing : IsComplete (just 1) (just 0 ∷ []) → ⊥
root_missing complete = let has : HasMember (just 0 ∷ []) 1 = complete 0 0 (omega arith) in not_in_one_of_one has.place has.within has.member
