-- What is true of small stacks, and what isn't.
use Rattle.std.proofs.Common.{◌≡◌, inl, inr, ℕ, zero, suc, ◌+◌, ◌<◌, ◌≤◌, false, List, [], ◌∷◌, Some, None, length, refl, ap, subst, arith}
use Rattle.std.specs.Prelude.{Contains, slice_index_or}
use Rattle.graph_law.specs.Graph.{Calls}
use Rattle.graph_law.specs.Reach.{Reaches, IsReached, ReachEachOther}
use Rattle.graph_law.proofs.ReachLaws.{reaches_self, each_other_self}
use Rattle.search_stack.specs.declared.frame.Frame.{Frame}
use Rattle.search_stack.specs.Stack.{Entry, Stack, IsShaped, size, height, node, succs, begun, target, position, low}
use Rattle.search_stack.specs.GoodSearch.{IsGood, LeadsUp, IsInward, IsSettled}
use Rattle.search_stack.specs.Search.{empty_stack, pushed, next_successor, one_more_begun, lowered, retreated, IsRipe, IsReleasable}

abbrev entry : ℕ → List ℕ → ℕ → Entry
entry v list count = record { node = v; succs = list; begun = count }

abbrev frame : ℕ → ℕ → Frame
frame at least = record { position = at; low = least }

-- 0 and 1 call each other
abbrev ring : List (List ℕ)
ring = (1 ∷ []) ∷ (0 ∷ []) ∷ []

-- the stack of a search of the ring from 0 on, once both calls have begun, with this low of the second frame
abbrev ring_stack : ℕ → Stack
ring_stack least = record { entries = entry 0 (1 ∷ []) 1 ∷ entry 1 (0 ∷ []) 1 ∷ []; frames = frame 0 0 ∷ frame 1 least ∷ [] }

-- what each call of a search makes of its stack, one after another

pushes : pushed empty_stack 0 (1 ∷ []) ≡ record { entries = entry 0 (1 ∷ []) 0 ∷ []; frames = frame 0 0 ∷ [] }
unfolding pushed size
pushes = refl

begins : next_successor (pushed empty_stack 0 (1 ∷ [])) ≡ Some 1
unfolding pushed next_successor size height succs begun position
begins = refl

begins_no_more : next_successor (one_more_begun (pushed empty_stack 0 (1 ∷ [])) 0) ≡ None
unfolding pushed next_successor one_more_begun size height node succs begun position
begins_no_more = refl

pushes_on_top : one_more_begun (pushed (one_more_begun (pushed empty_stack 0 (1 ∷ [])) 0) 1 (0 ∷ [])) 1 ≡ ring_stack 1
unfolding pushed one_more_begun size node succs begun
pushes_on_top = refl

lowers : lowered (ring_stack 1) 0 ≡ ring_stack 0
unfolding lowered height position low
lowers = refl

keeps_a_lower_low : lowered (ring_stack 0) 1 ≡ ring_stack 0
unfolding lowered height position low
keeps_a_lower_low = refl

retreats : retreated (ring_stack 0) ≡ record { entries = entry 0 (1 ∷ []) 1 ∷ entry 1 (0 ∷ []) 1 ∷ []; frames = frame 0 0 ∷ [] }
unfolding retreated height position low
retreats = refl

only_member : (x p : ℕ) → Contains (x ∷ []) p → x ≡ p
only_member x p (zero, lt, at) = at
only_member x p (suc k, lt, at) = absurd (omega (arith, lt))

no_member : (p : ℕ) → Contains [] p → ⊥
no_member p (k, lt, at) = omega (arith, lt)

first_member : (x : ℕ) → Contains (x ∷ []) x
first_member x = (0, omega arith, refl)

-- the stack of the ring is good, with both calls settled and the second frame lowered

abbrev good_ring : Stack
good_ring = ring_stack 0

calls_one : Reaches (Calls ring) 0 1
calls_one = record { path = 1 ∷ []; walk = (first_member 1, refl) }

calls_zero : Reaches (Calls ring) 1 0
calls_zero = record { path = 0 ∷ []; walk = (first_member 0, refl) }

rises : (j : ℕ) → j < 2 → position good_ring j < position good_ring (j + 1)
unfolding position
rises zero lt = omega arith
rises (suc zero) lt = omega arith
rises (suc (suc j)) lt = absurd (omega (arith, lt))

lows : (j : ℕ) → j < 2 → low good_ring j ≤ position good_ring j
unfolding low position
lows zero lt = omega arith
lows (suc zero) lt = omega arith
lows (suc (suc j)) lt = absurd (omega (arith, lt))

begin_some : (j : ℕ) → j + 1 < 2 → 0 < begun good_ring (position good_ring j)
unfolding begun position
begin_some zero lt = omega arith
begin_some (suc j) lt = absurd (omega (arith, lt))

begin_few : (i : ℕ) → i < 2 → begun good_ring i ≤ length (succs good_ring i)
unfolding begun succs
begin_few zero lt = omega arith
begin_few (suc zero) lt = omega arith
begin_few (suc (suc i)) lt = absurd (omega (arith, lt))

shaped_ring : IsShaped good_ring
unfolding size height position
shaped_ring = record { first = refl; rises = rises; low_le = lows; begins = begin_some; begun_le = begin_few }

one_each : (j i : ℕ) → j < 2 → position good_ring j ≤ i → i < position good_ring (j + 1) → i ≡ j
unfolding position
one_each zero i lt le less = omega (arith, less)
one_each (suc zero) i lt le less = omega (arith, le, less)
one_each (suc (suc j)) i lt le less = absurd (omega (arith, lt))

at_place : (j : ℕ) → j < 2 → position good_ring j ≡ j
unfolding position
at_place zero lt = refl
at_place (suc zero) lt = refl
at_place (suc (suc j)) lt = absurd (omega (arith, lt))

frame_only : (j i : ℕ) → j < 2 → position good_ring j < i → i < position good_ring (j + 1) → begun good_ring i ≡ length (succs good_ring i)
frame_only j i lt less below = absurd (omega (arith, less, at_place j lt, one_each j i lt (omega (arith, less)) below))

own_segment : (j i : ℕ) → j < 2 → position good_ring j ≤ i → i < position good_ring (j + 1)
    → ReachEachOther (Calls ring) (node good_ring i) (node good_ring (position good_ring j))
own_segment j i lt le less =
    let P : ℕ → Type 0 = λ k. ReachEachOther (Calls ring) (node good_ring i) (node good_ring k) in
    let same : i ≡ position good_ring j = omega (arith, at_place j lt, one_each j i lt le less) in
    subst P same (each_other_self (Calls ring) (node good_ring i))

goes_up : (j : ℕ) → j + 1 < 2 → Reaches (Calls ring) (node good_ring (position good_ring j)) (node good_ring (position good_ring (j + 1)))
unfolding node position
goes_up zero lt = calls_one
goes_up (suc j) lt = absurd (omega (arith, lt))

goes_down : (j : ℕ) → j < 2 → Reaches (Calls ring) (node good_ring (position good_ring j)) (node good_ring (low good_ring j))
unfolding node position low
goes_down zero lt = reaches_self (Calls ring) 0
goes_down (suc zero) lt = calls_zero
goes_down (suc (suc j)) lt = absurd (omega (arith, lt))

open_below : (k : ℕ) → k < 1 → IsSettled good_ring false 0 0 k → ⊥
unfolding position begun height
open_below k lt (inl later) = omega (arith, later)
open_below k lt (inr (inl less)) = omega (arith, less)
open_below k lt (inr (inr top)) = omega (arith, top.0)

top_inward : (k : ℕ) → k < 1 → IsInward [] good_ring 1 (target good_ring 1 k)
unfolding low position node succs
top_inward zero lt = inr (record { place = 0; from = omega arith; below = omega arith; is = refl })
top_inward (suc k) lt = absurd (omega (arith, lt))

leads_inward : (j i k : ℕ) → j < 2 → position good_ring j ≤ i → i < position good_ring (j + 1) → k < begun good_ring i
    → IsSettled good_ring false j i k → IsInward [] good_ring j (target good_ring i k)
unfolding position begun
leads_inward zero zero k lt le less under settled = absurd (open_below k under settled)
leads_inward zero (suc i) k lt le less under settled = absurd (omega (arith, less))
leads_inward (suc zero) zero k lt le less under settled = absurd (omega (arith, le))
leads_inward (suc zero) (suc zero) k lt le less under settled = top_inward k under
leads_inward (suc zero) (suc (suc i)) k lt le less under settled = absurd (omega (arith, less))
leads_inward (suc (suc j)) i k lt le less under settled = absurd (omega (arith, lt))

leads_up : (j : ℕ) → j + 1 < 2 → LeadsUp good_ring j
unfolding size height position node succs begun
leads_up zero lt = record { place = 1; from = omega arith; within = omega arith; is = refl; held = λ a above below le. absurd (omega (arith, above, below)) }
leads_up (suc j) lt = absurd (omega (arith, lt))

from_root : (i : ℕ) → i < 2 → IsReached (Calls ring) (0 ∷ []) (node good_ring i)
unfolding node
from_root zero lt = record { start = 0; is_start = first_member 0; reaches = reaches_self (Calls ring) 0 }
from_root (suc zero) lt = record { start = 0; is_start = first_member 0; reaches = calls_one }
from_root (suc (suc i)) lt = absurd (omega (arith, lt))

own_succs : (i : ℕ) → i < 2 → succs good_ring i ≡ slice_index_or ring (node good_ring i) []
unfolding node succs
own_succs zero lt = refl
own_succs (suc zero) lt = refl
own_succs (suc (suc i)) lt = absurd (omega (arith, lt))

ring_is_good : IsGood ring (0 ∷ []) [] false good_ring
unfolding size height
ring_is_good = record {
  shaped = shaped_ring;
  begun_all = frame_only;
  segment = own_segment;
  up = goes_up;
  down = goes_down;
  inward = leads_inward;
  leads = leads_up;
  reached = from_root;
  true_succs = own_succs;
}

-- where the call back to 0 didn't lower the second frame, the search isn't good: 1 would be released without 0

stands_late : (place : ℕ) → 1 ≤ place → place < 2 → node (ring_stack 1) place ≡ 0 → ⊥
unfolding node
stands_late zero le lt is = omega (arith, le)
stands_late (suc zero) le lt is = omega (arith, is)
stands_late (suc (suc place)) le lt is = omega (arith, lt)

no_inward : IsInward [] (ring_stack 1) 1 0 → ⊥
unfolding low position
no_inward (inl done) = no_member 0 done
no_inward (inr stands) = stands_late stands.place stands.from stands.below stands.is

forgotten_low : (roots : List ℕ) → IsGood ring roots [] false (ring_stack 1) → ⊥
unfolding size height position succs begun
forgotten_low roots good =
    no_inward (good.inward 1 1 0 (omega arith) (omega arith) (omega arith) (omega arith) (inr (inr (refl, refl))))

-- nor is it where a finished node wasn't told

abbrev alone : Stack
alone = record { entries = entry 0 (1 ∷ []) 1 ∷ []; frames = frame 0 0 ∷ [] }

not_there : (place : ℕ) → place < 1 → node alone place ≡ 1 → ⊥
unfolding node
not_there zero lt is = omega (arith, is)
not_there (suc place) lt is = omega (arith, lt)

none_inward : IsInward [] alone 0 1 → ⊥
unfolding low position
none_inward (inl done) = no_member 1 done
none_inward (inr stands) = not_there stands.place stands.below stands.is

left_for_unfinished : (roots : List ℕ) → IsGood ((1 ∷ []) ∷ [] ∷ []) roots [] false alone → ⊥
unfolding size height position succs begun
left_for_unfinished roots good = none_inward (good.inward 0 0 0 (omega arith) (omega arith) (omega arith) (omega arith) (inr (inr (refl, refl))))

-- nor where an entry has other successors than the graph

no_successors : (list : List ℕ) → list ≡ [] → list ≡ 0 ∷ [] → ⊥
no_successors list none some = let same : length list ≡ 0 = ap length none in let more : length list ≡ 1 = ap length some in omega (arith, same, more)

other_successors : (roots : List ℕ) → IsGood ((0 ∷ []) ∷ []) roots [] false (record { entries = entry 0 [] 0 ∷ []; frames = frame 0 0 ∷ [] }) → ⊥
unfolding size node succs
other_successors roots good = no_successors [] refl (good.true_succs 0 (omega arith))

-- a low above its frame is no stack, nor is one that counts more begun than there are

low_above : IsShaped (record { entries = entry 0 [] 0 ∷ []; frames = frame 0 1 ∷ [] }) → ⊥
unfolding height position low
low_above shaped = omega (arith, shaped.low_le 0 (omega arith))

begun_too_many : IsShaped (record { entries = entry 0 [] 1 ∷ []; frames = frame 0 0 ∷ [] }) → ⊥
unfolding size succs begun
begun_too_many shaped = omega (arith, shaped.begun_le 0 (omega arith))

-- a segment is ripe where its low is its position; that of the ring isn't before the retreat

ring_unripe : IsRipe (ring_stack 0) → ⊥
unfolding height position low
ring_unripe ripe = omega (arith, ripe.low_is)

-- half a ring can't be released, nor a node before what it calls

half_a_ring : (roots : List ℕ) → IsReleasable ring roots [] (0 ∷ []) → ⊥
half_a_ring roots group = elim (group.calls 0 1 (first_member 0) (first_member 1)) [ inl own ↦ omega (arith, only_member 0 1 own) | inr done ↦ no_member 1 done ]

nothing_released : (roots : List ℕ) → IsReleasable ring roots [] [] → ⊥
nothing_released roots group = omega (arith, group.inhabited)
