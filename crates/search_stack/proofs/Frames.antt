-- The order of the frames of a stack, and who reaches whom on a good one.
use Rattle.std.proofs.Common.{◌≡◌, inl, inr, ℕ, zero, suc, ◌<◌, ◌≤◌, ◌+◌, ◌-◌, Bool, List, length, get_or, sym, ap, ◌∙◌, subst, arith}
use Rattle.std.proofs.lemmas.Bool.{cases_lt, cases_eq}
use Rattle.std.proofs.lemmas.List.{get_or_past}
use Rattle.std.proofs.lemmas.List.Elements.{Contains-get_or}
use Rattle.std.specs.Prelude.{Contains}
use Rattle.graph_law.specs.Graph.{Calls}
use Rattle.graph_law.specs.Reach.{Reaches, ReachEachOther}
use Rattle.graph_law.proofs.ReachLaws.{reaches_self, reaches_trans}
use Rattle.search_stack.specs.Stack.{Stack, IsShaped, size, height, node, succs, begun, target, position, low}
use Rattle.search_stack.specs.GoodSearch.{IsGood, IsInward}

-- past the last frame the position is the size
pub position_past : (s : Stack) (j : ℕ) → height s ≤ j → position s j ≡ size s
unfolding position height size
position_past s j past =
    ap (λ frame. frame.position) (get_or_past s.frames j (record { position = length s.entries; low = 0 }) past)

pub position_end : (s : Stack) → position s (height s) ≡ size s
position_end s = position_past s (height s) (omega arith)

-- the position of a frame, by an equal number
pub position_at : (s : Stack) (a b : ℕ) → a ≡ b → position s a ≡ position s b
position_at s a b same = ap (position s) same

position_up : {s : Stack} → IsShaped s → (a n : ℕ) → a + n ≤ height s → position s a + n ≤ position s (a + n)
position_up {s} shaped a zero le = omega (arith, position_at s (a + 0) a (omega arith))
position_up {s} shaped a (suc n) le =
    omega
    (arith, position_at s (a + suc n) (a + n + 1) (omega arith), position_up shaped a n (omega (arith, le)), shaped.rises (a + n) (omega (arith, le)))

-- a later frame stands at a later place
pub position_le : {s : Stack} → IsShaped s → (a b : ℕ) → a ≤ b → b ≤ height s → position s a + (b - a) ≤ position s b
position_le {s} shaped a b le within =
    omega (arith, position_at s (a + (b - a)) b (omega (arith, le)), position_up shaped a (b - a) (omega (arith, le, within)))

-- a frame stands at the place of an entry
pub position_within : {s : Stack} → IsShaped s → (j : ℕ) → j < height s → position s j < size s
position_within {s} shaped j lt = omega (arith, position_le shaped j (height s) (omega (arith, lt)) (omega arith), position_end s, lt)

pub segment_within : {s : Stack} → IsShaped s → (j i : ℕ) → j < height s → i < position s (j + 1) → i < size s
segment_within {s} shaped j i lt upto =
    omega (arith, position_le shaped (j + 1) (height s) (omega (arith, lt)) (omega arith), position_end s, upto)

-- an entry within a segment isn't a frame's
pub inner_is_no_frame : {s : Stack} → IsShaped s → (j i b : ℕ) → j < height s → b < height s
    → position s j < i → i < position s (j + 1) → i ≡ position s b → ⊥
inner_is_no_frame {s} shaped j i b lt within from upto is =
    elim (cases_lt j b) [
      | inl below ↦ omega (arith, position_le shaped (j + 1) b (omega (arith, below)) (omega (arith, within)), upto, is)
      | inr above ↦ omega (arith, position_le shaped b j above (omega (arith, lt)), from, is)
    ]

-- the frame at a place is the one of its segment
pub frame_of_segment : {s : Stack} → IsShaped s → (j i b : ℕ) → j < height s → b < height s
    → position s j ≤ i → i < position s (j + 1) → i ≡ position s b → j ≡ b
frame_of_segment {s} shaped j i b lt within from upto is =
    elim (cases_lt j b) [
      | inl below ↦ absurd (omega (arith, position_le shaped (j + 1) b (omega (arith, below)) (omega (arith, within)), upto, is))
      | inr above ↦
          elim (cases_eq j b) as (λ _. j ≡ b) [
            | inl same ↦ same
            | inr ne ↦ absurd (omega (arith, position_le shaped b j above (omega (arith, lt)), from, is, ne, above))
          ]
    ]

-- the place is in a segment of a frame below `past`
pub record InSegment (s : Stack) (past i : ℕ) : Type 0 where
  pub frame : ℕ
  pub below : frame < past
  pub from : position s frame ≤ i
  pub upto : i < position s (frame + 1)

-- each place below a frame is in a segment
pub segment_of : {s : Stack} → IsShaped s → (b : ℕ) → b ≤ height s → (i : ℕ) → i < position s b → InSegment s b i
segment_of {s} shaped zero le i lt = absurd (omega (arith, shaped.first, lt))
segment_of {s} shaped (suc b) le i lt =
    elim (cases_lt i (position s b)) as (λ _. InSegment s (suc b) i) [
      | inl before ↦
          let found : InSegment s b i = segment_of shaped b (omega (arith, le)) i before in
          record { frame = found.frame; below = omega (arith, found.below); from = found.from; upto = found.upto }
      | inr after ↦
          record { frame = b; below = omega arith; from = after; upto = omega (arith, lt, position_at s (suc b) (b + 1) (omega arith)) }
    ]

-- reach between nodes that are also those of other places, maybe of another stack
pub same_reach : {calls : ℕ → ℕ → Type 0} {p q r o : ℕ} → r ≡ p → o ≡ q → Reaches calls p q → Reaches calls r o
same_reach {calls} {p} {q} {r} {o} first second on =
    let P : ℕ → Type 0 = λ n. Reaches calls n q in
    let Q : ℕ → Type 0 = λ n. Reaches calls r n in
    subst Q (sym second) (subst P (sym first) on)

pub same_each_other : {calls : ℕ → ℕ → Type 0} {p q r o : ℕ} → r ≡ p → o ≡ q → ReachEachOther calls p q → ReachEachOther calls r o
same_each_other first second both =
    record { there = same_reach first second both.there; back = same_reach second first both.back }

-- the last begun edge of a frame leads to the same node on a stack that has the same entry there
pub same_last : (s t : Stack) (j b : ℕ) → position t j ≡ position s b → begun t (position s b) ≡ begun s (position s b)
    → succs t (position s b) ≡ succs s (position s b)
    → target t (position t j) (begun t (position t j) - 1) ≡ target s (position s b) (begun s (position s b) - 1)
same_last s t j b at begun_is succs_is =
    ap (λ i. target t i (begun t i - 1)) at ∙ ap (λ xs. get_or xs (begun t (position s b) - 1) 0) succs_is
    ∙ ap (λ k. get_or (succs s (position s b)) (k - 1) 0) begun_is

module _ {lists : List (List ℕ)} {roots done : List ℕ} {opened : Bool} {s : Stack} (good : IsGood lists roots done opened s) where
  -- a begun edge is a call of the graph
  pub begun_edge : (i k : ℕ) → i < size s → k < begun s i → Calls lists (node s i) (target s i k)
  begun_edge i k lt before =
      let P : List ℕ → Type 0 = λ list. Contains list (target s i k) in
      let within : k < length (succs s i) = omega (arith, before, good.shaped.begun_le i lt) in
      subst P (good.true_succs i lt) (Contains-get_or (succs s i) k 0 within)

  frame_up : (a n : ℕ) → a + n < height s → Reaches (Calls lists) (node s (position s a)) (node s (position s (a + n)))
  frame_up a zero lt =
      let P : ℕ → Type 0 = λ b. Reaches (Calls lists) (node s (position s a)) (node s (position s b)) in
      let same : a ≡ a + 0 = omega arith in
      subst P same (reaches_self (Calls lists) (node s (position s a)))
  frame_up a (suc n) lt =
      let P : ℕ → Type 0 = λ b. Reaches (Calls lists) (node s (position s a)) (node s (position s b)) in
      let same : a + n + 1 ≡ a + suc n = omega arith in
      subst P same (reaches_trans (frame_up a n (omega (arith, lt))) (good.up (a + n) (omega (arith, lt))))

  -- a frame reaches each later one
  pub frame_reaches : (a b : ℕ) → a ≤ b → b < height s → Reaches (Calls lists) (node s (position s a)) (node s (position s b))
  frame_reaches a b le lt =
      let P : ℕ → Type 0 = λ c. Reaches (Calls lists) (node s (position s a)) (node s (position s c)) in
      let same : a + (b - a) ≡ b = omega (arith, le) in
      subst P same (frame_up a (b - a) (omega (arith, le, lt)))

  -- an entry reaches the frame of its segment and each later one
  pub place_reaches : (i b : ℕ) → b < height s → i < position s (b + 1) → Reaches (Calls lists) (node s i) (node s (position s b))
  place_reaches i b lt upto =
      let found : InSegment s (b + 1) i = segment_of good.shaped (b + 1) (omega (arith, lt)) i upto in
      let within : found.frame < height s = omega (arith, found.below, lt) in
      reaches_trans (good.segment found.frame i within found.from found.upto).there
      (frame_reaches found.frame b (omega (arith, found.below)) lt)

-- where an edge leads, on another stack that has the same nodes there
pub inward_to : (done more : List ℕ) {s t : Stack} (j b : ℕ) {v w : ℕ} → ((u : ℕ) → Contains done u → Contains more u)
    → low t b ≤ low s j → position s (j + 1) ≤ position t (b + 1) → ((i : ℕ) → i < position s (j + 1) → node t i ≡ node s i)
    → w ≡ v → IsInward done s j v → IsInward more t b w
inward_to done more {s} {t} j b {v} {w} grows lower longer same is led =
    elim led as (λ _. IsInward more t b w) [
      | inl finished ↦ let P : ℕ → Type 0 = λ u. Contains more u in inl (subst P (sym is) (grows v finished))
      | inr stands ↦
          inr
          (record {
            place = stands.place;
            from = omega (arith, lower, stands.from);
            below = omega (arith, longer, stands.below);
            is = same stands.place stands.below ∙ stands.is ∙ sym is;
          })
    ]
