-- The upper part of a good search, from where it is cut at the wanted node, keeps the search good that it comes on top of.
use Rattle.std.proofs.Common.{◌≡◌, inl, inr, ℕ, zero, suc, ◌<◌, ◌≤◌, ◌+◌, ◌-◌, Bool, true, true≢false, List, [], length, get_or, refl, ap, ◌∙◌, sym, subst, arith}
use Rattle.std.proofs.lemmas.Bool.{cases_lt, cases_eq}
use Rattle.std.specs.Prelude.{Contains}
use Rattle.graph_law.specs.Graph.{Calls}
use Rattle.graph_law.specs.Reach.{Reaches, IsReached, ReachEachOther}
use Rattle.graph_law.proofs.ReachLaws.{reaches_self, reaches_call, reaches_trans}
use Rattle.search_stack.specs.Stack.{Stack, IsShaped, size, height, top, node, succs, begun, target, position, low}
use Rattle.search_stack.specs.GoodSearch.{IsGood, IsSettled, IsInward, LeadsUp, Dips}
use Rattle.search_stack.specs.Search.{IsCut, IsLastBegun}
use Rattle.search_stack.proofs.Changes.{Joins}
use Rattle.search_stack.proofs.Frames.{InSegment, segment_of, same_last, position_end, position_at, position_le, position_within, segment_within, frame_reaches, same_reach, same_each_other, begun_edge, inward_to}

-- where no frame from this one on dips, no low from it on is below its position
pub lows_from : {d : Stack} {frame : ℕ} → (Dips d frame → ⊥) → (c : ℕ) → frame ≤ c → c < height d → position d frame ≤ low d c
lows_from {d} {frame} lawful c from within =
    elim (cases_lt (low d c) (position d frame)) as (λ _. position d frame ≤ low d c) [
      | inl below ↦ absurd (lawful (record { frame = c; from = from; within = within; is = below }))
      | inr le ↦ le
    ]

-- the place in the segment of a frame at or above the cut
pub cut_segment : {d : Stack} {v frame : ℕ} → IsShaped d → (cut : IsCut d v frame) → (found : InSegment d (height d) cut.place) × (frame ≤ found.frame)
cut_segment {d} {v} {frame} shaped cut =
    let found : InSegment d (height d) cut.place =
    segment_of shaped (height d) (omega arith) cut.place (omega (arith, cut.on, position_end d)) in (
      found,
      elim (cases_lt found.frame frame) as (λ _. frame ≤ found.frame) [
        | inl below ↦
            absurd
            (omega (
              arith,
              position_le shaped (found.frame + 1) frame (omega (arith, below)) (omega (arith, cut.within)),
              found.upto,
              cut.at_or_below,
            ))
        | inr le ↦ le
      ],
    )

-- frames that dip lead down to a frame from which on none does
module _ {lists : List (List ℕ)} {roots done : List ℕ} {opened : Bool} {d : Stack} (good : IsGood lists roots done opened d) (a : ℕ)
    (lows : (c : ℕ) → a ≤ c → c < height d → position d a ≤ low d c) where
  pub held_down : (n k : ℕ) → a ≤ k → k ≤ a + n → k < height d → ((b : ℕ) → a < b → b ≤ k → Dips d b)
      → Reaches (Calls lists) (node d (position d k)) (node d (position d a))
  held_down zero k from upto within dips =
      let is : k ≡ a = omega (arith, from, upto) in
      same_reach (ap (λ b. node d (position d b)) is) refl (reaches_self (Calls lists) (node d (position d a)))
  held_down (suc n) k from upto within dips =
      elim (cases_eq k a) as (λ _. Reaches (Calls lists) (node d (position d k)) (node d (position d a))) [
        | inl is ↦ same_reach (ap (λ b. node d (position d b)) is) refl (reaches_self (Calls lists) (node d (position d a)))
        | inr ne ↦
            let dip : Dips d k = dips k (omega (arith, from, ne)) (omega arith) in
            let place : ℕ = low d dip.frame in
            let found : InSegment d k place = segment_of good.shaped k (omega (arith, within)) place dip.is in
            let low_from : position d a ≤ place = lows dip.frame (omega (arith, from, dip.from)) dip.within in
            let above : a ≤ found.frame =
            elim (cases_lt found.frame a) as (λ _. a ≤ found.frame) [
              | inl below ↦
                  absurd
                  (omega (
                    arith,
                    position_le good.shaped (found.frame + 1) a (omega (arith, below)) (omega (arith, from, within)),
                    found.upto,
                    low_from,
                  ))
              | inr le ↦ le
            ] in
            reaches_trans (frame_reaches good k dip.frame dip.from dip.within)
            (reaches_trans (good.down dip.frame dip.within)
            (reaches_trans
            (good.segment found.frame place (omega (arith, found.below, within)) found.from found.upto).there
            (held_down n found.frame above (omega (arith, found.below, upto)) (omega (arith, found.below, within))
            (λ b after le. dips b after (omega (arith, le, found.below))))))
      ]

module _ {s d t : Stack} {v frame : ℕ} (shaped : IsShaped s) (upper : IsShaped d) (last : IsLastBegun s v) (cut : IsCut d v frame)
    (new : Joins s d t frame) where
  base_at : position t (height s) ≡ size s
  base_at = omega (arith, new.position_new (height s) frame refl (omega arith) (omega (arith, new.within)))

  position_low : (j : ℕ) → j ≤ height s → position t j ≡ position s j
  position_low j le =
      elim (cases_lt j (height s)) as (λ _. position t j ≡ position s j) [
        | inl lt ↦ new.position_is j lt
        | inr past ↦
            let is : j ≡ height s = omega (arith, le, past) in
            position_at t j (height s) is ∙ base_at ∙ sym (position_end s) ∙ position_at s (height s) j (sym is)
      ]

  -- the frame of d that new frame j was
  record IsFrame (j : ℕ) : Type 0 where
    was : ℕ
    at : j + frame ≡ height s + was
    from : frame ≤ was
    below : was < height d

  frame_new : (j : ℕ) → height s ≤ j → j < height t → IsFrame j
  frame_new j past lt = record {
    was = frame + (j - height s);
    at = omega (arith, past);
    from = omega arith;
    below = omega (arith, past, lt, new.height_is);
  }

  position_up : (j : ℕ) → (is : IsFrame j) → position t j + position d frame ≡ size s + position d is.was
  position_up j is = new.position_new j is.was is.at is.from (omega (arith, is.below))

  next_up : (j : ℕ) → (is : IsFrame j) → position t (j + 1) + position d frame ≡ size s + position d (is.was + 1)
  next_up j is = new.position_new (j + 1) (is.was + 1) (omega (arith, is.at)) (omega (arith, is.from)) (omega (arith, is.below))

  above_cut : (b : ℕ) → frame ≤ b → b ≤ height d → position d frame ≤ position d b
  above_cut b from le = omega (arith, position_le upper frame b from le)

  lows : (c : ℕ) → frame ≤ c → c < height d → position d frame ≤ low d c
  lows = lows_from cut.lawful

  low_up : (j : ℕ) → (is : IsFrame j) → low t j + position d frame ≡ size s + low d is.was
  low_up j is = new.low_new j is.was is.at is.from is.below (lows is.was is.from is.below)

  -- the place of d that new place i was
  record IsPlace (i : ℕ) : Type 0 where
    was : ℕ
    at : i + position d frame ≡ size s + was
    from : position d frame ≤ was
    below : was < size d

  place_new : (i : ℕ) → size s ≤ i → i < size t → IsPlace i
  place_new i past lt = record {
    was = position d frame + (i - size s);
    at = omega (arith, past);
    from = omega arith;
    below = omega (arith, past, lt, new.size_is);
  }

  node_up : (i : ℕ) → (is : IsPlace i) → node t i ≡ node d is.was
  node_up i is = new.node_new i is.was is.at is.from is.below

  frame_node_low : (j : ℕ) → j < height s → node t (position t j) ≡ node s (position s j)
  frame_node_low j lt = ap (node t) (new.position_is j lt) ∙ new.node_is (position s j) (position_within shaped j lt)

  frame_node_up : (j : ℕ) → (is : IsFrame j) → node t (position t j) ≡ node d (position d is.was)
  frame_node_up j is =
      new.node_new (position t j) (position d is.was) (position_up j is) (above_cut is.was is.from (omega (arith, is.below)))
      (position_within upper is.was is.below)

  frame_begun_up : (j : ℕ) → (is : IsFrame j) → begun t (position t j) ≡ begun d (position d is.was)
  frame_begun_up j is =
      new.begun_new (position t j) (position d is.was) (position_up j is) (above_cut is.was is.from (omega (arith, is.below)))
      (position_within upper is.was is.below)

  frame_succs_up : (j : ℕ) → (is : IsFrame j) → succs t (position t j) ≡ succs d (position d is.was)
  frame_succs_up j is =
      new.succs_new (position t j) (position d is.was) (position_up j is) (above_cut is.was is.from (omega (arith, is.below)))
      (position_within upper is.was is.below)

  -- new place i in new segment j was in segment `was j` of d
  record IsIn (j i : ℕ) (of : IsFrame j) : Type 0 where
    place : ℕ
    at : i + position d frame ≡ size s + place
    from : position d of.was ≤ place
    upto : place < position d (of.was + 1)
    cut_from : position d frame ≤ place
    below : place < size d

  in_segment : (j i : ℕ) → (of : IsFrame j) → position t j ≤ i → i < position t (j + 1) → IsIn j i of
  in_segment j i of from upto =
      let low_at : position d frame ≤ position d of.was = above_cut of.was of.from (omega (arith, of.below)) in
      let here : position t j + position d frame ≡ size s + position d of.was = position_up j of in
      let next : position t (j + 1) + position d frame ≡ size s + position d (of.was + 1) = next_up j of in
      let past : size s ≤ i = omega (arith, low_at, here, from) in
      let end : position d (of.was + 1) ≤ size d =
      omega (arith, position_le upper (of.was + 1) (height d) (omega (arith, of.below)) (omega arith), position_end d) in
      record {
        place = position d frame + (i - size s);
        at = omega (arith, past);
        from = omega (arith, here, from, past, low_at);
        upto = omega (arith, next, upto, past);
        cut_from = omega arith;
        below = omega (arith, next, upto, past, end);
      }

  low_segment : (j i : ℕ) → j < height s → i < position t (j + 1) → i < position s (j + 1)
  low_segment j i lt upto = omega (arith, upto, position_low (j + 1) (omega (arith, lt)))

  low_from : (j i : ℕ) → j < height s → position t j ≤ i → position s j ≤ i
  low_from j i lt from = omega (arith, from, new.position_is j lt)

  pub shaped_join : IsShaped t
  shaped_join = record {
    first = new.position_is 0 last.some ∙ shaped.first;
    rises = λ j lt.
        elim (cases_lt j (height s)) [
          | inl old ↦ omega (arith, new.position_is j old, position_low (j + 1) (omega (arith, old)), shaped.rises j old)
          | inr past ↦
              let of : IsFrame j = frame_new j past lt in
              omega (arith, position_up j of, next_up j of, upper.rises of.was of.below)
        ];
    low_le = λ j lt.
        elim (cases_lt j (height s)) [
          | inl old ↦ omega (arith, new.position_is j old, new.low_is j old, shaped.low_le j old)
          | inr past ↦
              let of : IsFrame j = frame_new j past lt in
              omega (arith, position_up j of, low_up j of, upper.low_le of.was of.below)
        ];
    begins = λ j lt.
        elim (cases_lt j (height s)) [
          | inl old ↦
              let same : begun t (position t j) ≡ begun s (position s j) =
              ap (begun t) (new.position_is j old) ∙ new.begun_is (position s j) (position_within shaped j old) in
              elim (cases_lt (j + 1) (height s)) [
                | inl below ↦ omega (arith, same, shaped.begins j below)
                | inr le ↦
                    let is : j ≡ top s = omega (arith, le, old) in
                    omega (arith, same, last.begins, ap (λ b. begun s (position s b)) is)
              ]
          | inr past ↦
              let of : IsFrame j = frame_new j past (omega (arith, lt)) in
              omega (arith, frame_begun_up j of, upper.begins of.was (omega (arith, of.at, lt, new.height_is)))
        ];
    begun_le = λ i lt.
        elim (cases_lt i (size s)) [
          | inl old ↦ omega (arith, new.begun_is i old, ap length (new.succs_is i old), shaped.begun_le i old)
          | inr past ↦
              let at : IsPlace i = place_new i past lt in
              omega (
                arith,
                new.begun_new i at.was at.at at.from at.below,
                ap length (new.succs_new i at.was at.at at.from at.below),
                upper.begun_le at.was at.below,
              )
        ];
  }

  -- a frame of d that dips still does
  dips_up : (a : ℕ) → (is : IsFrame a) → Dips d is.was → Dips t a
  dips_up a is dips =
      let j : ℕ = height s + (dips.frame - frame) in
      let of : IsFrame j =
      record { was = dips.frame; at = omega (arith, is.from, dips.from); from = omega (arith, is.from, dips.from); below = dips.within } in
      record {
        frame = j;
        from = omega (arith, is.at, is.from, dips.from);
        within = omega (arith, is.from, dips.from, dips.within, new.height_is);
        is = omega (arith, low_up j of, position_up a is, dips.is);
      }

  module _ {lists : List (List ℕ)} {roots done : List ℕ} {opened : Bool} (good : IsGood lists roots done true s)
      (other : IsGood lists roots done opened d) where
    -- the wanted node reaches the frame of the cut
    wanted_reaches : Reaches (Calls lists) v (node d (position d frame))
    wanted_reaches =
        let found : InSegment d (height d) cut.place = (cut_segment upper cut).0 in
        let from : frame ≤ found.frame = (cut_segment upper cut).1 in
        same_reach (sym cut.is) refl
        (reaches_trans (other.segment found.frame cut.place found.below found.from found.upto).there
        (held_down other frame lows (found.frame - frame) found.frame from (omega (arith, from)) found.below
        (λ b after le.
        cut.greatest b after (omega (arith, le, found.below))
        (omega (arith, position_le upper b found.frame le (omega (arith, found.below)), found.from)))))

    last_call : (j : ℕ) → j + 1 ≡ height s → Calls lists (node s (position s j)) v
    last_call j is =
        let at : top s ≡ j = omega (arith, is) in
        let P : ℕ → Type 0 = λ b. Calls lists (node s (position s b)) v in
        let Q : ℕ → Type 0 = λ u. Calls lists (node s (position s (top s))) u in
        subst P at
        (subst Q last.is
        (begun_edge good (position s (top s)) (begun s (position s (top s)) - 1) (position_within shaped (top s) (omega (arith, last.some)))
        (omega (arith, last.begins))))

    join_begun_all : (j i : ℕ) → j < height t → position t j < i → i < position t (j + 1) → begun t i ≡ length (succs t i)
    join_begun_all j i lt from upto =
        elim (cases_lt j (height s)) as (λ _. begun t i ≡ length (succs t i)) [
          | inl old ↦
              let end : i < position s (j + 1) = low_segment j i old upto in
              let within : i < size s = segment_within shaped j i old end in
              omega (
                arith,
                good.begun_all j i old (omega (arith, from, new.position_is j old)) end,
                new.begun_is i within,
                ap length (new.succs_is i within),
              )
          | inr past ↦
              let of : IsFrame j = frame_new j past lt in
              let inside : IsIn j i of = in_segment j i of (omega (arith, from)) upto in
              omega (
                arith,
                other.begun_all of.was inside.place of.below (omega (arith, from, position_up j of, inside.at)) inside.upto,
                new.begun_new i inside.place inside.at inside.cut_from inside.below,
                ap length (new.succs_new i inside.place inside.at inside.cut_from inside.below),
              )
        ]

    join_segment : (j i : ℕ) → j < height t → position t j ≤ i → i < position t (j + 1)
        → ReachEachOther (Calls lists) (node t i) (node t (position t j))
    join_segment j i lt from upto =
        elim (cases_lt j (height s)) as (λ _. ReachEachOther (Calls lists) (node t i) (node t (position t j))) [
          | inl old ↦
              let end : i < position s (j + 1) = low_segment j i old upto in
              same_each_other (new.node_is i (segment_within shaped j i old end)) (frame_node_low j old)
              (good.segment j i old (low_from j i old from) end)
          | inr past ↦
              let of : IsFrame j = frame_new j past lt in
              let inside : IsIn j i of = in_segment j i of from upto in
              same_each_other (new.node_new i inside.place inside.at inside.cut_from inside.below) (frame_node_up j of)
              (other.segment of.was inside.place of.below inside.from inside.upto)
        ]

    join_up : (j : ℕ) → j + 1 < height t → Reaches (Calls lists) (node t (position t j)) (node t (position t (j + 1)))
    join_up j lt =
        elim (cases_lt (j + 1) (height s)) as (λ _. Reaches (Calls lists) (node t (position t j)) (node t (position t (j + 1)))) [
          | inl below ↦ same_reach (frame_node_low j (omega (arith, below))) (frame_node_low (j + 1) below) (good.up j below)
          | inr le ↦
              let next : IsFrame (j + 1) = frame_new (j + 1) le lt in
              elim (cases_lt j (height s)) as (λ _. Reaches (Calls lists) (node t (position t j)) (node t (position t (j + 1)))) [
                | inl old ↦
                    let is : j + 1 ≡ height s = omega (arith, le, old) in
                    let first : next.was ≡ frame = omega (arith, next.at, is) in
                    same_reach (frame_node_low j old) (frame_node_up (j + 1) next ∙ ap (λ b. node d (position d b)) first)
                    (reaches_trans (reaches_call (Calls lists) (node s (position s j)) v (last_call j is)) wanted_reaches)
                | inr past ↦
                    let of : IsFrame j = frame_new j past (omega (arith, lt)) in
                    let is : next.was ≡ of.was + 1 = omega (arith, next.at, of.at) in
                    same_reach (frame_node_up j of) (frame_node_up (j + 1) next ∙ ap (λ b. node d (position d b)) is)
                    (other.up of.was (omega (arith, is, next.below)))
              ]
        ]

    join_down : (j : ℕ) → j < height t → Reaches (Calls lists) (node t (position t j)) (node t (low t j))
    join_down j lt =
        elim (cases_lt j (height s)) as (λ _. Reaches (Calls lists) (node t (position t j)) (node t (low t j))) [
          | inl old ↦
              let within : low s j < size s = omega (arith, shaped.low_le j old, position_within shaped j old) in
              same_reach (frame_node_low j old) (ap (node t) (new.low_is j old) ∙ new.node_is (low s j) within) (good.down j old)
          | inr past ↦
              let of : IsFrame j = frame_new j past lt in
              same_reach (frame_node_up j of)
              (new.node_new (low t j) (low d of.was) (low_up j of) (lows of.was of.from of.below)
              (omega (arith, upper.low_le of.was of.below, position_within upper of.was of.below)))
              (other.down of.was of.below)
        ]

    join_inward : (j i k : ℕ) → j < height t → position t j ≤ i → i < position t (j + 1) → k < begun t i → IsSettled t true j i k
        → IsInward done t j (target t i k)
    join_inward j i k lt from upto before settled =
        elim (cases_lt j (height s)) as (λ _. IsInward done t j (target t i k)) [
          | inl old ↦
              let end : i < position s (j + 1) = low_segment j i old upto in
              let within : i < size s = segment_within shaped j i old end in
              let was : IsSettled s true j i k =
              elim settled as (λ _. IsSettled s true j i k) [
                | inl inner ↦ inl (omega (arith, inner, new.position_is j old))
                | inr outer ↦
                    elim outer as (λ _. IsSettled s true j i k)
                    [ inl earlier ↦ inr (inl (omega (arith, earlier, new.begun_is i within))) | inr is ↦ absurd (true≢false is.1) ]
              ] in
              inward_to done done j j (λ u is. is) (omega (arith, new.low_is j old)) (omega (arith, position_low (j + 1) (omega (arith, old))))
              (λ b lt_end. new.node_is b (segment_within shaped j b old lt_end)) (ap (λ xs. get_or xs k 0) (new.succs_is i within))
              (good.inward j i k old (low_from j i old from) end (omega (arith, before, new.begun_is i within)) was)
          | inr past ↦
              let of : IsFrame j = frame_new j past lt in
              let inside : IsIn j i of = in_segment j i of from upto in
              let here : begun t i ≡ begun d inside.place = new.begun_new i inside.place inside.at inside.cut_from inside.below in
              let leads_to : target t i k ≡ target d inside.place k =
              ap (λ xs. get_or xs k 0) (new.succs_new i inside.place inside.at inside.cut_from inside.below) in
              let was : IsSettled d opened of.was inside.place k =
              elim settled as (λ _. IsSettled d opened of.was inside.place k) [
                | inl inner ↦ inl (omega (arith, inner, position_up j of, inside.at))
                | inr outer ↦
                    elim outer as (λ _. IsSettled d opened of.was inside.place k)
                    [ inl earlier ↦ inr (inl (omega (arith, earlier, here))) | inr is ↦ absurd (true≢false is.1) ]
              ] in
              elim
              (other.inward of.was inside.place k of.below inside.from inside.upto (omega (arith, before, here)) was) as (λ _. IsInward done t j (target t i k)) [
                | inl finished ↦ let P : ℕ → Type 0 = λ u. Contains done u in inl (subst P (sym leads_to) finished)
                | inr stands ↦
                    let place : ℕ = size s + (stands.place - position d frame) in
                    let high : position d frame ≤ stands.place = omega (arith, lows of.was of.from of.below, stands.from) in
                    let at : place + position d frame ≡ size s + stands.place = omega (arith, high) in
                    let end : stands.place < size d = segment_within upper of.was stands.place of.below stands.below in
                    inr
                    (record {
                      place = place;
                      from = omega (arith, low_up j of, at, stands.from);
                      below = omega (arith, next_up j of, at, stands.below);
                      is = new.node_new place stands.place at high end ∙ stands.is ∙ sym leads_to;
                    })
              ]
        ]

    join_leads : (j : ℕ) → j + 1 < height t → LeadsUp t j
    join_leads j lt =
        elim (cases_lt j (height s)) as (λ _. LeadsUp t j) [
          | inl old ↦
              let inside : position s j < size s = position_within shaped j old in
              let same : target t (position t j) (begun t (position t j) - 1) ≡ target s (position s j) (begun s (position s j) - 1) =
              same_last s t j j (new.position_is j old) (new.begun_is (position s j) inside) (new.succs_is (position s j) inside) in
              elim (cases_lt (j + 1) (height s)) as (λ _. LeadsUp t j) [
                | inl below ↦
                    let was : LeadsUp s j = good.leads j below in
                    record {
                      place = was.place;
                      from = omega (arith, was.from, new.position_is (j + 1) below);
                      within = omega (arith, was.within, new.size_is, position_within upper frame cut.within);
                      is = new.node_is was.place was.within ∙ was.is ∙ sym same;
                      held = λ a above inside_t upto.
                          elim (cases_lt a (height s)) as (λ _. Dips t a) [
                            | inl a_old ↦
                                let dips : Dips s a = was.held a above a_old (omega (arith, upto, new.position_is a a_old)) in
                                record {
                                  frame = dips.frame;
                                  from = dips.from;
                                  within = omega (arith, dips.within, new.height_is, cut.within);
                                  is = omega (arith, dips.is, new.low_is dips.frame dips.within, new.position_is a a_old);
                                }
                            | inr a_past ↦
                                let of : IsFrame a = frame_new a a_past inside_t in
                                absurd
                                (omega (arith, upto, was.within, position_up a of, above_cut of.was of.from (omega (arith, of.below))))
                          ];
                    }
                | inr le ↦
                    let is : j + 1 ≡ height s = omega (arith, le, old) in
                    let place : ℕ = size s + (cut.place - position d frame) in
                    let at : place + position d frame ≡ size s + cut.place = omega (arith, cut.at_or_below) in
                    let top_is : top s ≡ j = omega (arith, is) in
                    let P : ℕ → Type 0 = λ b. target s (position s b) (begun s (position s b) - 1) ≡ v in
                    record {
                      place = place;
                      from = omega (arith, position_at t (j + 1) (height s) is, base_at);
                      within = omega (arith, at, cut.on, new.size_is);
                      is = new.node_new place cut.place at cut.at_or_below cut.on ∙ cut.is ∙ sym (subst P top_is last.is) ∙ sym same;
                      held = λ a above inside_t upto.
                          let of : IsFrame a = frame_new a (omega (arith, above, is)) inside_t in
                          dips_up a of
                          (cut.greatest of.was (omega (arith, of.at, above, is)) of.below (omega (arith, upto, position_up a of, at)));
                    }
              ]
          | inr past ↦
              let of : IsFrame j = frame_new j past (omega (arith, lt)) in
              let was : LeadsUp d of.was = other.leads of.was (omega (arith, of.at, lt, new.height_is)) in
              let high : position d frame ≤ was.place =
              omega (arith, was.from, above_cut (of.was + 1) (omega (arith, of.from)) (omega (arith, of.below))) in
              let place : ℕ = size s + (was.place - position d frame) in
              let at : place + position d frame ≡ size s + was.place = omega (arith, high) in
              let same : target t (position t j) (begun t (position t j) - 1) ≡ target d (position d of.was) (begun d (position d of.was) - 1) =
              ap (λ xs. get_or xs (begun t (position t j) - 1) 0) (frame_succs_up j of)
              ∙ ap (λ k. get_or (succs d (position d of.was)) (k - 1) 0) (frame_begun_up j of) in
              record {
                place = place;
                from = omega (arith, next_up j of, at, was.from);
                within = omega (arith, at, was.within, new.size_is);
                is = new.node_new place was.place at high was.within ∙ was.is ∙ sym same;
                held = λ a above inside_t upto.
                    let a_of : IsFrame a = frame_new a (omega (arith, above, past)) inside_t in
                    dips_up a a_of
                    (was.held a_of.was (omega (arith, a_of.at, of.at, above)) a_of.below (omega (arith, upto, position_up a a_of, at)));
              }
        ]

    pub good_join : IsGood lists roots done true t
    good_join = record {
      shaped = shaped_join;
      begun_all = join_begun_all;
      segment = join_segment;
      up = join_up;
      down = join_down;
      inward = join_inward;
      leads = join_leads;
      reached = λ i lt.
          let P : ℕ → Type 0 = λ u. IsReached (Calls lists) roots u in
          elim (cases_lt i (size s)) as (λ _. IsReached (Calls lists) roots (node t i)) [
            | inl old ↦ subst P (sym (new.node_is i old)) (good.reached i old)
            | inr past ↦
                let at : IsPlace i = place_new i past lt in
                subst P (sym (node_up i at)) (other.reached at.was at.below)
          ];
      true_succs = λ i lt.
          elim (cases_lt i (size s)) as (λ _. succs t i ≡ get_or lists (node t i) []) [
            | inl old ↦ new.succs_is i old ∙ good.true_succs i old ∙ ap (λ u. get_or lists u []) (sym (new.node_is i old))
            | inr past ↦
                let at : IsPlace i = place_new i past lt in
                new.succs_new i at.was at.at at.from at.below ∙ other.true_succs at.was at.below
                ∙ ap (λ u. get_or lists u []) (sym (node_up i at))
          ];
    }
