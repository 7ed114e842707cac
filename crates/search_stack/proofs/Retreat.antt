-- A good search stays good where its top frame joins the one below.
use Rattle.std.proofs.Common.{◌≡◌, inl, inr, ℕ, ◌<◌, ◌≤◌, ◌+◌, ◌-◌, false, List, [], length, get_or, refl, ap, ◌∙◌, sym, subst, arith}
use Rattle.std.proofs.lemmas.Bool.{cases_lt, cases_eq}
use Rattle.graph_law.specs.Graph.{Calls}
use Rattle.graph_law.specs.Reach.{Reaches, IsReached, ReachEachOther}
use Rattle.graph_law.proofs.ReachLaws.{reaches_trans, each_other_trans}
use Rattle.search_stack.specs.Stack.{Stack, size, height, top, node, succs, begun, target, position, low}
use Rattle.search_stack.specs.GoodSearch.{IsGood, IsSettled, IsInward, LeadsUp, Dips}
use Rattle.search_stack.proofs.Changes.{Retreats}
use Rattle.search_stack.proofs.Frames.{same_last, position_end, position_at, position_within, same_reach, same_each_other, place_reaches, inward_to}
use Rattle.search_stack.proofs.Shapes.{shaped_retreat}

module _ {lists : List (List ℕ)} {roots done : List ℕ} {s t : Stack} {frame : ℕ} (good : IsGood lists roots done false s)
    (new : Retreats s t frame) (all : begun s (position s (frame + 1)) ≡ length (succs s (position s (frame + 1))))
    (leads_low : low s (frame + 1) < position s (frame + 1)) where
  end_t : position t (frame + 1) ≡ size s
  end_t = position_at t (frame + 1) (height t) (sym new.height_is) ∙ position_end t ∙ new.size_is

  end_s : position s (frame + 1 + 1) ≡ size s
  end_s = position_at s (frame + 1 + 1) (height s) (omega (arith, new.is_second)) ∙ position_end s

  is_last : (j : ℕ) → j < height t → frame ≤ j → j ≡ frame
  is_last j lt le = omega (arith, lt, le, new.height_is)

  -- the old top frame reaches the new one
  reaches_below : Reaches (Calls lists) (node s (position s (frame + 1))) (node s (position s frame))
  reaches_below =
      reaches_trans (good.down (frame + 1) (omega (arith, new.is_second)))
      (place_reaches good (low s (frame + 1)) frame (omega (arith, new.is_second)) leads_low)

  frame_node : (j : ℕ) → j ≤ frame → node t (position t j) ≡ node s (position s j)
  frame_node j le = ap (node t) (new.position_is j le) ∙ new.node_is (position s j)

  joined_segment : (i : ℕ) → position s frame ≤ i → i < size s → ReachEachOther (Calls lists) (node s i) (node s (position s frame))
  joined_segment i from upto =
      elim (cases_lt i (position s (frame + 1))) as (λ _. ReachEachOther (Calls lists) (node s i) (node s (position s frame))) [
        | inl lower ↦ good.segment frame i (omega (arith, new.is_second)) from lower
        | inr upper ↦
            each_other_trans (good.segment (frame + 1) i (omega (arith, new.is_second)) upper (omega (arith, upto, end_s)))
            (record { there = reaches_below; back = good.up frame (omega (arith, new.is_second)) })
      ]

  retreat_segment : (j i : ℕ) → j < height t → position t j ≤ i → i < position t (j + 1) → ReachEachOther (Calls lists) (node t i) (node t (position t j))
  retreat_segment j i lt from upto =
      elim (cases_lt j frame) as (λ _. ReachEachOther (Calls lists) (node t i) (node t (position t j))) [
        | inl below ↦
            same_each_other (new.node_is i) (frame_node j (omega (arith, below)))
            (good.segment j i (omega (arith, below, new.is_second)) (omega (arith, from, new.position_is j (omega (arith, below))))
            (omega (arith, upto, new.position_is (j + 1) (omega (arith, below)))))
        | inr le ↦
            let is : j ≡ frame = is_last j lt le in
            let at : position t j ≡ position s frame = position_at t j frame is ∙ new.position_is frame (omega arith) in
            same_each_other (new.node_is i) (ap (node t) at ∙ new.node_is (position s frame))
            (joined_segment i (omega (arith, from, at)) (omega (arith, upto, position_at t (j + 1) (frame + 1) (omega (arith, is)), end_t)))
      ]

  retreat_begun_all : (j i : ℕ) → j < height t → position t j < i → i < position t (j + 1) → begun t i ≡ length (succs t i)
  retreat_begun_all j i lt from upto =
      let same : begun s i ≡ length (succs s i) → begun t i ≡ length (succs t i) = λ is.
      omega (arith, is, new.begun_is i, ap length (new.succs_is i)) in
      elim (cases_lt j frame) as (λ _. begun t i ≡ length (succs t i)) [
        | inl below ↦
            same
            (good.begun_all j i (omega (arith, below, new.is_second)) (omega (arith, from, new.position_is j (omega (arith, below))))
            (omega (arith, upto, new.position_is (j + 1) (omega (arith, below)))))
        | inr le ↦
            let is : j ≡ frame = is_last j lt le in
            let at : position t j ≡ position s frame = position_at t j frame is ∙ new.position_is frame (omega arith) in
            let last : i < size s = omega (arith, upto, position_at t (j + 1) (frame + 1) (omega (arith, is)), end_t) in
            elim (cases_lt i (position s (frame + 1))) as (λ _. begun t i ≡ length (succs t i)) [
              | inl lower ↦ same (good.begun_all frame i (omega (arith, new.is_second)) (omega (arith, from, at)) lower)
              | inr upper ↦
                  elim (cases_eq (position s (frame + 1)) i) as (λ _. begun t i ≡ length (succs t i)) [
                    | inl here ↦ let P : ℕ → Type 0 = λ b. begun s b ≡ length (succs s b) in same (subst P here all)
                    | inr ne ↦ same (good.begun_all (frame + 1) i (omega (arith, new.is_second)) (omega (arith, upper, ne)) (omega (arith, last, end_s)))
                  ]
            ]
      ]

  retreat_down : (j : ℕ) → j < height t → Reaches (Calls lists) (node t (position t j)) (node t (low t j))
  retreat_down j lt =
      elim (cases_lt j frame) as (λ _. Reaches (Calls lists) (node t (position t j)) (node t (low t j))) [
        | inl below ↦
            same_reach (frame_node j (omega (arith, below))) (ap (node t) (new.low_is j below) ∙ new.node_is (low s j))
            (good.down j (omega (arith, below, new.is_second)))
        | inr le ↦
            let is : j ≡ frame = is_last j lt le in
            let at : node t (position t j) ≡ node s (position s frame) =
            ap (λ b. node t (position t b)) is ∙ frame_node frame (omega arith) in
            elim (cases_lt (low s (frame + 1)) (low s frame)) as (λ _. Reaches (Calls lists) (node t (position t j)) (node t (low t j))) [
              | inl less ↦
                  let fallen : low t j ≡ low s (frame + 1) = omega (arith, ap (low t) is, new.low_new, less) in
                  same_reach at (ap (node t) fallen ∙ new.node_is (low s (frame + 1)))
                  (reaches_trans (good.up frame (omega (arith, new.is_second))) (good.down (frame + 1) (omega (arith, new.is_second))))
              | inr more ↦
                  let kept : low t j ≡ low s frame = omega (arith, ap (low t) is, new.low_new, more) in
                  same_reach at (ap (node t) kept ∙ new.node_is (low s frame)) (good.down frame (omega (arith, new.is_second)))
            ]
      ]

  -- in the joined segment
  joined_inward : (i k : ℕ) → position s frame ≤ i → i < size s → k < begun s i → IsInward done t frame (target t i k)
  joined_inward i k from upto before =
      let lower_low : low t frame ≤ low s frame = omega (arith, new.low_new) in
      let succs_at : target t i k ≡ target s i k = ap (λ xs. get_or xs k 0) (new.succs_is i) in
      let settled : IsSettled s false frame i k → i < position s (frame + 1) → IsInward done t frame (target t i k) = λ was lower.
      inward_to done done frame frame (λ u is. is) lower_low
      (omega (arith, end_t, position_within good.shaped (frame + 1) (omega (arith, new.is_second)))) (λ b end. new.node_is b) succs_at
      (good.inward frame i k (omega (arith, new.is_second)) from lower before was) in
      elim (cases_lt i (position s (frame + 1))) as (λ _. IsInward done t frame (target t i k)) [
        | inl lower ↦
            elim (cases_lt (position s frame) i) as (λ _. IsInward done t frame (target t i k)) [
              | inl inner ↦ settled (inl inner) lower
              | inr le ↦
                  let at : i ≡ position s frame = omega (arith, le, from) in
                  elim (cases_lt (k + 1) (begun s i)) as (λ _. IsInward done t frame (target t i k)) [
                    | inl earlier ↦ settled (inr (inl earlier)) lower
                    | inr past ↦
                        let was : LeadsUp s frame = good.leads frame (omega (arith, new.is_second)) in
                        let edge : begun s (position s frame) - 1 ≡ k = omega (arith, ap (begun s) at, past, before) in
                        let same : target s (position s frame) (begun s (position s frame) - 1) ≡ target s i k =
                        ap (λ e. target s (position s frame) e) edge ∙ ap (λ b. target s b k) (sym at) in
                        inr
                        (record {
                          place = was.place;
                          from = omega (arith, lower_low, good.shaped.low_le frame (omega (arith, new.is_second)), was.from, lower, from);
                          below = omega (arith, end_t, was.within);
                          is = new.node_is was.place ∙ was.is ∙ same ∙ sym succs_at;
                        })
                  ]
            ]
        | inr upper ↦
            inward_to done done (frame + 1) frame (λ u is. is) (omega (arith, new.low_new)) (omega (arith, end_t, end_s)) (λ b end. new.node_is b) succs_at
            (good.inward (frame + 1) i k (omega (arith, new.is_second)) upper (omega (arith, upto, end_s)) before
            (inr (inr (omega (arith, new.is_second), refl))))
      ]

  retreat_inward : (j i k : ℕ) → j < height t → position t j ≤ i → i < position t (j + 1) → k < begun t i → IsSettled t false j i k
      → IsInward done t j (target t i k)
  retreat_inward j i k lt from upto before settled =
      elim (cases_lt j frame) as (λ _. IsInward done t j (target t i k)) [
        | inl below ↦
            let was : IsSettled s false j i k =
            elim settled as (λ _. IsSettled s false j i k) [
              | inl inner ↦ inl (omega (arith, inner, new.position_is j (omega (arith, below))))
              | inr outer ↦
                  elim outer as (λ _. IsSettled s false j i k) [
                    | inl earlier ↦ inr (inl (omega (arith, earlier, new.begun_is i)))
                    | inr is ↦ absurd (omega (arith, is.0, new.height_is, below))
                  ]
            ] in
            inward_to done done j j (λ u is. is) (omega (arith, new.low_is j below)) (omega (arith, new.position_is (j + 1) (omega (arith, below))))
            (λ b end. new.node_is b) (ap (λ xs. get_or xs k 0) (new.succs_is i))
            (good.inward j i k (omega (arith, below, new.is_second)) (omega (arith, from, new.position_is j (omega (arith, below))))
            (omega (arith, upto, new.position_is (j + 1) (omega (arith, below)))) (omega (arith, before, new.begun_is i)) was)
        | inr le ↦
            let is : j ≡ frame = is_last j lt le in
            let at : position t j ≡ position s frame = position_at t j frame is ∙ new.position_is frame (omega arith) in
            let P : ℕ → Type 0 = λ b. IsInward done t b (target t i k) in
            subst P (sym is)
            (joined_inward i k (omega (arith, from, at)) (omega (arith, upto, position_at t (j + 1) (frame + 1) (omega (arith, is)), end_t))
            (omega (arith, before, new.begun_is i)))
      ]

  -- the low of the new top is at most both that it joins
  fallen_low : (c : ℕ) → frame ≤ c → c < height s → low t frame ≤ low s c
  fallen_low c le lt =
      elim (cases_eq c frame) as (λ _. low t frame ≤ low s c) [
        | inl is ↦ omega (arith, new.low_new, ap (low s) is)
        | inr ne ↦
            let old_top : c ≡ frame + 1 = omega (arith, ne, le, lt, new.is_second) in
            omega (arith, new.low_new, ap (low s) old_top)
      ]

  retreat_leads : (j : ℕ) → j + 1 < height t → LeadsUp t j
  retreat_leads j lt =
      let below : j < frame = omega (arith, lt, new.height_is) in
      let was : LeadsUp s j = good.leads j (omega (arith, below, new.is_second)) in
      let at : position t j ≡ position s j = new.position_is j (omega (arith, below)) in
      let same : target t (position t j) (begun t (position t j) - 1) ≡ target s (position s j) (begun s (position s j) - 1) =
      same_last s t j j at (new.begun_is (position s j)) (new.succs_is (position s j)) in
      record {
        place = was.place;
        from = omega (arith, was.from, new.position_is (j + 1) (omega (arith, below)));
        within = omega (arith, was.within, new.size_is);
        is = new.node_is was.place ∙ was.is ∙ sym same;
        held = λ a above inside upto.
            let a_le : a ≤ frame = omega (arith, inside, new.height_is) in
            let dips : Dips s a = was.held a above (omega (arith, a_le, new.is_second)) (omega (arith, upto, new.position_is a a_le)) in
            elim (cases_lt dips.frame frame) as (λ _. Dips t a) [
              | inl less ↦
                  record {
                    frame = dips.frame;
                    from = dips.from;
                    within = omega (arith, less, new.height_is);
                    is = omega (arith, dips.is, new.low_is dips.frame less, new.position_is a a_le);
                  }
              | inr le ↦
                  record {
                    frame = frame;
                    from = a_le;
                    within = omega (arith, new.height_is);
                    is = omega (arith, dips.is, fallen_low dips.frame le dips.within, new.position_is a a_le);
                  }
            ];
      }

  pub good_retreat : IsGood lists roots done false t
  good_retreat = record {
    shaped = shaped_retreat good.shaped new;
    begun_all = retreat_begun_all;
    segment = retreat_segment;
    up = λ j lt.
        same_reach (frame_node j (omega (arith, lt, new.height_is))) (frame_node (j + 1) (omega (arith, lt, new.height_is)))
        (good.up j (omega (arith, lt, new.height_is, new.is_second)));
    down = retreat_down;
    inward = retreat_inward;
    leads = retreat_leads;
    reached = λ i lt.
        let P : ℕ → Type 0 = λ u. IsReached (Calls lists) roots u in
        subst P (sym (new.node_is i)) (good.reached i (omega (arith, lt, new.size_is)));
    true_succs = λ i lt.
        new.succs_is i ∙ good.true_succs i (omega (arith, lt, new.size_is)) ∙ ap (λ u. get_or lists u []) (sym (new.node_is i));
  }

-- the same, where the top frame is called so
pub good_second : {lists : List (List ℕ)} {roots done : List ℕ} {s t : Stack} → IsGood lists roots done false s → Retreats s t (top s - 1)
    → 2 ≤ height s → begun s (position s (top s)) ≡ length (succs s (position s (top s))) → low s (top s) < position s (top s)
    → IsGood lists roots done false t
good_second {lists} {roots} {done} {s} {t} good new two all leads_low =
    let next : top s ≡ top s - 1 + 1 = omega (arith, two) in
    let P : ℕ → Type 0 = λ j. begun s (position s j) ≡ length (succs s (position s j)) in
    let Q : ℕ → Type 0 = λ j. low s j < position s j in
    good_retreat good new (subst P next all) (subst Q next leads_low)
