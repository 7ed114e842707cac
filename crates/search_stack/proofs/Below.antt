-- The part of a good search below a frame is good, where no frame from that one on has a low below its position.
use Rattle.std.proofs.Common.{◌≡◌, inl, inr, ℕ, ◌<◌, ◌≤◌, ◌+◌, ◌-◌, Bool, true, true≢false, List, [], length, get_or, ap, ◌∙◌, sym, subst, arith}
use Rattle.std.proofs.lemmas.Bool.{cases_lt}
use Rattle.graph_law.specs.Graph.{Calls}
use Rattle.graph_law.specs.Reach.{IsReached}
use Rattle.search_stack.specs.Stack.{Stack, height, node, begun, target, position, low}
use Rattle.search_stack.specs.GoodSearch.{IsGood, IsSettled, IsInward, LeadsUp, Dips}
use Rattle.search_stack.proofs.Changes.{Keeps}
use Rattle.search_stack.proofs.Frames.{same_last, position_le, position_within, same_reach, same_each_other, inward_to}
use Rattle.search_stack.proofs.Shapes.{shaped_below}

module _ {lists : List (List ℕ)} {roots done : List ℕ} {opened : Bool} {s t : Stack} {frame : ℕ} (good : IsGood lists roots done opened s)
    (new : Keeps s t frame) where
  old_frame : (j : ℕ) → j < height t → j < height s
  old_frame j lt = omega (arith, lt, new.height_is, new.within)

  inside : (j : ℕ) → j < height t → position s j < position s frame
  inside j lt = omega (arith, position_le good.shaped j frame (omega (arith, lt, new.height_is)) (omega (arith, new.within)), lt, new.height_is)

  inside_segment : (j i : ℕ) → j < height t → i < position s (j + 1) → i < position s frame
  inside_segment j i lt upto =
      omega (arith, position_le good.shaped (j + 1) frame (omega (arith, lt, new.height_is)) (omega (arith, new.within)), upto)

  old_from : (j i : ℕ) → j < height t → position t j ≤ i → position s j ≤ i
  old_from j i lt from = omega (arith, from, new.position_is j (omega (arith, lt, new.height_is)))

  old_upto : (j i : ℕ) → j < height t → i < position t (j + 1) → i < position s (j + 1)
  old_upto j i lt upto = omega (arith, upto, new.position_is (j + 1) (omega (arith, lt, new.height_is)))

  frame_node : (j : ℕ) → j < height t → node t (position t j) ≡ node s (position s j)
  frame_node j lt = ap (node t) (new.position_is j (omega (arith, lt, new.height_is))) ∙ new.node_is (position s j) (inside j lt)

  below_inward : (j i k : ℕ) → j < height t → position t j ≤ i → i < position t (j + 1) → k < begun t i → IsSettled t true j i k
      → IsInward done t j (target t i k)
  below_inward j i k lt from upto before settled =
      let end : i < position s (j + 1) = old_upto j i lt upto in
      let kept : i < position s frame = inside_segment j i lt end in
      let was : IsSettled s opened j i k =
      elim settled as (λ _. IsSettled s opened j i k) [
        | inl inner ↦ inl (omega (arith, inner, new.position_is j (omega (arith, lt, new.height_is))))
        | inr outer ↦
            elim outer as (λ _. IsSettled s opened j i k)
            [ inl earlier ↦ inr (inl (omega (arith, earlier, new.begun_is i kept))) | inr is ↦ absurd (true≢false is.1) ]
      ] in
      inward_to done done j j (λ u is. is) (omega (arith, new.low_is j (omega (arith, lt, new.height_is))))
      (omega (arith, new.position_is (j + 1) (omega (arith, lt, new.height_is)))) (λ b last. new.node_is b (inside_segment j b lt last))
      (ap (λ xs. get_or xs k 0) (new.succs_is i kept))
      (good.inward j i k (old_frame j lt) (old_from j i lt from) end (omega (arith, before, new.begun_is i kept)) was)

  below_leads : ((c : ℕ) → frame ≤ c → c < height s → position s frame ≤ low s c) → (j : ℕ) → j + 1 < height t → LeadsUp t j
  below_leads lawful j lt =
      let next : j + 1 < frame = omega (arith, lt, new.height_is) in
      let low_frame : j < height t = omega (arith, lt) in
      let was : LeadsUp s j = good.leads j (omega (arith, next, new.within)) in
      let kept : was.place < position s frame =
      elim (cases_lt was.place (position s frame)) as (λ _. was.place < position s frame) [
        | inl less ↦ less
        | inr le ↦
            let dips : Dips s frame = was.held frame next new.within le in
            absurd (omega (arith, dips.is, lawful dips.frame dips.from dips.within))
      ] in
      let at : position t j ≡ position s j = new.position_is j (omega (arith, next)) in
      let same : target t (position t j) (begun t (position t j) - 1) ≡ target s (position s j) (begun s (position s j) - 1) =
      same_last s t j j at (new.begun_is (position s j) (inside j low_frame)) (new.succs_is (position s j) (inside j low_frame)) in
      record {
        place = was.place;
        from = omega (arith, was.from, new.position_is (j + 1) (omega (arith, next)));
        within = omega (arith, kept, new.size_is);
        is = new.node_is was.place kept ∙ was.is ∙ sym same;
        held = λ a above inside_t upto.
            let a_below : a < frame = omega (arith, inside_t, new.height_is) in
            let a_at : position t a ≡ position s a = new.position_is a (omega (arith, a_below)) in
            let dips : Dips s a = was.held a above (omega (arith, a_below, new.within)) (omega (arith, upto, a_at)) in
            let low_enough : dips.frame < frame =
            elim (cases_lt dips.frame frame) as (λ _. dips.frame < frame) [
              | inl less ↦ less
              | inr le ↦
                  absurd
                  (omega (
                    arith,
                    lawful dips.frame le dips.within,
                    dips.is,
                    position_le good.shaped a frame (omega (arith, a_below)) (omega (arith, new.within)),
                  ))
            ] in
            record {
              frame = dips.frame;
              from = dips.from;
              within = omega (arith, low_enough, new.height_is);
              is = omega (arith, dips.is, new.low_is dips.frame low_enough, a_at);
            };
      }

  pub good_below : ((c : ℕ) → frame ≤ c → c < height s → position s frame ≤ low s c) → IsGood lists roots done true t
  good_below lawful = record {
    shaped = shaped_below good.shaped new;
    begun_all = λ j i lt from upto.
        let end : i < position s (j + 1) = old_upto j i lt upto in
        let kept : i < position s frame = inside_segment j i lt end in
        omega (
          arith,
          good.begun_all j i (old_frame j lt) (omega (arith, from, new.position_is j (omega (arith, lt, new.height_is)))) end,
          new.begun_is i kept,
          ap length (new.succs_is i kept),
        );
    segment = λ j i lt from upto.
        let end : i < position s (j + 1) = old_upto j i lt upto in
        same_each_other (new.node_is i (inside_segment j i lt end)) (frame_node j lt)
        (good.segment j i (old_frame j lt) (old_from j i lt from) end);
    up = λ j lt.
        same_reach (frame_node j (omega (arith, lt))) (frame_node (j + 1) lt) (good.up j (omega (arith, lt, new.height_is, new.within)));
    down = λ j lt.
        let kept : low s j < position s frame = omega (arith, good.shaped.low_le j (old_frame j lt), inside j lt) in
        same_reach (frame_node j lt) (ap (node t) (new.low_is j (omega (arith, lt, new.height_is))) ∙ new.node_is (low s j) kept)
        (good.down j (old_frame j lt));
    inward = below_inward;
    leads = below_leads lawful;
    reached = λ i lt.
        let P : ℕ → Type 0 = λ u. IsReached (Calls lists) roots u in
        let kept : i < position s frame = omega (arith, lt, new.size_is) in
        subst P (sym (new.node_is i kept)) (good.reached i (omega (arith, kept, position_within good.shaped frame new.within)));
    true_succs = λ i lt.
        let kept : i < position s frame = omega (arith, lt, new.size_is) in
        new.succs_is i kept ∙ good.true_succs i (omega (arith, kept, position_within good.shaped frame new.within))
        ∙ ap (λ u. get_or lists u []) (sym (new.node_is i kept));
  }
