-- A good search stays good where an edge leads back to its stack.
use Rattle.std.proofs.Common.{◌≡◌, inl, inr, ℕ, ◌<◌, ◌≤◌, ◌+◌, ◌-◌, Bool, false, List, [], length, get_or, ap, ◌∙◌, sym, subst, arith}
use Rattle.std.proofs.lemmas.Bool.{cases_lt, cases_eq}
use Rattle.graph_law.specs.Graph.{Calls}
use Rattle.graph_law.specs.Reach.{Reaches, IsReached}
use Rattle.graph_law.proofs.ReachLaws.{reaches_call}
use Rattle.search_stack.specs.Stack.{Stack, size, height, top, node, begun, target, position, low}
use Rattle.search_stack.specs.GoodSearch.{IsGood, IsSettled, IsInward}
use Rattle.search_stack.specs.Search.{IsLastBegun}
use Rattle.search_stack.proofs.Changes.{Lowers}
use Rattle.search_stack.proofs.Frames.{same_last, position_end, position_at, position_within, same_reach, same_each_other, begun_edge, inward_to}
use Rattle.search_stack.proofs.Shapes.{shaped_back}
use Rattle.search_stack.proofs.Edges.{good_settle, leads_same}

module _ {lists : List (List ℕ)} {roots done : List ℕ} {opened : Bool} {s t : Stack} {place : ℕ} (good : IsGood lists roots done opened s)
    (new : Lowers s t (top s) place) (within : place < size s) (last : IsLastBegun s (node s place)) where
  lower : (j : ℕ) → low t j ≤ low s j
  lower j =
      elim (cases_eq j (top s)) [
        | inl is ↦ omega (arith, new.low_new, ap (low t) is, ap (low s) is)
        | inr ne ↦ omega (arith, new.low_is j ne)
      ]

  frame_node : (j : ℕ) → node t (position t j) ≡ node s (position s j)
  frame_node j = ap (node t) (new.position_is j) ∙ new.node_is (position s j)

  back_down : (j : ℕ) → j < height t → Reaches (Calls lists) (node t (position t j)) (node t (low t j))
  back_down j lt =
      let old : j < height s = omega (arith, lt, new.height_is) in
      let kept : low t j ≡ low s j → Reaches (Calls lists) (node t (position t j)) (node t (low t j)) = λ is.
      same_reach (frame_node j) (ap (node t) is ∙ new.node_is (low s j)) (good.down j old) in
      elim (cases_eq j (top s)) as (λ _. Reaches (Calls lists) (node t (position t j)) (node t (low t j))) [
        | inl is ↦
            elim (cases_lt place (low s j)) as (λ _. Reaches (Calls lists) (node t (position t j)) (node t (low t j))) [
              | inl less ↦
                  let fallen : low t j ≡ place = omega (arith, new.low_new, ap (low t) is, ap (low s) is, less) in
                  let P : ℕ → Type 0 = λ u. Calls lists (node s (position s (top s))) u in
                  let call : Calls lists (node s (position s (top s))) (node s place) =
                  subst P last.is
                  (begun_edge good (position s (top s)) (begun s (position s (top s)) - 1)
                  (position_within good.shaped (top s) (omega (arith, last.some))) (omega (arith, last.begins))) in
                  same_reach (frame_node j ∙ ap (λ b. node s (position s b)) is) (ap (node t) fallen ∙ new.node_is place)
                  (reaches_call (Calls lists) (node s (position s (top s))) (node s place) call)
              | inr le ↦ kept (omega (arith, new.low_new, ap (low t) is, ap (low s) is, le))
            ]
        | inr ne ↦ kept (new.low_is j ne)
      ]

  back_inward : (j i k : ℕ) → j < height t → position t j ≤ i → i < position t (j + 1) → k < begun t i → IsSettled t opened j i k
      → IsInward done t j (target t i k)
  back_inward j i k lt from upto before settled =
      let was : IsSettled s opened j i k =
      elim settled as (λ _. IsSettled s opened j i k) [
        | inl inner ↦ inl (omega (arith, inner, new.position_is j))
        | inr outer ↦
            elim outer as (λ _. IsSettled s opened j i k) [
              | inl earlier ↦ inr (inl (omega (arith, earlier, new.begun_is i)))
              | inr is ↦ inr (inr (omega (arith, is.0, new.height_is), is.1))
            ]
      ] in
      inward_to done done j j (λ u is. is) (lower j) (omega (arith, new.position_is (j + 1))) (λ b end. new.node_is b)
      (ap (λ xs. get_or xs k 0) (new.succs_is i))
      (good.inward j i k (omega (arith, lt, new.height_is)) (omega (arith, from, new.position_is j)) (omega (arith, upto, new.position_is (j + 1)))
      (omega (arith, before, new.begun_is i)) was)

  back_kept : IsGood lists roots done opened t
  back_kept = record {
    shaped = shaped_back good.shaped new;
    begun_all = λ j i lt from upto.
        omega (
          arith,
          good.begun_all j i (omega (arith, lt, new.height_is)) (omega (arith, from, new.position_is j)) (omega (arith, upto, new.position_is (j + 1))),
          new.begun_is i,
          ap length (new.succs_is i),
        );
    segment = λ j i lt from upto.
        same_each_other (new.node_is i) (frame_node j)
        (good.segment j i (omega (arith, lt, new.height_is)) (omega (arith, from, new.position_is j)) (omega (arith, upto, new.position_is (j + 1))));
    up = λ j lt. same_reach (frame_node j) (frame_node (j + 1)) (good.up j (omega (arith, lt, new.height_is)));
    down = back_down;
    inward = back_inward;
    leads = λ j lt.
        leads_same j (good.leads j (omega (arith, lt, new.height_is))) new.size_is new.height_is new.position_is lower new.node_is new.succs_is
        (new.begun_is (position s j));
    reached = λ i lt.
        let P : ℕ → Type 0 = λ u. IsReached (Calls lists) roots u in
        subst P (sym (new.node_is i)) (good.reached i (omega (arith, lt, new.size_is)));
    true_succs = λ i lt.
        new.succs_is i ∙ good.true_succs i (omega (arith, lt, new.size_is)) ∙ ap (λ u. get_or lists u []) (sym (new.node_is i));
  }

  pub good_back : IsGood lists roots done false t
  good_back =
      good_settle back_kept
      (λ j is some.
      let top_is : j ≡ top s = omega (arith, is, new.height_is) in
      let at : position t j ≡ position s (top s) = new.position_is j ∙ position_at s j (top s) top_is in
      let same : target t (position t j) (begun t (position t j) - 1) ≡ target s (position s (top s)) (begun s (position s (top s)) - 1) =
      same_last s t j (top s) at (new.begun_is (position s (top s))) (new.succs_is (position s (top s))) in
      inr
      (record {
        place = place;
        from = omega (arith, new.low_new, ap (low t) top_is);
        below = omega (arith, position_at t (j + 1) (height t) is, position_end t, new.size_is, within);
        is = new.node_is place ∙ sym last.is ∙ sym same;
      }))
