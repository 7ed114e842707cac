-- A good search stays good where a node is pushed.
use Rattle.std.proofs.Common.{◌≡◌, ◌⊎◌, inl, inr, ℕ, ◌<◌, ◌≤◌, ◌+◌, ◌-◌, true, false, List, [], length, get_or, refl, ap, ◌∙◌, sym, subst, arith}
use Rattle.std.proofs.lemmas.Bool.{cases_lt, cases_eq}
use Rattle.graph_law.specs.Graph.{Calls}
use Rattle.graph_law.specs.Reach.{Reaches, IsReached, ReachEachOther}
use Rattle.graph_law.proofs.ReachLaws.{reaches_self, reaches_call, is_reached_on, each_other_self}
use Rattle.search_stack.specs.Stack.{Stack, size, height, top, node, succs, begun, target, position, low}
use Rattle.search_stack.specs.GoodSearch.{IsGood, IsSettled, IsInward, LeadsUp, Dips}
use Rattle.search_stack.specs.Search.{IsLastBegun}
use Rattle.search_stack.proofs.Changes.{Pushes}
use Rattle.search_stack.proofs.Frames.{same_last, position_end, position_at, position_within, segment_within, same_reach, same_each_other, begun_edge, inward_to}
use Rattle.search_stack.proofs.Shapes.{shaped_push}

module _ {lists : List (List ℕ)} {roots done : List ℕ} {s t : Stack} {v : ℕ} {list : List ℕ} (good : IsGood lists roots done true s)
    (new : Pushes s t v list) (led : (height s ≡ 0) ⊎ IsLastBegun s v) where
  place_new : position t (height s) ≡ size s
  place_new = new.position_is (height s) (omega arith) ∙ position_end s

  place_past : position t (height s + 1) ≡ size s + 1
  place_past = position_at t (height s + 1) (height t) (sym new.height_is) ∙ position_end t ∙ new.size_is

  frame_node : (j : ℕ) → j < height s → node t (position t j) ≡ node s (position s j)
  frame_node j lt =
      ap (node t) (new.position_is j (omega (arith, lt))) ∙ new.node_is (position s j) (position_within good.shaped j lt)

  frame_new : node t (position t (height s)) ≡ v
  frame_new = ap (node t) place_new ∙ new.node_new

  last_call : (j : ℕ) → j + 1 ≡ height s → Calls lists (node s (position s j)) v
  last_call j is =
      elim led [
        | inl none ↦ absurd (omega (arith, none, is))
        | inr last ↦
            let at : top s ≡ j = omega (arith, is) in
            let P : ℕ → Type 0 = λ b. Calls lists (node s (position s b)) v in
            let Q : ℕ → Type 0 = λ u. Calls lists (node s (position s (top s))) u in
            subst P at
            (subst Q last.is
            (begun_edge good (position s (top s)) (begun s (position s (top s)) - 1)
            (position_within good.shaped (top s) (omega (arith, last.some))) (omega (arith, last.begins))))
      ]

  push_segment : (j i : ℕ) → j < height t → position t j ≤ i → i < position t (j + 1) → ReachEachOther (Calls lists) (node t i) (node t (position t j))
  push_segment j i lt from upto =
      elim (cases_lt j (height s)) as (λ _. ReachEachOther (Calls lists) (node t i) (node t (position t j))) [
        | inl old ↦
            let end : i < position s (j + 1) = omega (arith, upto, new.position_is (j + 1) (omega (arith, old))) in
            same_each_other (new.node_is i (segment_within good.shaped j i old end)) (frame_node j old)
            (good.segment j i old (omega (arith, from, new.position_is j (omega (arith, old)))) end)
        | inr le ↦
            let is : j ≡ height s = omega (arith, le, lt, new.height_is) in
            let at : i ≡ position t j =
            omega (arith, from, upto, place_past, place_new, position_at t j (height s) is, position_at t (j + 1) (height s + 1) (omega (arith, is))) in
            same_each_other (ap (node t) at) refl (each_other_self (Calls lists) (node t (position t j)))
      ]

  push_up : (j : ℕ) → j + 1 < height t → Reaches (Calls lists) (node t (position t j)) (node t (position t (j + 1)))
  push_up j lt =
      let old : j < height s = omega (arith, lt, new.height_is) in
      elim (cases_lt (j + 1) (height s)) as (λ _. Reaches (Calls lists) (node t (position t j)) (node t (position t (j + 1)))) [
        | inl below ↦ same_reach (frame_node j old) (frame_node (j + 1) below) (good.up j below)
        | inr le ↦
            let is : j + 1 ≡ height s = omega (arith, le, old) in
            same_reach (frame_node j old) (ap (λ b. node t (position t b)) is ∙ frame_new)
            (reaches_call (Calls lists) (node s (position s j)) v (last_call j is))
      ]

  push_down : (j : ℕ) → j < height t → Reaches (Calls lists) (node t (position t j)) (node t (low t j))
  push_down j lt =
      elim (cases_lt j (height s)) as (λ _. Reaches (Calls lists) (node t (position t j)) (node t (low t j))) [
        | inl old ↦
            let within : low s j < size s = omega (arith, good.shaped.low_le j old, position_within good.shaped j old) in
            same_reach (frame_node j old) (ap (node t) (new.low_is j old) ∙ new.node_is (low s j) within) (good.down j old)
        | inr le ↦
            let is : j ≡ height s = omega (arith, le, lt, new.height_is) in
            let at : low t j ≡ position t j = omega (arith, ap (low t) is, new.low_new, place_new, position_at t j (height s) is) in
            same_reach refl (ap (node t) at) (reaches_self (Calls lists) (node t (position t j)))
      ]

  push_inward : (j i k : ℕ) → j < height t → position t j ≤ i → i < position t (j + 1) → k < begun t i → IsSettled t false j i k
      → IsInward done t j (target t i k)
  push_inward j i k lt from upto before settled =
      elim (cases_lt j (height s)) as (λ _. IsInward done t j (target t i k)) [
        | inl old ↦
            let same : position t j ≡ position s j = new.position_is j (omega (arith, old)) in
            let next : position t (j + 1) ≡ position s (j + 1) = new.position_is (j + 1) (omega (arith, old)) in
            let within : i < size s = segment_within good.shaped j i old (omega (arith, upto, next)) in
            let here : begun t i ≡ begun s i = new.begun_is i within in
            let was : IsSettled s true j i k =
            elim settled as (λ _. IsSettled s true j i k) [
              | inl inner ↦ inl (omega (arith, inner, same))
              | inr outer ↦
                  elim outer as (λ _. IsSettled s true j i k) [
                    | inl earlier ↦ inr (inl (omega (arith, earlier, here)))
                    | inr is ↦ absurd (omega (arith, is.0, new.height_is, old))
                  ]
            ] in
            inward_to done done j j (λ u is. is) (omega (arith, new.low_is j old)) (omega (arith, next))
            (λ b lt_end. new.node_is b (segment_within good.shaped j b old lt_end)) (ap (λ xs. get_or xs k 0) (new.succs_is i within))
            (good.inward j i k old (omega (arith, from, same)) (omega (arith, upto, next)) (omega (arith, before, here)) was)
        | inr le ↦
            let is : j ≡ height s = omega (arith, le, lt, new.height_is) in
            let at : i ≡ size s =
            omega (arith, from, upto, place_past, place_new, position_at t j (height s) is, position_at t (j + 1) (height s + 1) (omega (arith, is))) in
            absurd (omega (arith, before, ap (begun t) at, new.begun_new))
      ]

  push_leads : (j : ℕ) → j + 1 < height t → LeadsUp t j
  push_leads j lt =
      let old : j < height s = omega (arith, lt, new.height_is) in
      let place : ℕ = position s j in
      let inside : place < size s = position_within good.shaped j old in
      let at : position t j ≡ place = new.position_is j (omega (arith, old)) in
      let same : target t (position t j) (begun t (position t j) - 1) ≡ target s place (begun s place - 1) =
      same_last s t j j at (new.begun_is place inside) (new.succs_is place inside) in
      elim (cases_lt (j + 1) (height s)) as (λ _. LeadsUp t j) [
        | inl below ↦
            let was : LeadsUp s j = good.leads j below in
            record {
              place = was.place;
              from = omega (arith, was.from, new.position_is (j + 1) (omega (arith, below)));
              within = omega (arith, was.within, new.size_is);
              is = new.node_is was.place was.within ∙ was.is ∙ sym same;
              held = λ a above inside_t upto.
                  elim (cases_lt a (height s)) as (λ _. Dips t a) [
                    | inl a_old ↦
                        let dips : Dips s a =
                        was.held a above a_old (omega (arith, upto, new.position_is a (omega (arith, a_old)))) in
                        record {
                          frame = dips.frame;
                          from = dips.from;
                          within = omega (arith, dips.within, new.height_is);
                          is = omega (arith, dips.is, new.low_is dips.frame dips.within, new.position_is a (omega (arith, a_old)));
                        }
                    | inr le ↦
                        let a_new : a ≡ height s = omega (arith, le, inside_t, new.height_is) in
                        absurd (omega (arith, upto, position_at t a (height s) a_new, place_new, was.within))
                  ];
            }
        | inr le ↦
            let is : j + 1 ≡ height s = omega (arith, le, old) in
            record {
              place = size s;
              from = omega (arith, position_at t (j + 1) (height s) is, place_new);
              within = omega (arith, new.size_is);
              is = elim led [
                | inl none ↦ absurd (omega (arith, none, old))
                | inr last ↦
                    let top_is : top s ≡ j = omega (arith, is) in
                    let P : ℕ → Type 0 = λ b. target s (position s b) (begun s (position s b) - 1) ≡ v in
                    new.node_new ∙ sym (subst P top_is last.is) ∙ sym same
              ];
              held = λ a above inside_t upto. absurd (omega (arith, above, inside_t, new.height_is, is));
            }
      ]

  push_reached : (height s ≡ 0 → IsReached (Calls lists) roots v) → (i : ℕ) → i < size t → IsReached (Calls lists) roots (node t i)
  push_reached root i lt =
      let P : ℕ → Type 0 = λ u. IsReached (Calls lists) roots u in
      elim (cases_lt i (size s)) as (λ _. IsReached (Calls lists) roots (node t i)) [
        | inl old ↦ subst P (sym (new.node_is i old)) (good.reached i old)
        | inr le ↦
            let at : i ≡ size s = omega (arith, le, lt, new.size_is) in
            subst P (sym (ap (node t) at ∙ new.node_new))
            (elim (cases_eq (height s) 0) as (λ _. IsReached (Calls lists) roots v) [
              | inl none ↦ root none
              | inr some ↦
                  let is : top s + 1 ≡ height s = omega (arith, some) in
                  is_reached_on (Calls lists) roots (node s (position s (top s))) v
                  (good.reached (position s (top s)) (position_within good.shaped (top s) (omega (arith, is))))
                  (reaches_call (Calls lists) (node s (position s (top s))) v (last_call (top s) is))
            ])
      ]

  push_succs : list ≡ get_or lists v [] → (i : ℕ) → i < size t → succs t i ≡ get_or lists (node t i) []
  push_succs true_list i lt =
      elim (cases_lt i (size s)) as (λ _. succs t i ≡ get_or lists (node t i) []) [
        | inl old ↦ new.succs_is i old ∙ good.true_succs i old ∙ ap (λ u. get_or lists u []) (sym (new.node_is i old))
        | inr le ↦
            let at : i ≡ size s = omega (arith, le, lt, new.size_is) in
            ap (succs t) at ∙ new.succs_new ∙ true_list ∙ ap (λ u. get_or lists u []) (sym (ap (node t) at ∙ new.node_new))
      ]

  push_begun_all : (j i : ℕ) → j < height t → position t j < i → i < position t (j + 1) → begun t i ≡ length (succs t i)
  push_begun_all j i lt from upto =
      elim (cases_lt j (height s)) as (λ _. begun t i ≡ length (succs t i)) [
        | inl old ↦
            let end : i < position s (j + 1) = omega (arith, upto, new.position_is (j + 1) (omega (arith, old))) in
            let within : i < size s = segment_within good.shaped j i old end in
            let was : begun s i ≡ length (succs s i) =
            good.begun_all j i old (omega (arith, from, new.position_is j (omega (arith, old)))) end in
            omega (arith, was, new.begun_is i within, ap length (new.succs_is i within))
        | inr le ↦
            let is : j ≡ height s = omega (arith, le, lt, new.height_is) in
            absurd
            (omega (arith, from, upto, place_past, place_new, position_at t j (height s) is, position_at t (j + 1) (height s + 1) (omega (arith, is))))
      ]

  pub good_push : list ≡ get_or lists v [] → (height s ≡ 0 → IsReached (Calls lists) roots v) → IsGood lists roots done false t
  good_push true_list root = record {
    shaped = shaped_push good.shaped new led;
    begun_all = push_begun_all;
    segment = push_segment;
    up = push_up;
    down = push_down;
    inward = push_inward;
    leads = push_leads;
    reached = push_reached root;
    true_succs = push_succs true_list;
  }
