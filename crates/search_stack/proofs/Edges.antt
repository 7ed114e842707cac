-- A good search stays good where an edge begins, where one is settled, and where more nodes are finished.
use Rattle.std.proofs.Common.{◌≡◌, inl, inr, ℕ, ◌<◌, ◌≤◌, ◌+◌, ◌-◌, Bool, true, false, true≢false, List, [], length, get_or, refl, ap, ◌∙◌, sym, subst, arith}
use Rattle.std.proofs.lemmas.Bool.{cases_lt, cases_eq}
use Rattle.std.specs.Prelude.{Contains}
use Rattle.graph_law.specs.Graph.{Calls}
use Rattle.graph_law.specs.Reach.{IsReached}
use Rattle.search_stack.specs.Stack.{Stack, size, height, top, node, succs, begun, target, position, low}
use Rattle.search_stack.specs.GoodSearch.{IsGood, IsSettled, IsInward, LeadsUp, Dips}
use Rattle.search_stack.specs.Search.{IsLastBegun}
use Rattle.search_stack.proofs.Changes.{Begins}
use Rattle.search_stack.proofs.Frames.{same_last, position_le, inner_is_no_frame, frame_of_segment, same_reach, same_each_other, inward_to}
use Rattle.search_stack.proofs.Shapes.{shaped_begin, shaped_empty, empty_size, empty_height}

-- the same stack, where its settled edges lead inward
with_inward : {lists : List (List ℕ)} {roots done : List ℕ} {opened : Bool} {s : Stack} (more : List ℕ) (after : Bool)
    → IsGood lists roots done opened s
    → ((j i k : ℕ) → j < height s → position s j ≤ i → i < position s (j + 1) → k < begun s i → IsSettled s after j i k → IsInward more s j (target s i k))
    → IsGood lists roots more after s
with_inward more after good led = record {
  shaped = good.shaped;
  begun_all = good.begun_all;
  segment = good.segment;
  up = good.up;
  down = good.down;
  inward = led;
  leads = good.leads;
  reached = good.reached;
  true_succs = good.true_succs;
}

-- more nodes may be finished
pub good_more : {lists : List (List ℕ)} {roots done : List ℕ} {opened : Bool} {s : Stack} (more : List ℕ)
    → IsGood lists roots done opened s → ((u : ℕ) → Contains done u → Contains more u) → IsGood lists roots more opened s
good_more {lists} {roots} {done} {opened} {s} more good grows =
    with_inward more opened good
    (λ j i k lt from upto before settled.
    inward_to done more j j grows (omega arith) (omega arith) (λ b end. refl) refl (good.inward j i k lt from upto before settled))

-- the last edge of the top is settled where it leads inward
pub good_settle : {lists : List (List ℕ)} {roots done : List ℕ} {opened : Bool} {s : Stack}
    → IsGood lists roots done opened s
    → ((j : ℕ) → j + 1 ≡ height s → 0 < begun s (position s j) → IsInward done s j (target s (position s j) (begun s (position s j) - 1)))
    → IsGood lists roots done false s
good_settle {lists} {roots} {done} {opened} {s} good last =
    with_inward done false good
    (λ j i k lt from upto before settled.
    elim settled as (λ _. IsInward done s j (target s i k)) [
      | inl inner ↦ good.inward j i k lt from upto before (inl inner)
      | inr outer ↦
          elim outer as (λ _. IsInward done s j (target s i k)) [
            | inl earlier ↦ good.inward j i k lt from upto before (inr (inl earlier))
            | inr is ↦
                elim (cases_lt (position s j) i) as (λ _. IsInward done s j (target s i k)) [
                  | inl inner ↦ good.inward j i k lt from upto before (inl inner)
                  | inr le ↦
                      let at : position s j ≡ i = omega (arith, le, from) in
                      elim (cases_lt (k + 1) (begun s i)) as (λ _. IsInward done s j (target s i k)) [
                        | inl earlier ↦ good.inward j i k lt from upto before (inr (inl earlier))
                        | inr past ↦
                            let here : begun s (position s j) ≡ begun s i = ap (begun s) at in
                            let edge : begun s (position s j) - 1 ≡ k = omega (arith, here, past, before) in
                            let P : ℕ → Type 0 = λ b. IsInward done s j (target s b k) in
                            let Q : ℕ → Type 0 = λ e. IsInward done s j (target s (position s j) e) in
                            subst P at (subst Q edge (last j is.0 (omega (arith, here, before))))
                      ]
                ]
          ]
    ])

-- an edge may be left open that is settled
pub good_open : {lists : List (List ℕ)} {roots done : List ℕ} {opened : Bool} {s : Stack}
    → IsGood lists roots done opened s → IsGood lists roots done true s
good_open {lists} {roots} {done} {opened} {s} good =
    with_inward done true good
    (λ j i k lt from upto before settled.
    elim settled as (λ _. IsInward done s j (target s i k)) [
      | inl inner ↦ good.inward j i k lt from upto before (inl inner)
      | inr outer ↦
          elim outer as (λ _. IsInward done s j (target s i k)) [
            | inl earlier ↦ good.inward j i k lt from upto before (inr (inl earlier))
            | inr is ↦ absurd (true≢false is.1)
          ]
    ])

-- where frames, nodes and successors stay, and no low rises, the edges of a frame whose begun edges stay lead up as before
pub leads_same : {s t : Stack} (j : ℕ) → LeadsUp s j → size t ≡ size s → height t ≡ height s
    → ((b : ℕ) → position t b ≡ position s b) → ((b : ℕ) → low t b ≤ low s b) → ((i : ℕ) → node t i ≡ node s i)
    → ((i : ℕ) → succs t i ≡ succs s i) → begun t (position s j) ≡ begun s (position s j) → LeadsUp t j
leads_same {s} {t} j was size_is height_is position_is low_le node_is succs_is begun_is =
    let same : target t (position t j) (begun t (position t j) - 1) ≡ target s (position s j) (begun s (position s j) - 1) =
    same_last s t j j (position_is j) begun_is (succs_is (position s j)) in
    record {
      place = was.place;
      from = omega (arith, was.from, position_is (j + 1));
      within = omega (arith, was.within, size_is);
      is = node_is was.place ∙ was.is ∙ sym same;
      held = λ a above inside upto.
          let dips : Dips s a = was.held a above (omega (arith, inside, height_is)) (omega (arith, upto, position_is a)) in
          record {
            frame = dips.frame;
            from = dips.from;
            within = omega (arith, dips.within, height_is);
            is = omega (arith, dips.is, low_le dips.frame, position_is a);
          };
    }

module _ {lists : List (List ℕ)} {roots done : List ℕ} {s t : Stack} {place : ℕ} (good : IsGood lists roots done false s)
    (new : Begins s t place) (some : 0 < height s) (at : place ≡ position s (top s)) where
  begin_inward : (j i k : ℕ) → j < height t → position t j ≤ i → i < position t (j + 1) → k < begun t i → IsSettled t true j i k
      → IsInward done t j (target t i k)
  begin_inward j i k lt from upto before settled =
      let old : j < height s = omega (arith, lt, new.height_is) in
      let old_from : position s j ≤ i = omega (arith, from, new.position_is j) in
      let old_upto : i < position s (j + 1) = omega (arith, upto, new.position_is (j + 1)) in
      let carry : k < begun s i → IsSettled s false j i k → IsInward done t j (target t i k) = λ was_before was.
      inward_to done done j j (λ u is. is) (omega (arith, new.low_is j)) (omega (arith, new.position_is (j + 1))) (λ b end. new.node_is b)
      (ap (λ xs. get_or xs k 0) (new.succs_is i)) (good.inward j i k old old_from old_upto was_before was) in
      elim settled as (λ _. IsInward done t j (target t i k)) [
        | inl inner ↦
            let inside : position s j < i = omega (arith, inner, new.position_is j) in
            let ne : i ≡ place → ⊥ = λ is. inner_is_no_frame good.shaped j i (top s) old (omega (arith, some)) inside old_upto (is ∙ at) in
            carry (omega (arith, before, new.begun_is i ne)) (inl inside)
        | inr outer ↦
            elim outer as (λ _. IsInward done t j (target t i k)) [
              | inl earlier ↦
                  elim (cases_eq i place) as (λ _. IsInward done t j (target t i k)) [
                    | inl is ↦
                        let frame : j ≡ top s = frame_of_segment good.shaped j i (top s) old (omega (arith, some)) old_from old_upto (is ∙ at) in
                        let was_before : k < begun s i = omega (arith, earlier, ap (begun t) is, ap (begun s) is, new.begun_one_more) in
                        carry was_before (inr (inr (omega (arith, frame, some), refl)))
                    | inr ne ↦
                        let was_earlier : k + 1 < begun s i = omega (arith, earlier, new.begun_is i ne) in
                        carry (omega (arith, was_earlier)) (inr (inl was_earlier))
                  ]
              | inr is ↦ absurd (true≢false is.1)
            ]
      ]

  pub good_begin : begun s place < length (succs s place) → IsGood lists roots done true t
  good_begin more = record {
    shaped = shaped_begin good.shaped new more;
    begun_all = λ j i lt from upto.
        let old : j < height s = omega (arith, lt, new.height_is) in
        let inside : position s j < i = omega (arith, from, new.position_is j) in
        let end : i < position s (j + 1) = omega (arith, upto, new.position_is (j + 1)) in
        let ne : i ≡ place → ⊥ = λ is. inner_is_no_frame good.shaped j i (top s) old (omega (arith, some)) inside end (is ∙ at) in
        omega (arith, good.begun_all j i old inside end, new.begun_is i ne, ap length (new.succs_is i));
    segment = λ j i lt from upto.
        same_each_other (new.node_is i) (ap (node t) (new.position_is j) ∙ new.node_is (position s j))
        (good.segment j i (omega (arith, lt, new.height_is)) (omega (arith, from, new.position_is j)) (omega (arith, upto, new.position_is (j + 1))));
    up = λ j lt.
        same_reach (ap (node t) (new.position_is j) ∙ new.node_is (position s j))
        (ap (node t) (new.position_is (j + 1)) ∙ new.node_is (position s (j + 1))) (good.up j (omega (arith, lt, new.height_is)));
    down = λ j lt.
        same_reach (ap (node t) (new.position_is j) ∙ new.node_is (position s j)) (ap (node t) (new.low_is j) ∙ new.node_is (low s j))
        (good.down j (omega (arith, lt, new.height_is)));
    inward = begin_inward;
    leads = λ j lt.
        let below : j < top s = omega (arith, lt, new.height_is) in
        let ne : position s j ≡ place → ⊥ = λ is.
        omega (arith, is, at, position_le good.shaped j (top s) (omega (arith, below)) (omega arith), below) in
        leads_same j (good.leads j (omega (arith, lt, new.height_is))) new.size_is new.height_is new.position_is
        (λ b. omega (arith, new.low_is b)) new.node_is new.succs_is (new.begun_is (position s j) ne);
    reached = λ i lt.
        let P : ℕ → Type 0 = λ u. IsReached (Calls lists) roots u in
        subst P (sym (new.node_is i)) (good.reached i (omega (arith, lt, new.size_is)));
    true_succs = λ i lt.
        new.succs_is i ∙ good.true_succs i (omega (arith, lt, new.size_is)) ∙ ap (λ u. get_or lists u []) (sym (new.node_is i));
  }

-- and where it leads to a finished node
pub good_finished : {lists : List (List ℕ)} {roots done : List ℕ} {opened : Bool} {s : Stack} {v : ℕ}
    → IsGood lists roots done opened s → IsLastBegun s v → Contains done v → IsGood lists roots done false s
good_finished {lists} {roots} {done} {opened} {s} {v} good last finished =
    good_settle good
    (λ j is some.
    let at : top s ≡ j = omega (arith, is) in
    let P : ℕ → Type 0 = λ u. Contains done u in
    let Q : ℕ → Type 0 = λ b. Contains done (target s (position s b) (begun s (position s b) - 1)) in
    inl (subst Q at (subst P (sym last.is) finished)))

-- an empty stack is good
pub good_empty : (lists : List (List ℕ)) (roots done : List ℕ) (opened : Bool) → IsGood lists roots done opened (record { entries = []; frames = [] })
good_empty lists roots done opened = record {
  shaped = shaped_empty;
  begun_all = λ j i lt. absurd (omega (arith, lt, empty_height));
  segment = λ j i lt. absurd (omega (arith, lt, empty_height));
  up = λ j lt. absurd (omega (arith, lt, empty_height));
  down = λ j lt. absurd (omega (arith, lt, empty_height));
  inward = λ j i k lt. absurd (omega (arith, lt, empty_height));
  leads = λ j lt. absurd (omega (arith, lt, empty_height));
  reached = λ i lt. absurd (omega (arith, lt, empty_size));
  true_succs = λ i lt. absurd (omega (arith, lt, empty_size));
}
