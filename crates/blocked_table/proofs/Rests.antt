-- What is on a joined stack, and on what is left of the donor.
use Rattle.std.proofs.Common.{◌≡◌, ◌⊎◌, inl, inr, ℕ, ◌<◌, ◌≤◌, ◌+◌, ◌-◌, None, Some, nat_eq, get_or, refl, ap, ◌∙◌, sym, arith, ne_eqb}
use Rattle.std.proofs.lemmas.Bool.{cases_lt, cond-false}
use Rattle.search_stack.specs.Stack.{Stack, IsShaped, size, height, top, succs, begun, target, position}
use Rattle.search_stack.specs.GoodSearch.{LeadsUp, StandsIn}
use Rattle.search_stack.specs.Search.{IsDistinct, IsLastBegun, IsOn, last_begun}
use Rattle.search_stack.proofs.Changes.{Joins, Keeps}
use Rattle.search_stack.proofs.Frames.{position_at, position_le, position_within, same_last}

module _ {s d t : Stack} {frame : ℕ} (upper : IsShaped d) (new : Joins s d t frame) where
  -- a node of the joined stack is one of the receiver, or of the donor's upper part
  pub joined_on : (u : ℕ) → IsOn t u → IsOn s u ⊎ StandsIn d (position d frame) (size d) u
  joined_on u on =
      elim (cases_lt on.place (size s)) as (λ _. IsOn s u ⊎ StandsIn d (position d frame) (size d) u) [
        | inl old ↦ inl (record { place = on.place; within = old; is = sym (new.node_is on.place old) ∙ on.is })
        | inr past ↦
            let p : ℕ = position d frame + (on.place - size s) in
            let at : on.place + position d frame ≡ size s + p = omega (arith, past) in
            let from : position d frame ≤ p = omega arith in
            let below : p < size d = omega (arith, at, on.within, new.size_is) in
            inr (record { place = p; from = from; below = below; is = sym (new.node_new on.place p at from below) ∙ on.is })
      ]

  pub on_low : (u : ℕ) → IsOn s u → IsOn t u
  on_low u on = record {
    place = on.place;
    within = omega (arith, on.within, new.size_is, position_within upper frame new.within);
    is = new.node_is on.place on.within ∙ on.is;
  }

  pub on_up : (u : ℕ) → StandsIn d (position d frame) (size d) u → IsOn t u
  on_up u stands =
      let i : ℕ = size s + (stands.place - position d frame) in
      let at : i + position d frame ≡ size s + stands.place = omega (arith, stands.from) in
      record {
        place = i;
        within = omega (arith, at, stands.below, new.size_is);
        is = new.node_new i stands.place at stands.from stands.below ∙ stands.is;
      }

  -- the donor's last edge is that of the joined stack
  pub last_join : (w : ℕ) → IsLastBegun d w → IsLastBegun t w
  last_join w last =
      let at : top t + frame ≡ height s + top d = omega (arith, new.height_is, new.within) in
      let from : frame ≤ top d = omega (arith, new.within) in
      let below : top d < height d = omega (arith, last.some) in
      let here : position t (top t) + position d frame ≡ size s + position d (top d) =
      new.position_new (top t) (top d) at from (omega (arith, below)) in
      let high : position d frame ≤ position d (top d) = omega (arith, position_le upper frame (top d) from (omega (arith, below))) in
      let inside : position d (top d) < size d = position_within upper (top d) below in
      let begun_is : begun t (position t (top t)) ≡ begun d (position d (top d)) =
      new.begun_new (position t (top t)) (position d (top d)) here high inside in
      let succs_is : succs t (position t (top t)) ≡ succs d (position d (top d)) =
      new.succs_new (position t (top t)) (position d (top d)) here high inside in
      record {
        some = omega (arith, new.height_is, new.within);
        begins = omega (arith, begun_is, last.begins);
        is =
            ap (λ xs. get_or xs (begun t (position t (top t)) - 1) 0) succs_is ∙ ap (λ k. get_or (succs d (position d (top d))) (k - 1) 0) begun_is
            ∙ last.is;
      }

module _ {d r : Stack} {frame : ℕ} (upper : IsShaped d) (left : Keeps d r frame) where
  -- a node that is left is below the frame
  pub rest_on : (u : ℕ) → IsOn r u → StandsIn d 0 (position d frame) u
  rest_on u on =
      let below : on.place < position d frame = omega (arith, on.within, left.size_is) in
      record { place = on.place; from = omega arith; below = below; is = sym (left.node_is on.place below) ∙ on.is }

  pub on_rest : (u : ℕ) → StandsIn d 0 (position d frame) u → IsOn r u
  on_rest u stands = record {
    place = stands.place;
    within = omega (arith, stands.below, left.size_is);
    is = left.node_is stands.place stands.below ∙ stands.is;
  }

  pub rest_distinct : IsDistinct d → IsDistinct r
  rest_distinct distinct i j within inside same =
      let low_i : i < position d frame = omega (arith, within, left.size_is) in
      let low_j : j < position d frame = omega (arith, inside, left.size_is) in
      let end : position d frame < size d = position_within upper frame left.within in
      distinct i j (omega (arith, low_i, end)) (omega (arith, low_j, end)) (sym (left.node_is i low_i) ∙ same ∙ left.node_is j low_j)

  -- what the rest waits for is the last node that its top has begun, and is in the part that moved
  -- away
  pub record WantsAbove : Type 0 where
    pub wants : ℕ
    pub last : IsLastBegun r wants
    pub is : last_begun r ≡ Some wants
    pub stands : StandsIn d (position d frame) (size d) wants

  pub rest_wants : 0 < frame → LeadsUp d (frame - 1) → WantsAbove
  rest_wants some leads =
      let next : frame - 1 + 1 ≡ frame = omega (arith, some) in
      let at : top r ≡ frame - 1 = omega (arith, left.height_is) in
      let low : position d (frame - 1) < position d frame =
      omega (arith, position_le upper (frame - 1) frame (omega arith) (omega (arith, left.within)), some) in
      let here : position r (top r) ≡ position d (frame - 1) = position_at r (top r) (frame - 1) at ∙ left.position_is (frame - 1) (omega arith) in
      let begun_is : begun r (position r (top r)) ≡ begun d (position d (frame - 1)) = ap (begun r) here ∙ left.begun_is (position d (frame - 1)) low in
      let w : ℕ = target r (position r (top r)) (begun r (position r (top r)) - 1) in
      let same : w ≡ target d (position d (frame - 1)) (begun d (position d (frame - 1)) - 1) =
      same_last d r (top r) (frame - 1) here (left.begun_is (position d (frame - 1)) low) (left.succs_is (position d (frame - 1)) low) in
      let tall : 0 < height r = omega (arith, some, left.height_is) in
      record {
        wants = w;
        last =
            record {
              some = tall;
              begins = omega (arith, begun_is, upper.begins (frame - 1) (omega (arith, next, left.within)));
              is = refl;
            };
        is =
            cond-false (nat_eq (height r) 0) None (Some w) (ne_eqb (height r) 0 (λ none. omega (arith, none, tall)));
        stands =
            record {
              place = leads.place;
              from = omega (arith, leads.from, position_at d (frame - 1 + 1) frame next);
              below = leads.within;
              is = leads.is ∙ sym same;
            };
      }
