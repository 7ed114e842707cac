-- The top segment of a ripe search may be released, and the rest stays good.
use Rattle.std.proofs.Common.{◌≡◌, ◌⊎◌, inl, inr, ℕ, ◌<◌, ◌≤◌, ◌+◌, ◌-◌, false, List, [], ◌++◌, length, get_or, refl, ap, ◌∙◌, sym, subst, arith}
use Rattle.std.proofs.lemmas.Bool.{cases_eq}
use Rattle.std.proofs.lemmas.List.{get_or_default}
use Rattle.std.proofs.lemmas.List.Elements.{Contains-append_left, Contains-append_right}
use Rattle.std.specs.Prelude.{Contains}
use Rattle.graph_law.specs.Graph.{Calls}
use Rattle.graph_law.specs.Reach.{IsReached, ReachEachOther}
use Rattle.graph_law.proofs.ReachLaws.{each_other_sym, each_other_trans}
use Rattle.search_stack.specs.Stack.{Stack, size, height, top, node, succs, begun, target, position, low}
use Rattle.search_stack.specs.GoodSearch.{IsGood, StandsIn, LeadsUp}
use Rattle.search_stack.specs.Search.{IsRipe, IsReleasable}
use Rattle.search_stack.proofs.Changes.{Keeps}
use Rattle.search_stack.proofs.Frames.{same_last, position_end, position_at, position_le, position_within}
use Rattle.search_stack.proofs.Edges.{good_more, good_settle}
use Rattle.search_stack.proofs.Below.{good_below}

-- the group has just the nodes that stand from a place on
pub record HoldsFrom (s : Stack) (first : ℕ) (group : List ℕ) : Type 0 where
  pub inhabited : first < size s → 0 < length group
  pub to : (v : ℕ) → Contains group v → StandsIn s first (size s) v
  pub from : (i : ℕ) → first ≤ i → i < size s → Contains group (node s i)

module _ {lists : List (List ℕ)} {roots done : List ℕ} {s : Stack} {group : List ℕ} (good : IsGood lists roots done false s)
    (ripe : IsRipe s) (holds : HoldsFrom s (position s (top s)) group) where
  top_within : top s < height s
  top_within = omega (arith, ripe.done.some)

  top_end : position s (top s + 1) ≡ size s
  top_end = position_at s (top s + 1) (height s) (omega (arith, ripe.done.some)) ∙ position_end s

  to_frame : (p : ℕ) → Contains group p → ReachEachOther (Calls lists) p (node s (position s (top s)))
  to_frame p member =
      let stands : StandsIn s (position s (top s)) (size s) p = holds.to p member in
      let P : ℕ → Type 0 = λ u. ReachEachOther (Calls lists) u (node s (position s (top s))) in
      subst P stands.is (good.segment (top s) stands.place top_within stands.from (omega (arith, stands.below, top_end)))

  all_begun : (i : ℕ) → position s (top s) ≤ i → i < size s → begun s i ≡ length (succs s i)
  all_begun i from upto =
      elim (cases_eq (position s (top s)) i) as (λ _. begun s i ≡ length (succs s i)) [
        | inl is ↦ let P : ℕ → Type 0 = λ b. begun s b ≡ length (succs s b) in subst P is ripe.done.all
        | inr ne ↦ good.begun_all (top s) i top_within (omega (arith, from, ne)) (omega (arith, upto, top_end))
      ]

  group_calls : (p q : ℕ) → Contains group p → Calls lists p q → Contains group q ⊎ Contains done q
  group_calls p q member call =
      let stands : StandsIn s (position s (top s)) (size s) p = holds.to p member in
      let P : ℕ → Type 0 = λ u. Contains (get_or lists u []) q in
      let Q : List ℕ → Type 0 = λ list. Contains list q in
      let own : Contains (succs s stands.place) q =
      subst Q (sym (good.true_succs stands.place stands.below)) (subst P (sym stands.is) call) in
      let before : own.0 < begun s stands.place = omega (arith, own.1, all_begun stands.place stands.from stands.below) in
      let at : target s stands.place own.0 ≡ q = get_or_default (succs s stands.place) own.0 0 q own.1 ∙ own.2 in
      elim
      (good.inward (top s) stands.place own.0 top_within stands.from (omega (arith, stands.below, top_end)) before
      (inr (inr (omega (arith, ripe.done.some), refl)))) as (λ _. Contains group q ⊎ Contains done q) [
        | inl finished ↦ let F : ℕ → Type 0 = λ u. Contains done u in inr (subst F at finished)
        | inr led ↦
            let G : ℕ → Type 0 = λ u. Contains group u in
            inl
            (subst G (led.is ∙ at) (holds.from led.place (omega (arith, led.from, ripe.low_is)) (omega (arith, led.below, top_end))))
      ]

  pub releasable : IsReleasable lists roots done group
  releasable = record {
    inhabited = holds.inhabited (position_within good.shaped (top s) top_within);
    mutual_reach = λ p q first second. each_other_trans (to_frame p first) (each_other_sym (to_frame q second));
    reached = λ p member.
        let stands : StandsIn s (position s (top s)) (size s) p = holds.to p member in
        let P : ℕ → Type 0 = λ u. IsReached (Calls lists) roots u in
        subst P stands.is (good.reached stands.place stands.below);
    calls = group_calls;
  }

  pub good_take : {t : Stack} → Keeps s t (top s) → IsGood lists roots (done ++ group) false t
  good_take {t} new =
      let lawful : (c : ℕ) → top s ≤ c → c < height s → position s (top s) ≤ low s c = λ c le lt.
      let is : c ≡ top s = omega (arith, le, lt) in
      omega (arith, ap (low s) is, ripe.low_is) in
      good_settle
      (good_more (done ++ group) (good_below good new lawful) (λ u member. Contains-append_left done group u member))
      (λ j is some.
      let below : j + 1 ≡ top s = omega (arith, is, new.height_is) in
      let old : j < top s = omega (arith, below) in
      let inside : position s j < position s (top s) =
      omega (arith, position_le good.shaped j (top s) (omega (arith, old)) (omega arith), old) in
      let was : LeadsUp s j = good.leads j (omega (arith, below, ripe.done.some)) in
      let at : position t j ≡ position s j = new.position_is j (omega (arith, old)) in
      let same : target t (position t j) (begun t (position t j) - 1) ≡ target s (position s j) (begun s (position s j) - 1) =
      same_last s t j j at (new.begun_is (position s j) inside) (new.succs_is (position s j) inside) in
      let G : ℕ → Type 0 = λ u. Contains (done ++ group) u in
      inl
      (subst G (was.is ∙ sym same)
      (Contains-append_right done group (node s was.place)
      (holds.from was.place (omega (arith, was.from, position_at s (j + 1) (top s) below)) was.within))))
