-- What each event makes of the stack at its place: it stays good, and which nodes it has.
use Rattle.std.proofs.Common.{◌≡◌, inl, inr, ℕ, ◌<◌, ◌≤◌, ◌+◌, ◌-◌, true, false, List, [], length, get_or, Some, refl, ◌∙◌, sym, subst, arith, ◌++◌}
use Rattle.std.proofs.lemmas.Bool.{cases_lt}
use Rattle.std.proofs.lemmas.List.{get_or_default}
use Rattle.list_laws.specs.Counts.{times}
use Rattle.graph_law.specs.Graph.{Calls}
use Rattle.graph_law.specs.Reach.{IsReached}
use Rattle.search_stack.specs.Stack.{Stack, size, height, top, node, begun, succs, position, low}
use Rattle.search_stack.specs.GoodSearch.{IsGood}
use Rattle.search_stack.specs.Search.{IsDone, IsLastBegun, IsReleasable, IsRipe, below_frame, empty_stack, lowered, next_successor, nodes_from, one_more_begun, pushed, retreated}
use Rattle.search_stack.proofs.Back.{good_back}
use Rattle.search_stack.proofs.Changes.{Begins, Retreats}
use Rattle.search_stack.proofs.Driving.{begins_top, next_is, tall_from_long}
use Rattle.search_stack.proofs.Edges.{good_begin, good_empty}
use Rattle.search_stack.proofs.FieldLaws.{last_begun}
use Rattle.search_stack.proofs.Frames.{position_at, position_within}
use Rattle.search_stack.proofs.Push.{good_push}
use Rattle.search_stack.proofs.Retreat.{good_retreat}
use Rattle.search_stack.proofs.Shapes.{empty_height}
use Rattle.search_stack.proofs.Steps.{holds_from, keeps, lowers, pushes, retreats}
use Rattle.search_stack.proofs.Taken.{good_take, releasable}
use Rattle.search_stack.proofs.UnderWay.{same_begins, same_lowers, same_retreats}
use Rattle.group_release.specs.Outline.{nodes_on}
use Rattle.search_machine.proofs.Counts.{same_counted}

-- the top begins an edge
module _ {lists : List (List ℕ)} {roots done : List ℕ} {s : Stack} {v : ℕ} (good : IsGood lists roots done false s) (some : 0 < size s)
    (next : next_successor s ≡ Some v) where
  abbrev pub with_begun : Stack
  with_begun = one_more_begun s (position s (top s))

  tall : 0 < height s
  tall = tall_from_long good.shaped (λ none. omega (arith, some, none))

  step : Begins s with_begun (position s (top s))
  step = begins_top s v next

  pub begun_good : IsGood lists roots done true with_begun
  begun_good = good_begin good step tall refl (next_is s v next).0

  pub begun_last : IsLastBegun with_begun v
  begun_last =
      let at = next_is s v next in
      last_begun v tall step (sym (get_or_default (succs s (position s (top s))) (begun s (position s (top s))) 0 v at.0 ∙ at.1))

  pub begun_some : 0 < size with_begun
  begun_some = omega (arith, some, step.size_is)

  pub begun_counted : (x : ℕ) → times x (nodes_on with_begun) ≡ times x (nodes_on s)
  begun_counted = same_counted (same_begins step)

-- the edge is one back
module _ {lists : List (List ℕ)} {roots done : List ℕ} {s : Stack} {v : ℕ} (good : IsGood lists roots done true s) (last : IsLastBegun s v) (at : ℕ)
    (within : at < size s) (is : node s at ≡ v) where
  pub back_good : IsGood lists roots done false (lowered s at)
  back_good = good_back good (lowers s at last.some) within (subst (IsLastBegun s) (sym is) last)

  pub back_some : 0 < size (lowered s at)
  back_some = omega (arith, within, (lowers s at last.some).size_is)

  pub back_counted : (x : ℕ) → times x (nodes_on (lowered s at)) ≡ times x (nodes_on s)
  back_counted = same_counted (same_lowers (lowers s at last.some))

-- the top segment joins the one below
module _ {lists : List (List ℕ)} {roots done : List ℕ} {s : Stack} (good : IsGood lists roots done false s) (all : IsDone s)
    (below : low s (top s) < position s (top s)) where
  two : 2 ≤ height s
  two =
      elim (cases_lt (height s) 2) as (λ _. 2 ≤ height s) [
        | inl one ↦
            let first : position s (top s) ≡ position s 0 = position_at s (top s) 0 (omega (arith, one)) in
            absurd (omega (arith, below, first, good.shaped.first))
        | inr le ↦ le
      ]

  new : Retreats s (retreated s) (top s - 1)
  new = retreats s two

  pub retreat_good : IsGood lists roots done false (retreated s)
  retreat_good =
      let at : top s ≡ top s - 1 + 1 = omega (arith, two) in
      let P : ℕ → Type 0 = λ j. begun s (position s j) ≡ length (succs s (position s j)) in
      let Q : ℕ → Type 0 = λ j. low s j < position s j in
      good_retreat good new (subst P at all.all) (subst Q at below)

  pub retreat_some : 0 < size (retreated s)
  retreat_some = omega (arith, below, new.size_is, position_within good.shaped (top s) (omega (arith, two)))

  pub retreat_counted : (x : ℕ) → times x (nodes_on (retreated s)) ≡ times x (nodes_on s)
  retreat_counted = same_counted (same_retreats new)

-- the node is pushed to which the open edge leads, or on an empty stack
pub push_good : {lists : List (List ℕ)} {roots done : List ℕ} {s : Stack} {v : ℕ} → IsGood lists roots done true s → IsLastBegun s v
    → IsGood lists roots done false (pushed s v (get_or lists v []))
push_good {lists} {roots} {done} {s} {v} good last =
    good_push good (pushes s v (get_or lists v [])) (inr last) refl (λ none. absurd (omega (arith, none, last.some)))

pub push_some : (s : Stack) (v : ℕ) (list : List ℕ) → 0 < size (pushed s v list)
push_some s v list = omega (arith, (pushes s v list).size_is)

pub first_good : (lists : List (List ℕ)) (roots done : List ℕ) (v : ℕ) → IsReached (Calls lists) roots v
    → IsGood lists roots done false (pushed empty_stack v (get_or lists v []))
first_good lists roots done v reached =
    good_push (good_empty lists roots done true) (pushes empty_stack v (get_or lists v [])) (inl empty_height) refl (λ none. reached)

-- the ripe top segment leaves
module _ {lists : List (List ℕ)} {roots done : List ℕ} {s : Stack} (good : IsGood lists roots done false s) (ripe : IsRipe s) where
  pub leaves : IsReleasable lists roots done (nodes_from s (top s))
  leaves = releasable good ripe (holds_from s (top s))

  pub left_good : IsGood lists roots (done ++ nodes_from s (top s)) false (below_frame s (top s))
  left_good = good_take good ripe (holds_from s (top s)) (keeps s (top s) good.shaped (omega (arith, ripe.done.some)))
