-- What a transfer keeps besides: no released node comes in, each want is an old one or leads to the search that goes on, and no node is lost.
use Rattle.std.proofs.Common.{◌≡◌, ◌⊎◌, inl, inr, ℕ, ◌<◌, ◌+◌, List, [], ◌∷◌, map, take, Option, None, Some, ap, ◌∙◌, sym, subst, arith}
use Rattle.std.proofs.lemmas.Bool.{cases_eq}
use Rattle.list_laws.specs.Counts.{times}
use Rattle.search_stack.specs.Stack.{Stack, IsShaped, size, position}
use Rattle.search_stack.specs.GoodSearch.{StandsIn}
use Rattle.search_stack.specs.Search.{SearchValue, IsOn, below_frame, joined}
use Rattle.search_stack.proofs.Changes.{Joins}
use Rattle.search_stack.proofs.Frames.{position_within}
use Rattle.blocked_table.specs.Kept.{kept_at, Holds}
use Rattle.blocked_table.specs.Transfer.{IsCutAway, ArePartsMoved}
use Rattle.blocked_table.proofs.Along.{IsOnTheWay, IsRest, above, at_cut, cut_away, donor_holds, new, next_off, rest_of, rest_wanted, shaped, was_held}
use Rattle.blocked_table.proofs.Chain.{some_is}
use Rattle.blocked_table.proofs.Rests.{joined_on, on_low, on_up}
use Rattle.group_release.specs.Outline.{kept_nodes, nodes_of, nodes_on}
use Rattle.group_release.proofs.KeptCounts.{kept_change}
use Rattle.group_release.proofs.Nodes.{below_nodes, joined_nodes}

-- what is wanted: it isn't released, isn't on its own search, and was wanted before or is on the search that goes on
pub record IsWanted (Released Wanted : ℕ → Type 0) (s own : Stack) (w : ℕ) : Type 0 where
  pub unreleased : Released w → ⊥
  pub off : IsOn own w → ⊥
  pub either : Wanted w ⊎ IsOn s w

-- the search that goes on beside the kept ones; each node stands as often as `count` says
pub record IsGathering (lists : List (List ℕ)) (roots done : List ℕ) (Released Wanted : ℕ → Type 0) (count : ℕ → ℕ)
    (now : List (Option SearchValue)) (s : Stack) (v : ℕ) : Type 0 where
  pub way : IsOnTheWay lists roots done now s v
  pub some : 0 < size s
  pub kept_off : (place u : ℕ) → Holds now place u → Released u → ⊥
  pub stack_off : (u : ℕ) → IsOn s u → Released u → ⊥
  pub wants : (place w : ℕ) (search : SearchValue) → kept_at now place ≡ Some search → search.wanted ≡ Some w → IsWanted Released Wanted s search.stack w
  pub counted : (x : ℕ) → times x (kept_nodes now) + times x (nodes_on s) ≡ count x

-- what stays at the place of a cut is the part below it
left_nodes : (x : ℕ) (d : Stack) (frame : ℕ) (left : Option SearchValue) → IsShaped d
    → ((frame ≡ 0) × (left ≡ None)) ⊎ ((rest : SearchValue) × (left ≡ Some rest) × (rest.stack ≡ below_frame d frame))
    → times x (nodes_of left) ≡ times x (map (λ entry. entry.node) (take (position d frame) d.entries))
left_nodes x d frame left shaped is =
    elim is as (λ _. times x (nodes_of left) ≡ times x (map (λ entry. entry.node) (take (position d frame) d.entries))) [
      | inl none ↦
          let first : position d frame ≡ 0 = ap (position d) none.0 ∙ shaped.first in
          ap (λ o. times x (nodes_of o)) none.1 ∙ sym (ap (λ p. times x (map (λ entry. entry.node) (take p d.entries))) first)
      | inr (rest, at, stack_is) ↦
          ap (λ o. times x (nodes_of o)) at ∙ ap (λ (s : Stack). times x (nodes_on s)) stack_is ∙ below_nodes x d frame
    ]

module _ {lists : List (List ℕ)} {roots done : List ℕ} {Released Wanted : ℕ → Type 0} {count : ℕ → ℕ} {now : List (Option SearchValue)} {s : Stack}
    {v : ℕ} (cut : ℕ × ℕ) (was : IsGathering lists roots done Released Wanted count now s v) (away : IsCutAway now v cut) where
  abbrev d : Stack
  d = away.donor.stack

  abbrev t : Stack
  t = joined s away.donor.stack cut.1

  upper : IsShaped d
  upper = shaped cut was.way away

  joins_up : Joins s d t cut.1
  joins_up = new cut was.way away

  moved_off : (u : ℕ) → StandsIn d (position d cut.1) (size d) u → Released u → ⊥
  moved_off u stands = was.kept_off cut.0 u (donor_holds cut was.way away u stands)

  gathered_stack : (u : ℕ) → IsOn t u → Released u → ⊥
  gathered_stack u on =
      elim (joined_on upper joins_up u on) as (λ _. Released u → ⊥)
      [ inl receiver ↦ was.stack_off u receiver | inr stands ↦ moved_off u stands ]

  gathered_wants : (place w : ℕ) (search : SearchValue) → kept_at away.next place ≡ Some search → search.wanted ≡ Some w
      → IsWanted Released Wanted t search.stack w
  gathered_wants place w search at wanted =
      elim (cases_eq place cut.0) as (λ _. IsWanted Released Wanted t search.stack w) [
        | inl is ↦
            let rest : IsRest cut was.way away search = rest_of cut was.way away search (at_cut cut was.way away place search is at) in
            let wants = above cut was.way away rest.some in
            let same : wants.wants ≡ w = some_is wants.wants w (sym (rest_wanted cut was.way away search rest) ∙ wanted) in
            let up : IsOn t wants.wants = on_up upper joins_up wants.wants wants.stands in
            subst (IsWanted Released Wanted t search.stack) same
            (record {
              unreleased = moved_off wants.wants wants.stands;
              off = λ on. next_off cut was.way away place wants.wants (record { search = search; at = at; on = on }) up;
              either = inr up;
            })
        | inr ne ↦
            let old : IsWanted Released Wanted s search.stack w = was.wants place w search (sym (away.same place ne) ∙ at) wanted in
            record {
              unreleased = old.unreleased;
              off = old.off;
              either =
                  elim old.either as (λ _. Wanted w ⊎ IsOn t w) [ inl before ↦ inl before | inr on ↦ inr (on_low upper joins_up w on) ];
            }
      ]

  gathered_count : (x : ℕ) → times x (kept_nodes away.next) + times x (nodes_on t) ≡ count x
  gathered_count x =
      let change : times x (kept_nodes away.next) + times x (nodes_of (kept_at now cut.0))
      ≡ times x (kept_nodes now) + times x (nodes_of (kept_at away.next cut.0)) =
      kept_change x now away.next cut.0 away.same in
      let donor : times x (nodes_of (kept_at now cut.0)) ≡ times x (nodes_on d) = ap (λ o. times x (nodes_of o)) away.at in
      let left : times x (nodes_of (kept_at away.next cut.0)) ≡ times x (map (λ entry. entry.node) (take (position d cut.1) d.entries)) =
      left_nodes x d cut.1 (kept_at away.next cut.0) upper
      (elim away.left as (λ _. ((cut.1 ≡ 0) × (kept_at away.next cut.0 ≡ None))
      ⊎ ((rest : SearchValue) × (kept_at away.next cut.0 ≡ Some rest) × (rest.stack ≡ below_frame d cut.1))) [
        | inl none ↦ inl none
        | inr (rest, at, stack_is, some, wants) ↦ inr (rest, at, stack_is)
      ]) in
      omega (arith, change, donor, left, joined_nodes x s d cut.1, was.counted x)

  pub gathers_more : IsGathering lists roots done Released Wanted count away.next (joined s away.donor.stack cut.1) away.wants
  gathers_more = record {
    way = cut_away cut was.way away;
    some = omega (arith, was.some, joins_up.size_is, position_within upper cut.1 joins_up.within);
    kept_off = λ place u holds. was.kept_off place u (was_held cut was.way away place u holds).before;
    stack_off = gathered_stack;
    wants = gathered_wants;
    counted = gathered_count;
  }

-- a whole transfer
pub gathered : {lists : List (List ℕ)} {roots done : List ℕ} {Released Wanted : ℕ → Type 0} {count : ℕ → ℕ} (now : List (Option SearchValue))
    (s : Stack) (v : ℕ) (cuts : List (ℕ × ℕ)) (after : List (Option SearchValue)) (t : Stack) (end : ℕ)
    → IsGathering lists roots done Released Wanted count now s v → ArePartsMoved now s v cuts after t end
    → IsGathering lists roots done Released Wanted count after t end
gathered {lists} {roots} {done} {Released} {Wanted} {count} now s v [] after t end was moved =
    subst (λ kept. IsGathering lists roots done Released Wanted count kept t end) (sym moved.0)
    (subst (λ stack. IsGathering lists roots done Released Wanted count now stack end) (sym moved.1)
    (subst (λ node. IsGathering lists roots done Released Wanted count now s node) (sym moved.2) was))
gathered {lists} {roots} {done} {Released} {Wanted} {count} now s v (cut ∷ cuts) after t end was moved =
    let away : IsCutAway now v cut = moved.0 in
    gathered away.next (joined s away.donor.stack cut.1) away.wants cuts after t end (gathers_more cut was away) moved.1
