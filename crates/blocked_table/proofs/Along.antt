-- A transfer along a chain of waiting searches keeps them apart and well-formed, and each chain
-- still ends.
use Rattle.std.proofs.Common.{◌≡◌, ◌⊎◌, inl, inr, ℕ, ◌<◌, ◌≤◌, ◌-◌, true, List, [], ◌∷◌, Option, Some, is_some, refl, ap, ◌∙◌, sym, subst, arith}
use Rattle.std.proofs.lemmas.Bool.{cases_eq, cases_lt}
use Rattle.std.specs.Prelude.{IfSome}
use Rattle.search_stack.specs.Stack.{Stack, IsShaped, size, position}
use Rattle.search_stack.specs.GoodSearch.{IsGood, StandsIn}
use Rattle.search_stack.specs.Search.{SearchValue, IsDistinct, IsGoodSearch, IsLastBegun, IsOn, below_frame, joined, last_begun}
use Rattle.search_stack.proofs.Changes.{Joins, Keeps}
use Rattle.search_stack.proofs.Below.{good_below}
use Rattle.search_stack.proofs.Join.{good_join, lows_from}
use Rattle.search_stack.proofs.Joined.{joins}
use Rattle.search_stack.proofs.Steps.{keeps}
use Rattle.blocked_table.specs.Kept.{kept_at, Holds, IsApart, Follows, IsChain, IsFree, IsAtReady, Ends, AllEnd}
use Rattle.blocked_table.specs.Transfer.{IsCutAway, ArePartsMoved}
use Rattle.blocked_table.proofs.Chain.{none_is_not, some_is}
use Rattle.blocked_table.proofs.Rests.{WantsAbove, joined_on, on_up, last_join, rest_on, on_rest, rest_distinct, rest_wants}

-- a search whose last edge leads to v, and suspended searches that satisfy the invariant
pub record IsOnTheWay (lists : List (List ℕ)) (roots done : List ℕ) (now : List (Option SearchValue)) (s : Stack) (v : ℕ) : Type 0 where
  pub apart : IsApart now
  pub ends : AllEnd now
  pub off : (place u : ℕ) → Holds now place u → IsOn s u → ⊥
  pub last : IsLastBegun s v
  pub good : IsGood lists roots done true s
  pub kept : (place : ℕ) (search : SearchValue) → kept_at now place ≡ Some search
      → IsDistinct search.stack × IsGoodSearch lists roots done search

-- an index of a stack is below a position, or not
pub split_place : (d : Stack) (middle u : ℕ) → IsOn d u → StandsIn d 0 middle u ⊎ StandsIn d middle (size d) u
split_place d middle u on =
    elim (cases_lt on.place middle) as (λ _. StandsIn d 0 middle u ⊎ StandsIn d middle (size d) u) [
      | inl below ↦ inl (record { place = on.place; from = omega arith; below = below; is = on.is })
      | inr from ↦ inr (record { place = on.place; from = from; below = on.within; is = on.is })
    ]

module _ {lists : List (List ℕ)} {roots done : List ℕ} {now : List (Option SearchValue)} {s : Stack} {v : ℕ} (cut : ℕ × ℕ)
    (way : IsOnTheWay lists roots done now s v) (away : IsCutAway now v cut) where
  abbrev pub d : Stack
  d = away.donor.stack

  abbrev pub middle : ℕ
  middle = position away.donor.stack cut.1

  abbrev pub t : Stack
  t = joined s away.donor.stack cut.1

  pub donor_kept : IsDistinct d × IsGoodSearch lists roots done away.donor
  donor_kept = way.kept cut.0 away.donor away.at

  pub shaped : IsShaped d
  shaped = donor_kept.1.good.shaped

  pub new : Joins s d t cut.1
  new = joins s d cut.1 shaped away.cut_is.within

  pub left : Keeps d (below_frame d cut.1) cut.1
  left = keeps d cut.1 shaped away.cut_is.within

  pub donor_last : IsLastBegun d away.wants
  donor_last = let P : Option ℕ → Type 0 = λ o. IfSome o (IsLastBegun d) in subst P away.wanted donor_kept.1.wants

  -- a search that is left in the slot of the cut
  pub record IsRest (search : SearchValue) : Type 0 where
    pub stack_is : search.stack ≡ below_frame d cut.1
    pub some : 0 < cut.1
    pub wants_is : search.wanted ≡ last_begun search.stack

  pub rest_of : (search : SearchValue) → kept_at away.next cut.0 ≡ Some search → IsRest search
  rest_of search at =
      elim away.left as (λ _. IsRest search) [
        | inl none ↦ absurd (none_is_not search (kept_at away.next cut.0) none.1 at)
        | inr (rest, is, stack_is, some, wants) ↦
            let same : rest ≡ search = some_is rest search (sym is ∙ at) in
            subst IsRest same (record { stack_is = stack_is; some = some; wants_is = wants })
      ]

  -- what the rest waits for
  pub above : (0 < cut.1) → WantsAbove shaped left
  above some = rest_wants shaped left some (donor_kept.1.good.leads (cut.1 - 1) (omega (arith, some, away.cut_is.within)))

  pub rest_wanted : (search : SearchValue) → (rest : IsRest search) → search.wanted ≡ Some (above rest.some).wants
  rest_wanted search rest = rest.wants_is ∙ ap last_begun rest.stack_is ∙ (above rest.some).is

  pub at_cut : (place : ℕ) (search : SearchValue) → place ≡ cut.0 → kept_at away.next place ≡ Some search → kept_at away.next cut.0 ≡ Some search
  at_cut place search is at = sym (ap (kept_at away.next) is) ∙ at

  -- what holds a node now held it before, and in the slot of the cut the node is below the cut
  pub record WasHeld (place u : ℕ) : Type 0 where
    pub before : Holds now place u
    pub low : place ≡ cut.0 → StandsIn d 0 middle u

  pub was_held : (place u : ℕ) → Holds away.next place u → WasHeld place u
  was_held place u holds =
      elim (cases_eq place cut.0) as (λ _. WasHeld place u) [
        | inl is ↦
            let rest : IsRest holds.search = rest_of holds.search (at_cut place holds.search is holds.at) in
            let stands : StandsIn d 0 middle u =
            rest_on shaped left u (subst (λ stack. IsOn stack u) rest.stack_is holds.on) in
            let end : middle ≤ size d = omega (arith, away.cut_is.at_or_below, away.cut_is.on) in
            record {
              before =
                  record {
                    search = away.donor;
                    at = ap (kept_at now) is ∙ away.at;
                    on = record { place = stands.place; within = omega (arith, stands.below, end); is = stands.is };
                  };
              low = λ same. stands;
            }
        | inr ne ↦
            record {
              before = record { search = holds.search; at = sym (away.same place ne) ∙ holds.at; on = holds.on };
              low = λ is. absurd (ne is);
            }
      ]

  pub donor_holds : (u : ℕ) → StandsIn d middle (size d) u → Holds now cut.0 u
  donor_holds u stands = record {
    search = away.donor;
    at = away.at;
    on = record { place = stands.place; within = stands.below; is = stands.is };
  }

  pub next_off : (place u : ℕ) → Holds away.next place u → IsOn t u → ⊥
  next_off place u holds on =
      let was : WasHeld place u = was_held place u holds in
      elim (joined_on shaped new u on) as (λ _. ⊥) [
        | inl receiver ↦ way.off place u was.before receiver
        | inr stands ↦
            let low : StandsIn d 0 middle u = was.low (way.apart place cut.0 u was.before (donor_holds u stands)) in
            let one : low.place ≡ stands.place =
            donor_kept.0 low.place stands.place (omega (arith, low.below, stands.from, stands.below)) stands.below (low.is ∙ sym stands.is) in
            omega (arith, one, low.below, stands.from)
      ]

  pub next_apart : IsApart away.next
  next_apart i j u first second = way.apart i j u (was_held i u first).before (was_held j u second).before

  next_free : (u : ℕ) → IsOn t u → IsFree away.next u
  next_free u on place holds = next_off place u holds on

  free_ends : (u : ℕ) → IsFree away.next u → Ends away.next u
  free_ends u free = record { end = u; steps = []; chain = refl; is = inl free }

  pub wanted_free : (some : 0 < cut.1) → IsFree away.next (above some).wants
  wanted_free some = next_free (above some).wants (on_up shaped new (above some).wants (above some).stands)

  -- following what searches wait for ends, from a node of the donor
  donor_ends : (u : ℕ) → IsOn d u → Ends away.next u
  donor_ends u on =
      elim (split_place d middle u on) as (λ _. Ends away.next u) [
        | inr high ↦ free_ends u (next_free u (on_up shaped new u high))
        | inl low ↦
            elim away.left as (λ _. Ends away.next u) [
              | inl none ↦
                  absurd (omega (arith, low.below, ap (position d) none.0, shaped.first))
              | inr (rest, is, stack_is, some, wants) ↦
                  let left_rest : IsRest rest = record { stack_is = stack_is; some = some; wants_is = wants } in
                  let follows : Follows away.next u (above some).wants =
                  record {
                    place = cut.0;
                    holds =
                        record {
                          search = rest;
                          at = is;
                          on = subst (λ stack. IsOn stack u) (sym stack_is) (on_rest shaped left u low);
                        };
                    wants = rest_wanted rest left_rest;
                  } in
                  record {
                    end = (above some).wants;
                    steps = (above some).wants ∷ [];
                    chain = (follows, refl);
                    is = inl (wanted_free some);
                  }
            ]
      ]

  pub on_donor : (place u : ℕ) → place ≡ cut.0 → (holds : Holds now place u) → IsOn d u
  on_donor place u is holds =
      subst (λ (search : SearchValue). IsOn search.stack u)
      (some_is holds.search away.donor (sym holds.at ∙ ap (kept_at now) is ∙ away.at)) holds.on

  ends_from : (u : ℕ) (steps : List ℕ) (end : ℕ) → IsChain now u steps end → IsFree now end ⊎ IsAtReady now end → Ends away.next u
  ends_from u [] end chain is =
      elim is as (λ _. Ends away.next u) [
        | inl free ↦
            subst (λ k. Ends away.next k) (sym chain) (free_ends end (λ place holds. free place (was_held place end holds).before))
        | inr ready ↦
            elim (cases_eq ready.place cut.0) as (λ _. Ends away.next u) [
              | inl same ↦ subst (λ k. Ends away.next k) (sym chain) (donor_ends end (on_donor ready.place end same ready.holds))
              | inr ne ↦
                  record {
                    end = end;
                    steps = [];
                    chain = chain;
                    is =
                        inr
                        (record {
                          place = ready.place;
                          holds =
                              record {
                                search = ready.holds.search;
                                at = away.same ready.place ne ∙ ready.holds.at;
                                on = ready.holds.on;
                              };
                          ready = ready.ready;
                        });
                  }
            ]
      ]
  ends_from u (x ∷ xs) end chain is =
      let follows : Follows now u x = chain.0 in
      elim (cases_eq follows.place cut.0) as (λ _. Ends away.next u) [
        | inl same ↦ donor_ends u (on_donor follows.place u same follows.holds)
        | inr ne ↦
            let then : Ends away.next x = ends_from x xs end chain.1 is in
            let still : Follows away.next u x =
            record {
              place = follows.place;
              holds =
                  record {
                    search = follows.holds.search;
                    at = away.same follows.place ne ∙ follows.holds.at;
                    on = follows.holds.on;
                  };
              wants = follows.wants;
            } in
            record { end = then.end; steps = x ∷ then.steps; chain = (still, then.chain); is = then.is }
      ]

  pub next_ends : AllEnd away.next
  next_ends place w search at wanted =
      elim (cases_eq place cut.0) as (λ _. Ends away.next w) [
        | inl is ↦
            let rest : IsRest search = rest_of search (at_cut place search is at) in
            let same : (above rest.some).wants ≡ w =
            some_is (above rest.some).wants w (sym (rest_wanted search rest) ∙ wanted) in
            subst (λ k. Ends away.next k) same (free_ends (above rest.some).wants (wanted_free rest.some))
        | inr ne ↦
            let ends : Ends now w = way.ends place w search (sym (away.same place ne) ∙ at) wanted in
            ends_from w ends.steps ends.end ends.chain ends.is
      ]

  pub next_kept : (place : ℕ) (search : SearchValue) → kept_at away.next place ≡ Some search
      → IsDistinct search.stack × IsGoodSearch lists roots done search
  next_kept place search at =
      elim (cases_eq place cut.0) as (λ _. IsDistinct search.stack × IsGoodSearch lists roots done search) [
        | inr ne ↦ way.kept place search (sym (away.same place ne) ∙ at)
        | inl is ↦
            let rest : IsRest search = rest_of search (at_cut place search is at) in
            let wants : search.wanted ≡ Some (above rest.some).wants = rest_wanted search rest in
            let P : Option ℕ → Type 0 = λ o. IfSome o (IsLastBegun search.stack) in
            let Q : Option ℕ → Type 0 = λ o. IsGood lists roots done (is_some o) search.stack in (
              subst IsDistinct (sym rest.stack_is) (rest_distinct shaped left donor_kept.0),
              record {
                good =
                    subst Q (sym wants)
                    (subst (IsGood lists roots done true) (sym rest.stack_is)
                    (good_below donor_kept.1.good left (lows_from away.cut_is.lawful)));
                wants =
                    subst P (sym wants) (subst (λ stack. IsLastBegun stack (above rest.some).wants) (sym rest.stack_is) (above rest.some).last);
              },
            )
      ]

  pub cut_away : IsOnTheWay lists roots done away.next (joined s away.donor.stack cut.1) away.wants
  cut_away = record {
    apart = next_apart;
    ends = next_ends;
    off = next_off;
    last = last_join shaped new away.wants donor_last;
    good = good_join way.good.shaped shaped way.last away.cut_is new way.good donor_kept.1.good;
    kept = next_kept;
  }

-- a whole transfer
pub moved_along : {lists : List (List ℕ)} {roots done : List ℕ} (now : List (Option SearchValue)) (s : Stack) (v : ℕ) (cuts : List (ℕ × ℕ))
    (new : List (Option SearchValue)) (t : Stack) (end : ℕ) → IsOnTheWay lists roots done now s v → ArePartsMoved now s v cuts new t end
    → IsOnTheWay lists roots done new t end
moved_along {lists} {roots} {done} now s v [] new t end way moved =
    subst (λ kept. IsOnTheWay lists roots done kept t end) (sym moved.0)
    (subst (λ stack. IsOnTheWay lists roots done now stack end) (sym moved.1)
    (subst (λ node. IsOnTheWay lists roots done now s node) (sym moved.2) way))
moved_along {lists} {roots} {done} now s v (cut ∷ cuts) new t end way moved =
    let away : IsCutAway now v cut = moved.0 in
    moved_along away.next (joined s away.donor.stack cut.1) away.wants cuts new t end (cut_away cut way away) moved.1
