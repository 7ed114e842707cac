-- Following wants among kept searches ends still: after a release, and from each node.
use Rattle.std.proofs.Common.{◌≡◌, ◌⊎◌, inl, inr, ℕ, ◌<◌, List, [], ◌∷◌, Option, None, Some, refl, ap, ◌∙◌, sym, subst, arith}
use Rattle.std.proofs.lemmas.Bool.{cases_eq}
use Rattle.search_stack.specs.Stack.{Stack, size}
use Rattle.search_stack.specs.Search.{SearchValue, IsOn, joined}
use Rattle.search_stack.proofs.Frames.{position_le}
use Rattle.blocked_table.specs.Blocked.{IsWoken}
use Rattle.blocked_table.specs.Kept.{kept_at, Holds, Follows, IsChain, IsFree, IsAtReady, Ends, AllEnd}
use Rattle.blocked_table.specs.Transfer.{IsCutAway, ArePartsMoved}
use Rattle.blocked_table.proofs.Along.{IsOnTheWay, at_cut, cut_away, left, rest_of, shaped}
use Rattle.blocked_table.proofs.Chain.{held_or_free, none_is_not, some_is}
use Rattle.group_release.proofs.Waking.{still, was_kept}

-- from any node, where it ends from what is wanted
module _ {kept : List (Option SearchValue)} (all : AllEnd kept) where
  ends_by : (v place : ℕ) (holds : Holds kept place v) (wanted : Option ℕ) → holds.search.wanted ≡ wanted → Ends kept v
  ends_by v place holds None is = record {
    end = v;
    steps = [];
    chain = refl;
    is = inr (record { place = place; holds = holds; ready = is });
  }
  ends_by v place holds (Some w) is =
      let rest : Ends kept w = all place w holds.search holds.at is in
      let follows : Follows kept v w = record { place = place; holds = holds; wants = is } in
      record { end = rest.end; steps = w ∷ rest.steps; chain = (follows, rest.chain); is = rest.is }

  pub ends_from : (v : ℕ) → Ends kept v
  ends_from v =
      elim (held_or_free kept v) as (λ _. Ends kept v) [
        | inl held ↦ ends_by v held.place held.holds held.holds.search.wanted refl
        | inr free ↦ record { end = v; steps = []; chain = refl; is = inl free }
      ]

-- a search that is woken ends what comes to it
module _ {group : List ℕ} {old new : List (Option SearchValue)} (woken : IsWoken group old new) where
  free_still : (v : ℕ) → IsFree old v → IsFree new v
  free_still v free place holds =
      let was = was_kept woken place holds.search holds.at in
      free place (record { search = was.before; at = was.at; on = subst (λ s. IsOn s v) was.stays.stack_is holds.on })

  -- the search that held the node holds it, and is ready or wants what it wanted
  abbrev holds_still : (v place : ℕ) → Holds old place v → Holds new place v
  holds_still v place holds =
      let is = still woken place holds.search holds.at in
      record { search = is.after; at = is.at; on = subst (λ s. IsOn s v) (sym is.stays.stack_is) holds.on }

  ready_still : (v : ℕ) → IsAtReady old v → IsAtReady new v
  ready_still v ready =
      let is = still woken ready.place ready.holds.search ready.holds.at in
      record {
        place = ready.place;
        holds = holds_still v ready.place ready.holds;
        ready = none_left is.after.wanted (λ w wants. none_is_not w ready.holds.search.wanted ready.ready (is.stays.wants w wants).0);
      }
    where
      none_left : (o : Option ℕ) → ((w : ℕ) → o ≡ Some w → ⊥) → o ≡ None
      none_left None never = refl
      none_left (Some w) never = absurd (never w refl)

  -- the walk goes on, or ends here
  walk_by : (v x : ℕ) (follows : Follows old v x) → Ends new x → (wanted : Option ℕ) → (holds_still v follows.place follows.holds).search.wanted ≡ wanted
      → Ends new v
  walk_by v x follows rest None is = record {
    end = v;
    steps = [];
    chain = refl;
    is = inr (record { place = follows.place; holds = holds_still v follows.place follows.holds; ready = is });
  }
  walk_by v x follows rest (Some w) is =
      let there = still woken follows.place follows.holds.search follows.holds.at in
      let same : w ≡ x = some_is w x (sym (there.stays.wants w is).0 ∙ follows.wants) in
      let step : Follows new v x =
      record { place = follows.place; holds = holds_still v follows.place follows.holds; wants = is ∙ ap (λ u. Some u) same } in
      record { end = rest.end; steps = x ∷ rest.steps; chain = (step, rest.chain); is = rest.is }

  walk_still : (v : ℕ) (steps : List ℕ) (end : ℕ) → IsChain old v steps end → IsFree old end ⊎ IsAtReady old end → Ends new v
  walk_still v [] end chain is =
      subst (Ends new) (sym chain)
      (record {
        end = end;
        steps = [];
        chain = refl;
        is =
            elim is as (λ _. IsFree new end ⊎ IsAtReady new end)
            [ inl free ↦ inl (free_still end free) | inr ready ↦ inr (ready_still end ready) ];
      })
  walk_still v (x ∷ xs) end chain is =
      walk_by v x chain.0 (walk_still x xs end chain.1 is) (holds_still v chain.0.place chain.0.holds).search.wanted refl

  pub woken_ends : AllEnd old → AllEnd new
  woken_ends all place w search at wanted =
      let was = was_kept woken place search at in
      let ends : Ends old w = all place w was.before was.at (was.stays.wants w wanted).0 in
      walk_still w ends.steps ends.end ends.chain ends.is

-- no search that is left where others are cut is empty
pub moved_some : {lists : List (List ℕ)} {roots done : List ℕ} (now : List (Option SearchValue)) (s : Stack) (v : ℕ) (cuts : List (ℕ × ℕ))
    (new : List (Option SearchValue)) (t : Stack) (end : ℕ) → IsOnTheWay lists roots done now s v → ArePartsMoved now s v cuts new t end
    → ((place : ℕ) (search : SearchValue) → kept_at now place ≡ Some search → 0 < size search.stack)
    → (place : ℕ) (search : SearchValue) → kept_at new place ≡ Some search → 0 < size search.stack
moved_some now s v [] new t end way moved some place search at = some place search (sym (ap (λ kept. kept_at kept place) moved.0) ∙ at)
moved_some now s v (cut ∷ cuts) new t end way moved some place search at =
    let away : IsCutAway now v cut = moved.0 in
    moved_some away.next (joined s away.donor.stack cut.1) away.wants cuts new t end (cut_away cut way away) moved.1
    (λ i one there.
    elim (cases_eq i cut.0) as (λ _. 0 < size one.stack) [
      | inr ne ↦ some i one (sym (away.same i ne) ∙ there)
      | inl is ↦
          let rest = rest_of cut way away one (at_cut cut way away i one is there) in
          omega (
            arith,
            ap size rest.stack_is,
            (left cut way away).size_is,
            rest.some,
            position_le (shaped cut way away) 0 cut.1 (omega arith) (omega (arith, away.cut_is.within)),
          )
    ]) place search at
