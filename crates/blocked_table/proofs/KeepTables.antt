-- What becomes of the tables if one more search is suspended.
use Rattle.std.proofs.Common.{◌≡◌, ◌⊎◌, inl, inr, ℕ, ◌<◌, ◌≤◌, ◌+◌, List, [], ◌∷◌, ◌++◌, length, get_or, Option, Some, ap, ◌∙◌, sym, subst, arith}
use Rattle.std.proofs.lemmas.Bool.{cases_eq}
use Rattle.std.specs.Prelude.{◌↔◌}
use Rattle.search_stack.specs.Stack.{size}
use Rattle.search_stack.specs.Search.{SearchValue, IsOn}
use Rattle.blocked_table.specs.Blocked.{IsKept, IsTable, IsReadyAt}
use Rattle.blocked_table.specs.BlockedFields.{AreWords, IsVacant}
use Rattle.blocked_table.specs.Kept.{kept_at, Holds, ComesTo}
use Rattle.blocked_table.specs.Listed.{AreJust}
use Rattle.blocked_table.specs.Suspending.{Adds}
use Rattle.blocked_table.specs.Words.{AreWritten}
use Rattle.blocked_table.proofs.Chain.{add_apart, add_ends, held_before, none_is_not, on_or_off, some_is, still_holds}
use Rattle.blocked_table.proofs.Listed.{just_pop, just_same}
use Rattle.blocked_table.proofs.WalkSteps.{ends_any}

module _ {old new : List (Option SearchValue)} {place : ℕ} {search : SearchValue} (adds : Adds old new place search) (on : ℕ)
    (wants : search.wanted ≡ Some on) (off : (i v : ℕ) → Holds old i v → IsOn search.stack v → ⊥) where
  -- what is in a slot now was there, or is the search that is suspended now
  was_there : (i : ℕ) (one : SearchValue) → kept_at new i ≡ Some one → (kept_at old i ≡ Some one) ⊎ ((i ≡ place) × (one ≡ search))
  was_there i one at =
      elim (cases_eq i place) as (λ _. (kept_at old i ≡ Some one) ⊎ ((i ≡ place) × (one ≡ search))) [
        | inl is ↦ inr (is, some_is one search (sym at ∙ ap (kept_at new) is ∙ adds.at))
        | inr ne ↦ inl (sym (adds.same i ne) ∙ at)
      ]

  pub keep_table : (count most : ℕ) → length new ≤ most → IsKept search → ((v : ℕ) → IsOn search.stack v → v < count)
      → (ComesTo old search.stack on → ⊥) → IsTable (record { count = count; most = most; kept = old })
      → IsTable (record { count = count; most = most; kept = new })
  keep_table count most few kept below never table = record {
    few = few;
    each = λ i one at.
        elim (was_there i one at) as (λ _. IsKept one) [ inl before ↦ table.each i one before | inr here ↦ subst IsKept (sym here.1) kept ];
    below = λ i v holds.
        elim (held_before adds i v holds) as (λ _. v < count) [ inl before ↦ table.below i v before | inr here ↦ below v here.1 ];
    apart = add_apart adds table.apart off;
    ends = add_ends adds on wants table.ends (ends_any table on) never;
  }

  pub keep_words : {words after : List ℕ} → AreWords words old → AreWritten search.stack 0 (size search.stack) (place + 1) words after
      → AreWords after new
  keep_words {words} {after} are is i v =
      elim (on_or_off search.stack v) as (λ _. (get_or after v 0 ≡ i + 1) ↔ Holds new i v) [
        | inl here ↦
            let own : get_or after v 0 ≡ place + 1 =
            is.written v (record { place = here.place; from = omega arith; below = here.within; is = here.is }) in (
              λ word.
                  let same : place ≡ i = omega (arith, word, own) in
                  record { search = search; at = ap (kept_at new) (sym same) ∙ adds.at; on = here },
              λ holds.
                  elim (held_before adds i v holds) as (λ _. get_or after v 0 ≡ i + 1)
                  [ inl before ↦ absurd (off i v before here) | inr now ↦ omega (arith, own, now.0) ],
            )
        | inr none ↦
            let same : get_or after v 0 ≡ get_or words v 0 =
            is.kept v (λ stands. none (record { place = stands.place; within = stands.below; is = stands.is })) in (
              λ word. still_holds adds i v ((are i v).0 (sym same ∙ word)),
              λ holds.
                  elim (held_before adds i v holds) as (λ _. get_or after v 0 ≡ i + 1)
                  [ inl before ↦ same ∙ (are i v).1 before | inr now ↦ absurd (none now.1) ],
            )
      ]

  pub keep_ready : {ready : List ℕ} → AreJust (IsReadyAt old) ready → AreJust (IsReadyAt new) ready
  keep_ready {ready} are =
      just_same are
      (λ i was.
      let other : i ≡ place → ⊥ = λ is. none_is_not was.search (kept_at old i) (ap (kept_at old) is ∙ adds.vacant) was.at in
      record { search = was.search; at = adds.same i other ∙ was.at; wants_nothing = was.wants_nothing })
      (λ i now.
      elim (was_there i now.search now.at) as (λ _. IsReadyAt old i) [
        | inl before ↦ record { search = now.search; at = before; wants_nothing = now.wants_nothing }
        | inr here ↦
            absurd
            (none_is_not on now.search.wanted now.wants_nothing (ap (λ (one : SearchValue). one.wanted) here.1 ∙ wants))
      ])

  -- the slot was the last of the vacant ones
  pub keep_popped : (rest : List ℕ) → length new ≡ length old → AreJust (IsVacant old) (rest ++ place ∷ []) → AreJust (IsVacant new) rest
  keep_popped rest same_length are =
      just_pop rest place are (λ now. none_is_not search (kept_at new place) now.1 adds.at)
      (λ i was ne. (omega (arith, was.0, same_length), adds.same i ne ∙ was.1))
      (λ i now.
      let ne : i ≡ place → ⊥ = λ is. none_is_not search (kept_at new i) now.1 (ap (kept_at new) is ∙ adds.at) in
      (omega (arith, now.0, same_length), sym (adds.same i ne) ∙ now.1))

  -- or it is a new one
  pub keep_pushed : {vacant : List ℕ} → place ≡ length old → length new ≡ length old + 1 → AreJust (IsVacant old) vacant
      → AreJust (IsVacant new) vacant
  keep_pushed {vacant} last longer are =
      just_same are
      (λ i was. (omega (arith, was.0, longer), adds.same i (λ is. omega (arith, is, last, was.0)) ∙ was.1))
      (λ i now.
      let ne : i ≡ place → ⊥ = λ is. none_is_not search (kept_at new i) now.1 (ap (kept_at new) is ∙ adds.at) in
      (omega (arith, now.0, longer, ne, last), sym (adds.same i ne) ∙ now.1))
