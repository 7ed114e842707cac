-- What becomes of the tables if a ready search is taken.
use Rattle.std.proofs.Common.{◌≡◌, ◌⊎◌, inl, inr, ℕ, ◌+◌, List, [], ◌∷◌, ◌++◌, get_or, Option, Some, ap, ◌∙◌, sym, subst, arith}
use Rattle.std.proofs.lemmas.Bool.{cases_eq}
use Rattle.std.specs.Prelude.{◌↔◌}
use Rattle.search_stack.specs.Stack.{size}
use Rattle.search_stack.specs.Search.{SearchValue, IsOn}
use Rattle.blocked_table.specs.Blocked.{IsTable, IsReadyAt, IsTaken}
use Rattle.blocked_table.specs.BlockedFields.{AreWords, IsVacant}
use Rattle.blocked_table.specs.Kept.{kept_at, Holds, IsApart, Follows, IsChain, IsFree, IsAtReady, Ends}
use Rattle.blocked_table.specs.Listed.{AreJust}
use Rattle.blocked_table.specs.Words.{AreWritten}
use Rattle.blocked_table.proofs.Chain.{none_is_not, on_or_off, place_within, some_is}
use Rattle.blocked_table.proofs.Listed.{just_pop, just_push}

module _ {old new : List (Option SearchValue)} {search : SearchValue} (taken : IsTaken old new search) where
  -- what still holds a node did before, in another slot
  record StillHolds (i v : ℕ) : Type 0 where
    other : i ≡ taken.place → ⊥
    before : Holds old i v

  still : (i v : ℕ) → Holds new i v → StillHolds i v
  still i v holds =
      let other : i ≡ taken.place → ⊥ = λ is. none_is_not holds.search (kept_at new i) (ap (kept_at new) is ∙ taken.vacant) holds.at in
      record { other = other; before = record { search = holds.search; at = sym (taken.same i other) ∙ holds.at; on = holds.on } }

  stays : (i v : ℕ) → Holds old i v → (i ≡ taken.place → ⊥) → Holds new i v
  stays i v holds other = record { search = holds.search; at = taken.same i other ∙ holds.at; on = holds.on }

  was_at : (i : ℕ) (one : SearchValue) → kept_at new i ≡ Some one → kept_at old i ≡ Some one
  was_at i one at =
      let other : i ≡ taken.place → ⊥ = λ is. none_is_not one (kept_at new i) (ap (kept_at new) is ∙ taken.vacant) at in
      sym (taken.same i other) ∙ at

  take_apart : IsApart old → IsApart new
  take_apart apart i j v first second = apart i j v (still i v first).before (still j v second).before

  own : (v : ℕ) → IsOn search.stack v → Holds old taken.place v
  own v on = record { search = search; at = taken.at; on = on }

  -- no step leads over the search that is ready
  follows_still : (v x : ℕ) → Follows old v x → Follows new v x
  follows_still v x follows =
      let other : follows.place ≡ taken.place → ⊥ = λ is.
      let same : follows.holds.search ≡ search =
      some_is follows.holds.search search (sym follows.holds.at ∙ ap (kept_at old) is ∙ taken.at) in
      none_is_not x search.wanted taken.wants_nothing (sym (ap (λ (one : SearchValue). one.wanted) same) ∙ follows.wants) in
      record {
        place = follows.place;
        holds =
            record {
              search = follows.holds.search;
              at = taken.same follows.place other ∙ follows.holds.at;
              on = follows.holds.on;
            };
        wants = follows.wants;
      }

  chain_still : (v : ℕ) (steps : List ℕ) (w : ℕ) → IsChain old v steps w → IsChain new v steps w
  chain_still v [] w chain = chain
  chain_still v (x ∷ xs) w chain = (follows_still v x chain.0, chain_still x xs w chain.1)

  ends_still : IsApart old → (v : ℕ) → Ends old v → Ends new v
  ends_still apart v ends = record {
    end = ends.end;
    steps = ends.steps;
    chain = chain_still v ends.steps ends.end ends.chain;
    is = elim ends.is as (λ _. IsFree new ends.end ⊎ IsAtReady new ends.end) [
      | inl free ↦ inl (λ i holds. free i (still i ends.end holds).before)
      | inr ready ↦
          elim (cases_eq ready.place taken.place) as (λ _. IsFree new ends.end ⊎ IsAtReady new ends.end) [
            | inl is ↦
                inl
                (λ i holds.
                let there : StillHolds i ends.end = still i ends.end holds in
                there.other (apart i ready.place ends.end there.before ready.holds ∙ is))
            | inr ne ↦
                inr
                (record {
                  place = ready.place;
                  holds =
                      record {
                        search = ready.holds.search;
                        at = taken.same ready.place ne ∙ ready.holds.at;
                        on = ready.holds.on;
                      };
                  ready = ready.ready;
                })
          ]
    ];
  }

  pub take_table : (count most : ℕ) → IsTable (record { count = count; most = most; kept = old })
      → IsTable (record { count = count; most = most; kept = new })
  take_table count most table = record {
    few = omega (arith, table.few, taken.each);
    each = λ i one at. table.each i one (was_at i one at);
    below = λ i v holds. table.below i v (still i v holds).before;
    apart = take_apart table.apart;
    ends = λ i w one at wanted. ends_still table.apart w (table.ends i w one (was_at i one at) wanted);
  }

  pub take_words : {words after : List ℕ} → IsApart old → AreWords words old → AreWritten search.stack 0 (size search.stack) 0 words after
      → AreWords after new
  take_words {words} {after} apart are is i v =
      elim (on_or_off search.stack v) as (λ _. (get_or after v 0 ≡ i + 1) ↔ Holds new i v) [
        | inl on ↦
            let zero_word : get_or after v 0 ≡ 0 =
            is.written v (record { place = on.place; from = omega arith; below = on.within; is = on.is }) in (
              λ word. absurd (omega (arith, word, zero_word)),
              λ holds.
                  let there : StillHolds i v = still i v holds in
                  absurd (there.other (apart i taken.place v there.before (own v on))),
            )
        | inr off ↦
            let same : get_or after v 0 ≡ get_or words v 0 =
            is.kept v (λ stands. off (record { place = stands.place; within = stands.below; is = stands.is })) in (
              λ word.
                  let holds : Holds old i v = (are i v).0 (sym same ∙ word) in
                  stays i v holds
                  (λ at.
                  off
                  (subst (λ (one : SearchValue). IsOn one.stack v)
                  (some_is holds.search search (sym holds.at ∙ ap (kept_at old) at ∙ taken.at)) holds.on)),
              λ holds. same ∙ (are i v).1 (still i v holds).before,
            )
      ]

  pub take_vacant : (vacant : List ℕ) → AreJust (IsVacant old) vacant → AreJust (IsVacant new) (vacant ++ taken.place ∷ [])
  take_vacant vacant are =
      just_push vacant taken.place are (λ was. none_is_not search (kept_at old taken.place) was.1 taken.at)
      (omega (arith, place_within old taken.place search taken.at, taken.each), taken.vacant)
      (λ i was.
      let other : i ≡ taken.place → ⊥ = λ is. none_is_not search (kept_at old i) was.1 (ap (kept_at old) is ∙ taken.at) in
      (omega (arith, was.0, taken.each), taken.same i other ∙ was.1))
      (λ i now other. (omega (arith, now.0, taken.each), sym (taken.same i other) ∙ now.1))

  pub take_ready_list : (ready : List ℕ) → AreJust (IsReadyAt old) (ready ++ taken.place ∷ []) → AreJust (IsReadyAt new) ready
  take_ready_list ready are =
      just_pop ready taken.place are (λ now. none_is_not now.search (kept_at new taken.place) taken.vacant now.at)
      (λ i was other. record { search = was.search; at = taken.same i other ∙ was.at; wants_nothing = was.wants_nothing })
      (λ i now. record { search = now.search; at = was_at i now.search now.at; wants_nothing = now.wants_nothing })
