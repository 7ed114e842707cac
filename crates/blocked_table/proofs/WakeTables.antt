-- What becomes of the tables if some suspended searches become ready.
use Rattle.std.proofs.Common.{◌≡◌, ◌⊎◌, inl, inr, ℕ, List, [], ◌∷◌, Option, None, Some, refl, ap, ◌∙◌, sym, subst, arith}
use Rattle.search_stack.specs.Stack.{size}
use Rattle.search_stack.specs.Search.{SearchValue, IsDistinct, IsOn}
use Rattle.blocked_table.specs.Blocked.{IsKept, IsTable}
use Rattle.blocked_table.specs.BlockedFields.{AreWords, IsVacant}
use Rattle.blocked_table.specs.Kept.{kept_at, Holds, Follows, IsChain, IsFree, IsAtReady, Ends}
use Rattle.blocked_table.specs.Listed.{AreJust}
use Rattle.blocked_table.specs.Waking.{AreSomeWoken}
use Rattle.blocked_table.proofs.Chain.{none_is_not, same_search}
use Rattle.blocked_table.proofs.Listed.{just_same}

-- what became of a search: it stays as it was, or is ready
pub record Becomes (new : List (Option SearchValue)) (i : ℕ) (search : SearchValue) : Type 0 where
  pub after : SearchValue
  pub at : kept_at new i ≡ Some after
  pub stack_is : after.stack ≡ search.stack
  pub either : (after ≡ search) ⊎ (after.wanted ≡ None)

module _ {P : ℕ → Type 0} {old new : List (Option SearchValue)} (some : AreSomeWoken P old new) where
  becomes : (i : ℕ) (search : SearchValue) → kept_at old i ≡ Some search → Becomes new i search
  becomes i search at =
      elim (some.some i search at) as (λ _. Becomes new i search) [
        | inl stays ↦ record { after = search; at = stays; stack_is = refl; either = inl refl }
        | inr is ↦ record { after = record search { wanted = None }; at = is.ready; stack_is = refl; either = inr refl }
      ]

  -- where a search that is in a slot now comes from
  record ComesFrom (i : ℕ) (after : SearchValue) : Type 0 where
    before : SearchValue
    at : kept_at old i ≡ Some before
    stack_is : after.stack ≡ before.stack
    either : (after ≡ before) ⊎ (after.wanted ≡ None)

  comes_by : (i : ℕ) (after : SearchValue) → kept_at new i ≡ Some after → (o : Option SearchValue) → kept_at old i ≡ o → ComesFrom i after
  comes_by i after at None was = absurd (none_is_not after (kept_at new i) (some.none i was) at)
  comes_by i after at (Some before) was =
      let is : Becomes new i before = becomes i before was in
      let same : is.after ≡ after = same_search new i is.after after is.at at in
      record {
        before = before;
        at = was;
        stack_is = sym (ap (λ (one : SearchValue). one.stack) same) ∙ is.stack_is;
        either = subst (λ (one : SearchValue). (one ≡ before) ⊎ (one.wanted ≡ None)) same is.either;
      }

  comes : (i : ℕ) (after : SearchValue) → kept_at new i ≡ Some after → ComesFrom i after
  comes i after at = comes_by i after at (kept_at old i) refl

  held_now : (i v : ℕ) → Holds old i v → Holds new i v
  held_now i v holds =
      let is : Becomes new i holds.search = becomes i holds.search holds.at in
      record { search = is.after; at = is.at; on = subst (λ stack. IsOn stack v) (sym is.stack_is) holds.on }

  held_then : (i v : ℕ) → Holds new i v → Holds old i v
  held_then i v holds =
      let from : ComesFrom i holds.search = comes i holds.search holds.at in
      record { search = from.before; at = from.at; on = subst (λ stack. IsOn stack v) from.stack_is holds.on }

  free_now : (v : ℕ) → IsFree old v → IsFree new v
  free_now v free i holds = free i (held_then i v holds)

  -- following what searches wait for still ends, maybe earlier
  ends_now : (v : ℕ) (steps : List ℕ) (end : ℕ) → IsChain old v steps end → IsFree old end ⊎ IsAtReady old end → Ends new v
  ends_now v [] end chain is =
      elim is as (λ _. Ends new v) [
        | inl free ↦ record { end = end; steps = []; chain = chain; is = inl (free_now end free) }
        | inr ready ↦
            let there : Becomes new ready.place ready.holds.search = becomes ready.place ready.holds.search ready.holds.at in
            record {
              end = end;
              steps = [];
              chain = chain;
              is =
                  inr
                  (record {
                    place = ready.place;
                    holds =
                        record {
                          search = there.after;
                          at = there.at;
                          on = subst (λ stack. IsOn stack end) (sym there.stack_is) ready.holds.on;
                        };
                    ready =
                        elim there.either as (λ _. there.after.wanted ≡ None) [
                          | inl same ↦ ap (λ (one : SearchValue). one.wanted) same ∙ ready.ready
                          | inr none ↦ none
                        ];
                  });
            }
      ]
  ends_now v (x ∷ xs) end chain is =
      let follows : Follows old v x = chain.0 in
      let there : Becomes new follows.place follows.holds.search = becomes follows.place follows.holds.search follows.holds.at in
      let on : IsOn there.after.stack v = subst (λ stack. IsOn stack v) (sym there.stack_is) follows.holds.on in
      elim there.either as (λ _. Ends new v) [
        | inl same ↦
            let then : Ends new x = ends_now x xs end chain.1 is in
            record {
              end = then.end;
              steps = x ∷ then.steps;
              chain = (
                record {
                  place = follows.place;
                  holds = record { search = there.after; at = there.at; on = on };
                  wants = ap (λ (one : SearchValue). one.wanted) same ∙ follows.wants;
                },
                then.chain,
              );
              is = then.is;
            }
        | inr none ↦
            record {
              end = v;
              steps = [];
              chain = refl;
              is = inr (record { place = follows.place; holds = record { search = there.after; at = there.at; on = on }; ready = none });
            }
      ]

  pub wake_table : (count most : ℕ) → IsTable (record { count = count; most = most; kept = old })
      → IsTable (record { count = count; most = most; kept = new })
  wake_table count most table = record {
    few = omega (arith, table.few, some.each);
    each = λ i after at.
        let from : ComesFrom i after = comes i after at in
        let kept : IsKept from.before = table.each i from.before from.at in
        record {
          some = omega (arith, kept.some, ap size from.stack_is);
          distinct = subst IsDistinct (sym from.stack_is) kept.distinct;
        };
    below = λ i v holds. table.below i v (held_then i v holds);
    apart = λ i j v first second. table.apart i j v (held_then i v first) (held_then j v second);
    ends = λ i w after at wanted.
        let from : ComesFrom i after = comes i after at in
        elim from.either as (λ _. Ends new w) [
          | inl same ↦
              let ends : Ends old w = table.ends i w from.before from.at (sym (ap (λ (one : SearchValue). one.wanted) same) ∙ wanted) in
              ends_now w ends.steps ends.end ends.chain ends.is
          | inr none ↦ absurd (none_is_not w after.wanted none wanted)
        ];
  }

  pub wake_words : (words : List ℕ) → AreWords words old → AreWords words new
  wake_words words hold i v = (λ word. held_now i v ((hold i v).0 word), λ holds. (hold i v).1 (held_then i v holds))

  pub wake_vacant : {vacant : List ℕ} → AreJust (IsVacant old) vacant → AreJust (IsVacant new) vacant
  wake_vacant {vacant} are_vacant =
      just_same are_vacant
      (λ i was. (omega (arith, was.0, some.each), some.none i was.1))
      (λ i now. (omega (arith, now.0, some.each), was_none i now.1 (kept_at old i) refl))
    where
      was_none : (i : ℕ) → kept_at new i ≡ None → (o : Option SearchValue) → kept_at old i ≡ o → kept_at old i ≡ None
      was_none i none None is = is
      was_none i none (Some search) is =
          let there : Becomes new i search = becomes i search is in
          absurd (none_is_not there.after (kept_at new i) none there.at)
