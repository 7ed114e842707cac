-- How lists of the slots that have a property grow and shrink.
use Rattle.std.proofs.Common.{◌≡◌, inl, inr, ℕ, ◌<◌, ◌≤◌, ◌+◌, List, [], ◌∷◌, ◌++◌, length, get_or, eqb, refl, ◌∙◌, sym, subst, arith, ne_eqb}
use Rattle.std.proofs.lemmas.Bool.{cases_eq, cases_lt}
use Rattle.std.proofs.lemmas.List.{get_or_append_left, get_or_default, get_or_push, length_push}
use Rattle.std.proofs.lemmas.List.Elements.{Contains-append_left, Contains-get_or, Contains-push, Contains-push_cases}
use Rattle.std.proofs.lemmas.Map.Keys.{IsDistinct-from_apart}
use Rattle.std.proofs.lemmas.Map.Steps.{length-le_from_distinct_below}
use Rattle.std.proofs.lemmas.Map.Views.{Contains-from_any, exact_unsigned_eq}
use Rattle.std.specs.List.{IsDistinct}
use Rattle.std.specs.Prelude.{Contains}
use Rattle.blocked_table.specs.Listed.{AreJust}

-- numbers below a bound, each in the list once, are at most as many as the bound
pub few_once : (xs : List ℕ) (n : ℕ) → ((i j : ℕ) → i < j → j < length xs → get_or xs i 0 ≡ get_or xs j 0 → ⊥)
    → ((x : ℕ) → Contains xs x → x < n) → length xs ≤ n
few_once xs n once below =
    let distinct : IsDistinct eqb xs =
    IsDistinct-from_apart eqb xs
    (λ i j d before lt.
    ne_eqb (get_or xs i d) (get_or xs j d)
    (λ same.
    once i j before lt
    (get_or_default xs i 0 d (omega (arith, before, lt)) ∙ same ∙ sym (get_or_default xs j 0 d lt)))) in
    length-le_from_distinct_below xs n distinct (λ q found. below q (Contains-from_any exact_unsigned_eq q xs found))

module _ {P Q : ℕ → Type 0} where
  pub just_push : (xs : List ℕ) (p : ℕ) → AreJust P xs → (P p → ⊥) → Q p → ((q : ℕ) → P q → Q q)
      → ((q : ℕ) → Q q → (q ≡ p → ⊥) → P q) → AreJust Q (xs ++ p ∷ [])
  just_push xs p are new here up down = record {
    once = λ i j before lt same.
        let long : length (xs ++ p ∷ []) ≡ length xs + 1 = length_push xs p in
        let low : i < length xs = omega (arith, before, lt, long) in
        let left : get_or (xs ++ p ∷ []) i 0 ≡ get_or xs i 0 = get_or_append_left xs (p ∷ []) 0 i low in
        elim (cases_lt j (length xs)) as (λ _. ⊥) [
          | inl inside ↦ are.once i j before inside (sym left ∙ same ∙ get_or_append_left xs (p ∷ []) 0 j inside)
          | inr past ↦
              let last : get_or (xs ++ p ∷ []) j 0 ≡ p = get_or_push xs p 0 j (omega (arith, past, lt, long)) in
              new (are.to p (subst (Contains xs) (sym left ∙ same ∙ last) (Contains-get_or xs i 0 low)))
        ];
    to = λ place member.
        elim (Contains-push_cases xs p place member) as (λ _. Q place)
        [ inl before ↦ up place (are.to place before) | inr is ↦ subst Q is here ];
    from = λ place holds.
        elim (cases_eq place p) as (λ _. Contains (xs ++ p ∷ []) place) [
          | inl is ↦ subst (Contains (xs ++ p ∷ [])) (sym is) (Contains-push xs p)
          | inr ne ↦ Contains-append_left xs (p ∷ []) place (are.from place (down place holds ne))
        ];
  }

  pub just_pop : (xs : List ℕ) (p : ℕ) → AreJust P (xs ++ p ∷ []) → (Q p → ⊥) → ((q : ℕ) → P q → (q ≡ p → ⊥) → Q q)
      → ((q : ℕ) → Q q → P q) → AreJust Q xs
  just_pop xs p are gone up down =
      let long : length (xs ++ p ∷ []) ≡ length xs + 1 = length_push xs p in
      let left : (i : ℕ) → i < length xs → get_or (xs ++ p ∷ []) i 0 ≡ get_or xs i 0 = λ i lt. get_or_append_left xs (p ∷ []) 0 i lt in
      record {
        once = λ i j before lt same.
            are.once i j before (omega (arith, lt, long)) (left i (omega (arith, before, lt)) ∙ same ∙ sym (left j lt));
        to = λ place member.
            up place (are.to place (Contains-append_left xs (p ∷ []) place member))
            (λ is.
            let lt : member.0 < length xs = member.1 in
            let read : get_or xs member.0 0 ≡ p = get_or_default xs member.0 0 place lt ∙ member.2 ∙ is in
            are.once member.0 (length xs) lt (omega (arith, long)) (left member.0 lt ∙ read ∙ sym (get_or_push xs p 0 (length xs) refl)));
        from = λ place holds.
            elim (Contains-push_cases xs p place (are.from place (down place holds))) as (λ _. Contains xs place)
            [ inl before ↦ before | inr is ↦ absurd (gone (subst Q (sym is) holds)) ];
      }

  pub just_same : {xs : List ℕ} → AreJust P xs → ((q : ℕ) → P q → Q q) → ((q : ℕ) → Q q → P q) → AreJust Q xs
  just_same {xs} are up down = record {
    once = are.once;
    to = λ place member. up place (are.to place member);
    from = λ place holds. are.from place (down place holds);
  }

pub just_few : {P : ℕ → Type 0} (xs : List ℕ) (n : ℕ) → AreJust P xs → ((place : ℕ) → P place → place < n) → length xs ≤ n
just_few {P} xs n are below = few_once xs n are.once (λ x member. below x (are.to x member))
