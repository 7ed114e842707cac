-- Suspended searches keep their invariant if those that wait for a finished node become ready.
use Rattle.std.proofs.Common.{◌≡◌, ◌⊎◌, inl, inr, ℕ, List, [], ◌∷◌, Option, None, Some, is_some, refl, ◌∙◌, sym, subst}
use Rattle.std.specs.Prelude.{Contains, IfSome}
use Rattle.list_laws.proofs.OneOrder.{first_or_rest, in_first, in_rest, nothing_in}
use Rattle.std.proofs.lemmas.Bool.{cases_eq}
use Rattle.search_stack.specs.Search.{SearchValue, IsGoodSearch, IsLastBegun}
use Rattle.search_stack.specs.GoodSearch.{IsGood}
use Rattle.search_stack.proofs.Edges.{good_finished, good_more}
use Rattle.blocked_table.specs.Blocked.{IsWoken}
use Rattle.blocked_table.specs.Kept.{kept_at}
use Rattle.blocked_table.proofs.Chain.{none_is_not, same_search}

-- a number is in a list or not
member_or_not : (xs : List ℕ) (w : ℕ) → Contains xs w ⊎ (Contains xs w → ⊥)
member_or_not [] w = inr (nothing_in w)
member_or_not (x ∷ xs) w =
    elim (cases_eq x w) as (λ _. Contains (x ∷ xs) w ⊎ (Contains (x ∷ xs) w → ⊥)) [
      | inl is ↦ inl (subst (Contains (x ∷ xs)) is (in_first x xs))
      | inr ne ↦
          elim (member_or_not xs w) as (λ _. Contains (x ∷ xs) w ⊎ (Contains (x ∷ xs) w → ⊥)) [
            | inl later ↦ inl (in_rest x w xs later)
            | inr none ↦ inr (λ member. elim (first_or_rest x w xs member) as (λ _. ⊥) [ inl is ↦ ne is | inr later ↦ none later ])
          ]
    ]

module _ {lists : List (List ℕ)} {roots done more group : List ℕ} {old new : List (Option SearchValue)} (woken : IsWoken group old new)
    (grows : (v : ℕ) → Contains done v → Contains more v) (finished : (v : ℕ) → Contains group v → Contains more v)
    (good : (place : ℕ) (search : SearchValue) → kept_at old place ≡ Some search → IsGoodSearch lists roots done search) where
  stays : (search : SearchValue) → IsGoodSearch lists roots done search → IsGoodSearch lists roots more search
  stays search was = record { good = good_more more was.good grows; wants = was.wants }

  wakes : (search : SearchValue) (w : ℕ) → search.wanted ≡ Some w → Contains group w → IsGoodSearch lists roots done search
      → IsGoodSearch lists roots more (record search { wanted = None })
  wakes search w wants member was =
      let P : Option ℕ → Type 0 = λ o. IsGood lists roots more (is_some o) search.stack in
      let Q : Option ℕ → Type 0 = λ o. IfSome o (IsLastBegun search.stack) in
      record {
        good = good_finished (subst P wants (good_more more was.good grows)) (subst Q wants was.wants) (finished w member);
        wants = tt;
      }

  by_wants : (place : ℕ) (before after : SearchValue) → kept_at old place ≡ Some before → kept_at new place ≡ Some after → (wanted : Option ℕ)
      → before.wanted ≡ wanted → IsGoodSearch lists roots more after
  by_wants place before after at there None is =
      let same : before ≡ after =
      same_search new place before after (woken.same place before at (λ w wants member. none_is_not w before.wanted is wants)) there in
      subst (IsGoodSearch lists roots more) same (stays before (good place before at))
  by_wants place before after at there (Some w) is =
      elim (member_or_not group w) as (λ _. IsGoodSearch lists roots more after) [
        | inl member ↦
            let same : record before { wanted = None } ≡ after =
            same_search new place (record before { wanted = None }) after (woken.woken place w before at is member) there in
            subst (IsGoodSearch lists roots more) same (wakes before w is member (good place before at))
        | inr out ↦
            let same : before ≡ after =
            same_search new place before after
            (woken.same place before at (λ u wants member. out (subst (Contains group) (one_of u w (sym wants ∙ is)) member))) there in
            subst (IsGoodSearch lists roots more) same (stays before (good place before at))
      ]
    where
      one_of : (u w : ℕ) → Some u ≡ Some w → u ≡ w
      one_of u w is = cc

  by_place : (place : ℕ) (after : SearchValue) → kept_at new place ≡ Some after → (o : Option SearchValue) → kept_at old place ≡ o
      → IsGoodSearch lists roots more after
  by_place place after there None none = absurd (none_is_not after (kept_at new place) (woken.none place none) there)
  by_place place after there (Some before) at = by_wants place before after at there before.wanted refl

  pub woken_good : (place : ℕ) (after : SearchValue) → kept_at new place ≡ Some after → IsGoodSearch lists roots more after
  woken_good place after there = by_place place after there (kept_at old place) refl
