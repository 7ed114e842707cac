-- Chains of places in buckets: how one is followed to a place that passes a test, and how a place is added.
use Rattle.std.proofs.Common.{◌≡◌, ◌≢◌, ℕ, ◌+◌, ◌-◌, ◌<◌, ◌≤◌, inl, inr, List, [], ◌∷◌, ◌++◌, Bool, false, length, get_or, set, sym, ap, subst, ◌∙◌, arith}
use Rattle.std.proofs.lemmas.Bool.{cases_eq, cases_order, cases_lt}
use Rattle.std.proofs.Math.ListN.{length-set}
use Rattle.std.proofs.lemmas.List.{get_or-set_same, get_or-set_other, get_or_append_left, get_or_push, length_push}
use Rattle.prolog_names.specs.Table.{bucket_at, IsLast, AreChains}

-- of so many places none at this one or behind it passes the test, and the place before is in the bucket
pub record ArePassed (buckets : List ℕ) (test : ℕ → Bool) (count bucket at : ℕ) : Type 0 where
  pub within : at ≤ count
  pub none : (m : ℕ) → at ≤ m → m < count → test m ≡ false
  pub before : 0 < at → bucket_at buckets (at - 1) ≡ bucket

-- where no place of another bucket passes the test
module _ (buckets : List ℕ) (test : ℕ → Bool) (count bucket : ℕ) (heads next : List ℕ) (chains : AreChains buckets count heads next)
    (apart : (m : ℕ) → m < count → bucket_at buckets m ≢ bucket → test m ≡ false) where
  pub head_passed : bucket < length heads → ArePassed buckets test count bucket (get_or heads bucket 0)
  head_passed below =
      let last = chains.last bucket below in
      record { within = last.within; none = λ m from under. apart m under (last.none_behind m from under); before = last.is }

  -- the place before doesn't pass it either
  pub next_passed : (at : ℕ) → ArePassed buckets test count bucket at → 0 < at → test (at - 1) ≡ false
      → ArePassed buckets test count bucket (get_or next (at - 1) 0)
  next_passed at passed some other =
      let below : at - 1 < count = omega (arith, passed.within, some) in
      let last = chains.earlier (at - 1) below in record {
        within = omega (arith, last.within, below);
        none = λ m from under.
            elim (cases_order m (at - 1)) [
              | inl is ↦ subst (λ k. test k ≡ false) (sym is) other
              | inr (inl before) ↦ apart m under (subst (λ b. bucket_at buckets m ≢ b) (passed.before some) (last.none_behind m from before))
              | inr (inr behind) ↦ passed.none m (omega (arith, behind, some)) under
            ];
        before = λ more. last.is more ∙ passed.before some;
      }

-- the next place is put in front of its chain
pub add_place : (buckets heads next : List ℕ) (n b : ℕ) → b ≡ bucket_at buckets n → b < length heads → AreChains buckets n heads next
    → AreChains buckets (n + 1) (set heads b (n + 1)) (next ++ get_or heads b 0 ∷ [])
add_place buckets heads next n b is below chains = record {
  as_many = length_push next (get_or heads b 0) ∙ ap (λ k. k + 1) chains.as_many;
  last = λ c within.
      elim (cases_eq c b) [
        | inl same ↦ subst (λ d. IsLast buckets (n + 1) d (get_or (set heads b (n + 1)) d 0)) (sym same)
            (subst (IsLast buckets (n + 1) b) (sym (get_or-set_same heads b (n + 1) 0 below)) newest)
        | inr other ↦
            subst (IsLast buckets (n + 1) c) (sym (get_or-set_other heads b c (n + 1) 0 other))
            (kept c other (chains.last c (omega (arith, within, length-set heads b (n + 1)))))
      ];
  earlier = λ k within.
      elim (cases_lt k n) [
        | inl before ↦
            subst (IsLast buckets k (bucket_at buckets k))
            (sym (get_or_append_left next (get_or heads b 0 ∷ []) 0 k (omega (arith, before, chains.as_many)))) (chains.earlier k before)
        | inr from ↦
            let here : n ≡ k = omega (arith, within, from) in
            subst (λ j. IsLast buckets j (bucket_at buckets j) (get_or (next ++ get_or heads b 0 ∷ []) j 0)) here
            (subst (IsLast buckets n (bucket_at buckets n)) (sym (get_or_push next (get_or heads b 0) 0 n chains.as_many))
            (subst (λ c. IsLast buckets n c (get_or heads b 0)) is (chains.last b below)))
      ];
}
  where
    newest : IsLast buckets (n + 1) b (n + 1)
    newest = record {
      within = omega arith;
      none_behind = λ m from under. absurd (omega (arith, from, under));
      is = λ some. let back : (n + 1) - 1 ≡ n = omega arith in ap (bucket_at buckets) back ∙ sym is;
    }

    kept : (c : ℕ) → c ≢ b → {x : ℕ} → IsLast buckets n c x → IsLast buckets (n + 1) c x
    kept c other {x} last = record {
      within = omega (arith, last.within);
      none_behind = λ m from under.
          elim (cases_lt m n) [
            | inl before ↦ last.none_behind m from before
            | inr at ↦
                let here : m ≡ n = omega (arith, under, at) in
                λ e. other (sym e ∙ ap (bucket_at buckets) here ∙ sym is)
          ];
      is = last.is;
    }

-- what stands behind the places changes no chain
last_ahead : (buckets more : List ℕ) (below bucket x : ℕ) → below ≤ length buckets → IsLast buckets below bucket x → IsLast (buckets ++ more) below bucket x
last_ahead buckets more below bucket x within last = record {
  within = last.within;
  none_behind = λ m from under.
      subst (λ b. b ≢ bucket) (sym (get_or_append_left buckets more 0 m (omega (arith, under, within)))) (last.none_behind m from under);
  is = λ some. get_or_append_left buckets more 0 (x - 1) (omega (arith, some, last.within, within)) ∙ last.is some;
}

pub chains_ahead : (buckets more heads next : List ℕ) (n : ℕ) → n ≤ length buckets → AreChains buckets n heads next → AreChains (buckets ++ more) n heads next
chains_ahead buckets more heads next n within chains = record {
  as_many = chains.as_many;
  last = λ b below. last_ahead buckets more n b (get_or heads b 0) within (chains.last b below);
  earlier = λ k below.
      subst (λ b. IsLast (buckets ++ more) k b (get_or next k 0)) (sym (get_or_append_left buckets more 0 k (omega (arith, below, within))))
      (last_ahead buckets more k (bucket_at buckets k) (get_or next k 0) (omega (arith, below, within)) (chains.earlier k below));
}
