-- Chains of names in buckets: how one is followed, and how a name is added.
use Rattle.std.proofs.Common.{◌≡◌, ◌≢◌, ℕ, ◌+◌, ◌-◌, ◌<◌, List, [], ◌∷◌, ◌++◌, length, get_or, set, true, false, sym, ap, subst, ◌∙◌, arith}
use Rattle.std.specs.Int.{IsPowerOfTwo}
use Rattle.std.specs.List.{list_any}
use Rattle.std.specs.Str.{bytes_eq}
use Rattle.std.proofs.lemmas.Bool.{false_from_ne_true}
use Rattle.std.proofs.lemmas.Slice.Eq.{bytes_eq-Decides}
use Rattle.std.proofs.Math.ListN.{length-set}
use Rattle.std.proofs.lemmas.List.{get_or-map, get_or_push, length_push, map-append, length-map}
use Rattle.std.proofs.lemmas.List.Elements.{All-from_get_or}
use Rattle.std.proofs.lemmas.List.Folds.{list_any_none}
use Rattle.prolog_names.specs.Table.{Far, chain_of, chains_of, bucket_at, AreChains, IsChained}
use Rattle.prolog_names.proofs.ChainSteps.{ArePassed, head_passed, next_passed, add_place, chains_ahead}

-- two names that the test finds equal are
pub same_bytes : (one other : List ℕ) → bytes_eq one other ≡ true → one ≡ other
same_bytes one other is = (bytes_eq-Decides one other).0 is

-- the name doesn't stand at the place or behind it, and the place before is in its chain
abbrev pub IsPassed : Far → List (List ℕ) → ℕ → List ℕ → ℕ → Type 0
IsPassed far names size wanted at =
    ArePassed (chains_of far size names) (λ m. bytes_eq wanted (get_or names m [])) (length names) (chain_of far size wanted) at

-- a name of another chain is another one
other_chain : (far : Far) (names : List (List ℕ)) (size : ℕ) (wanted : List ℕ) (m : ℕ) → m < length names
    → bucket_at (chains_of far size names) m ≢ chain_of far size wanted → bytes_eq wanted (get_or names m []) ≡ false
other_chain far names size wanted m within apart =
    false_from_ne_true (bytes_eq wanted (get_or names m []))
    (λ is. apart
    (get_or-map (chain_of far size) names m [] 0 within ∙ ap (chain_of far size) (sym (same_bytes wanted (get_or names m []) is))))

pub from_head : (far : Far) (names : List (List ℕ)) (heads next : List ℕ) (wanted : List ℕ) → IsChained far names heads next
    → chain_of far (length heads - 1) wanted < length heads
    → IsPassed far names (length heads - 1) wanted (get_or heads (chain_of far (length heads - 1) wanted) 0)
from_head far names heads next wanted chained below =
    head_passed (chains_of far (length heads - 1) names) (λ m. bytes_eq wanted (get_or names m [])) (length names) (chain_of far (length heads - 1) wanted)
    heads next chained.chains (other_chain far names (length heads - 1) wanted) below

-- the place before is not that of the name
pub from_next : (far : Far) (names : List (List ℕ)) (heads next : List ℕ) (wanted : List ℕ) (at : ℕ) → IsChained far names heads next
    → IsPassed far names (length heads - 1) wanted at → 0 < at → bytes_eq wanted (get_or names (at - 1) []) ≡ false
    → IsPassed far names (length heads - 1) wanted (get_or next (at - 1) 0)
from_next far names heads next wanted at chained passed some other =
    next_passed (chains_of far (length heads - 1) names) (λ m. bytes_eq wanted (get_or names m [])) (length names) (chain_of far (length heads - 1) wanted)
    heads next chained.chains (other_chain far names (length heads - 1) wanted) at passed some other

pub none_named : (far : Far) (names : List (List ℕ)) (size : ℕ) (wanted : List ℕ) (at : ℕ) → at ≡ 0 → IsPassed far names size wanted at
    → list_any (bytes_eq wanted) names ≡ false
none_named far names size wanted at end passed =
    list_any_none (bytes_eq wanted) names
    (All-from_get_or (λ p. bytes_eq wanted p ≡ false) names [] (λ m within. passed.none m (omega (arith, end)) within))

-- a name is added in front of its chain
pub add_name : (far : Far) (names : List (List ℕ)) (heads next : List ℕ) (name : List ℕ) → IsChained far names heads next
    → chain_of far (length heads - 1) name < length heads
    → IsChained far (names ++ name ∷ []) (set heads (chain_of far (length heads - 1) name) (length names + 1))
    (next ++ get_or heads (chain_of far (length heads - 1) name) 0 ∷ [])
add_name far names heads next name chained below = record {
  power = subst (λ m. IsPowerOfTwo (m - 1)) (sym as_many) chained.power;
  chains =
      subst (λ m. AreChains (chains_of far (m - 1) (names ++ name ∷ [])) (length (names ++ name ∷ [])) heads_more next_more) (sym as_many)
      (subst (λ k. AreChains (chains_of far size (names ++ name ∷ [])) k heads_more next_more) (sym (length_push names name))
      (subst (λ bs. AreChains bs (length names + 1) heads_more next_more) (sym (map-append (chain_of far size) names (name ∷ [])))
      (add_place (buckets ++ b ∷ []) heads next (length names) b here below
      (chains_ahead buckets (b ∷ []) heads next (length names) (omega (arith, count)) chained.chains))));
}
  where
    size : ℕ
    size = length heads - 1

    b : ℕ
    b = chain_of far size name

    buckets : List ℕ
    buckets = chains_of far size names

    heads_more : List ℕ
    heads_more = set heads b (length names + 1)

    next_more : List ℕ
    next_more = next ++ get_or heads b 0 ∷ []

    as_many : length heads_more ≡ length heads
    as_many = length-set heads b (length names + 1)

    count : length buckets ≡ length names
    count = length-map names (chain_of far size)

    here : b ≡ bucket_at (buckets ++ b ∷ []) (length names)
    here = sym (get_or_push buckets b 0 (length names) count)
