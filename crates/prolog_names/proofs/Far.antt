-- Far names: their chains, and that a table is one still where they change at a name that it doesn't have.
use Rattle.std.proofs.Common.{◌≡◌, ℕ, ◌-◌, ◌<◌, inl, inr, List, [], ◌∷◌, Bool, true, false, Some, None, is_some, length, refl, sym, ap, subst, ◌∙◌, ◌||◌, arith}
use Rattle.std.specs.Prelude.{if◌then◌else◌}
use Rattle.std.specs.List.{list_any}
use Rattle.std.specs.Str.{bytes_eq}
use Rattle.std.proofs.lemmas.Bool.{false_from_ne_true}
use Rattle.std.proofs.lemmas.Slice.Eq.{bytes_eq-Decides}
use Rattle.std.proofs.lemmas.List.Elements.{All-from_get_or}
use Rattle.std.proofs.lemmas.List.Folds.{list_any_at, list_any_none}
use Rattle.std.proofs.lemmas.Nat.{mod_below}
use Rattle.prolog_names.specs.declared.table.Entry.{Entry}
use Rattle.prolog_names.specs.Names.{name_at}
use Rattle.prolog_names.specs.Table.{Far, text_hash, bucket_in, chain_of, chains_of, names_of, next_of, AreChains, AreTold, IsChained, IsChainFor, IsTable}
use Rattle.prolog_names.proofs.Buckets.{some_buckets}
use Rattle.prolog_names.proofs.Chains.{same_bytes}

abbrev chosen : ℕ → ℕ → Bool → ℕ
chosen size hash away = if away then size else bucket_in size hash

pub chain_is : (far : Far) (size : ℕ) (name : List ℕ) (hash place chain : ℕ) → hash ≡ text_hash name → IsChainFor far size name hash place chain
    → chain ≡ chain_of far size name
chain_is far size name hash place chain own takes =
    elim takes [
      | inl near ↦ near.0 ∙ ap (bucket_in size) own ∙ sym (ap (λ o. chosen size (text_hash name) (is_some o)) near.1)
      | inr away ↦ away.0 ∙ sym (ap (λ o. chosen size (text_hash name) (is_some o)) away.1)
    ]

pub near_chain : (far : Far) (size : ℕ) (name : List ℕ) → far name ≡ None → chain_of far size name ≡ bucket_in size (text_hash name)
near_chain far size name near = ap (λ o. chosen size (text_hash name) (is_some o)) near

pub told_own : (far : Far) (size : ℕ) (name : List ℕ) (hash place chain : ℕ) → IsChainFor far size name hash place chain → (n : ℕ) → far name ≡ Some n → n ≡ place
told_own far size name hash place chain takes n is =
    elim takes [
      | inl near ↦ let both : None ≡ Some n = sym near.1 ∙ is in cc
      | inr away ↦ let both : Some place ≡ Some n = sym away.1 ∙ is in cc
    ]

pub chain_below : (far : Far) (names : List (List ℕ)) (heads next : List ℕ) (name : List ℕ) → IsChained far names heads next
    → chain_of far (length heads - 1) name < length heads
chain_below far names heads next name chained =
    let some : 0 < length heads - 1 = some_buckets (length heads - 1) chained.power in
    elim (is_some (far name)) as (λ b. chosen (length heads - 1) (text_hash name) b < length heads) [
      | true ↦ omega (arith, some)
      | false ↦ omega (arith, some, mod_below (text_hash name) (length heads - 1) some)
    ]

neither : (a b : Bool) → (a || b) ≡ false → (a ≡ false) × (b ≡ false)
neither true b h = cc
neither false b h = (refl, h)

-- where the far names change at one name, others stand in the same chains
same_chains : (far more : Far) (size : ℕ) (name : List ℕ) (names : List (List ℕ)) → ((other : List ℕ) → bytes_eq name other ≡ false → more other ≡ far other)
    → list_any (bytes_eq name) names ≡ false → chains_of more size names ≡ chains_of far size names
same_chains far more size name [] kept absent = refl
same_chains far more size name (n ∷ names) kept absent =
    let split = neither (bytes_eq name n) (list_any (bytes_eq name) names) absent in
    ap (λ o. chosen size (text_hash n) (is_some o) ∷ chains_of more size names) (kept n split.0)
    ∙ ap (λ cs. chain_of far size n ∷ cs) (same_chains far more size name names kept split.1)

other_at : (names : List (List ℕ)) (name : List ℕ) (place : ℕ) → place < length names → list_any (bytes_eq name) names ≡ false
    → bytes_eq name (name_at names place) ≡ false
other_at names name place within absent =
    false_from_ne_true (bytes_eq name (name_at names place))
    (λ is. let both : true ≡ false = sym (list_any_at (bytes_eq name) names place [] within is) ∙ absent in cc)

pub with_far : (texts : List ℕ) (entries : List Entry) (heads : List ℕ) (far more : Far) (name : List ℕ) → IsTable texts entries heads far
    → ((other : List ℕ) → bytes_eq name other ≡ false → more other ≡ far other) → list_any (bytes_eq name) (names_of texts entries) ≡ false
    → IsTable texts entries heads more
with_far texts entries heads far more name table kept absent = record {
  chained = record {
    power = table.chained.power;
    chains =
        subst (λ cs. AreChains cs (length (names_of texts entries)) heads (next_of entries))
        (sym (same_chains far more (length heads - 1) name (names_of texts entries) kept absent)) table.chained.chains;
  };
  told = λ place within n is.
      table.told place within n
      (sym (kept (name_at (names_of texts entries) place) (other_at (names_of texts entries) name place within absent)) ∙ is);
  spans = table.spans;
  hashed = table.hashed;
  distinct = table.distinct;
  bytes = table.bytes;
}

-- a far name that isn't at its place stands nowhere
pub not_there : (far : Far) (names : List (List ℕ)) (name : List ℕ) (place : ℕ) → AreTold far names → far name ≡ Some place
    → (place < length names → bytes_eq name (name_at names place) ≡ false) → list_any (bytes_eq name) names ≡ false
not_there far names name place told is other =
    list_any_none (bytes_eq name) names
    (All-from_get_or (λ p. bytes_eq name p ≡ false) names []
    (λ m within. false_from_ne_true (bytes_eq name (name_at names m))
    (λ same.
    let here : place ≡ m = told m within place (ap far (sym (same_bytes name (name_at names m) same)) ∙ is) in
    let both : true ≡ false = sym same ∙ ap (λ k. bytes_eq name (name_at names k)) (sym here) ∙ other (subst (λ k. k < length names) (sym here) within) in
    cc)))

pub turned : (one other : List ℕ) → bytes_eq one other ≡ false → bytes_eq other one ≡ false
turned one other apart =
    false_from_ne_true (bytes_eq other one)
    (λ is. let both : true ≡ false = sym ((bytes_eq-Decides one other).1 (sym (same_bytes other one is))) ∙ apart in cc)
