-- Chains of names in buckets: how one is followed, and how a place is added.
use Rattle.std.proofs.Common.{◌≡◌, ◌≢◌, ℕ, zero, suc, ◌-◌, ◌<◌, ◌≤◌, inl, inr, List, [], length, map, take, get_or, false, refl, sym, ap, subst, ◌∙◌, AllPairs, arith, replicate}
use Rattle.std.specs.List.{list_any}
use Rattle.std.specs.declared.cmp.Ordering.TheVariants.{Less}
use Rattle.std.proofs.lemmas.Bool.{cases_lt, false_from_ne_true}
use Rattle.std.proofs.lemmas.List.{get_or-map, get_or-replicate, length-map, take_all}
use Rattle.std.proofs.lemmas.List.Elements.{All-from_get_or}
use Rattle.std.proofs.lemmas.List.Folds.{list_any_none}
use Rattle.import_rules.specs.declared.name_table.Link.{Link}
use Rattle.import_rules.specs.declared.names.PredName.{PredName}
use Rattle.import_rules.specs.Names.{is_same, pred_cmp}
use Rattle.std.proofs.lemmas.Simd.{map-map}
use Rattle.prolog_names.specs.Table.{bucket_at, bucket_in, IsLast, AreChains}
use Rattle.prolog_names.proofs.ChainSteps.{ArePassed, head_passed, next_passed}
use Rattle.import_rules.specs.NameTable.{name_hash, bucket_of, buckets_of, next_of, hashes_of, IsChained, IsLinked}
use Rattle.import_rules.proofs.NameOrder.{same_parts}

-- the name doesn't stand at the place or behind it, and the place before is in its bucket
abbrev pub IsPassed : List PredName → ℕ → PredName → ℕ → Type 0
IsPassed names size wanted at = ArePassed (buckets_of size names) (λ m. is_same wanted (get_or names m wanted)) (length names) (bucket_of size wanted) at

-- a name of another bucket is another one
other_bucket : (names : List PredName) (size : ℕ) (wanted : PredName) (m : ℕ) → m < length names
    → bucket_at (buckets_of size names) m ≢ bucket_of size wanted → is_same wanted (get_or names m wanted) ≡ false
other_bucket names size wanted m within apart =
    false_from_ne_true (is_same wanted (get_or names m wanted))
    (λ is. apart
    (get_or-map (bucket_of size) names m wanted 0 within ∙ ap (bucket_of size) (sym (same_parts wanted (get_or names m wanted) is))))

pub from_head : (names : List PredName) (heads next : List ℕ) (wanted : PredName) → IsChained names heads next
    → bucket_of (length heads) wanted < length heads → IsPassed names (length heads) wanted (get_or heads (bucket_of (length heads) wanted) 0)
from_head names heads next wanted chained below =
    head_passed (buckets_of (length heads) names) (λ m. is_same wanted (get_or names m wanted)) (length names) (bucket_of (length heads) wanted) heads next
    chained.chains (other_bucket names (length heads) wanted) below

-- the place before is not that of the name
pub from_next : (names : List PredName) (heads next : List ℕ) (wanted : PredName) (at : ℕ) → IsChained names heads next
    → IsPassed names (length heads) wanted at → 0 < at → is_same wanted (get_or names (at - 1) wanted) ≡ false
    → IsPassed names (length heads) wanted (get_or next (at - 1) 0)
from_next names heads next wanted at chained passed some other =
    next_passed (buckets_of (length heads) names) (λ m. is_same wanted (get_or names m wanted)) (length names) (bucket_of (length heads) wanted) heads next
    chained.chains (other_bucket names (length heads) wanted) at passed some other

pub none_named : (names : List PredName) (size : ℕ) (wanted : PredName) (at : ℕ) → at ≡ 0 → IsPassed names size wanted at
    → list_any (is_same wanted) names ≡ false
none_named names size wanted at end passed =
    list_any_none (is_same wanted) names
    (All-from_get_or (λ p. is_same wanted p ≡ false) names wanted (λ m within. passed.none m (omega (arith, end)) within))

abbrev zeros : ℕ → List ℕ
zeros n = replicate n 0

-- no place yet
pub no_chains : (buckets : List ℕ) (size : ℕ) → AreChains buckets 0 (zeros size) []
no_chains buckets size = record {
  as_many = none;
  last = λ b below. subst (IsLast buckets 0 b) (sym (head b)) empty_chain;
  earlier = λ n below. absurd (omega (arith, below));
}
  where
    none : length {A = ℕ} [] ≡ 0
    none = refl

    head : (b : ℕ) → get_or (zeros size) b 0 ≡ 0
    head b = elim (cases_lt b size) [ inl within ↦ get_or-replicate size b 0 0 within | inr past ↦ past_end size b past ]
      where
        past_end : (n b : ℕ) → n ≤ b → get_or (zeros n) b 0 ≡ 0
        past_end zero b le = refl
        past_end (suc n) zero le = refl
        past_end (suc n) (suc b) le = past_end n b (omega (arith, le))

    empty_chain : {b : ℕ} → IsLast buckets 0 b 0
    empty_chain {b} = record {
      within = omega arith;
      none_behind = λ m from below. absurd (omega (arith, below));
      is = λ some. absurd (omega (arith, some));
    }

-- the hash that is kept at the place of a name is its own
pub kept_hash : (names : List PredName) (hashes : List ℕ) (at hash : ℕ) (one : PredName) → hashes ≡ map name_hash names → at < length names
    → hash ≡ get_or hashes at 0 → one ≡ get_or names at one → hash ≡ name_hash one
kept_hash names hashes at hash one are within is here =
    is ∙ (ap (λ xs. get_or xs at 0) are ∙ (get_or-map name_hash names at one 0 within ∙ ap name_hash (sym here)))

-- the one beside a name is its own
pub hash_at : (names : List PredName) (links : List Link) (at : ℕ) (link : Link) (one : PredName) → hashes_of links ≡ map name_hash names → at < length names
    → at < length links → link ≡ get_or links at link → one ≡ get_or names at one → link.hash ≡ name_hash one
hash_at names links at link one hashed within inside link_is here =
    kept_hash names (hashes_of links) at link.hash one hashed within
    (ap (λ (l : Link). l.hash) link_is ∙ sym (get_or-map (λ (l : Link). l.hash) links at link 0 inside)) here

-- a name of another hash is another one
pub other_hash : (wanted one : PredName) → name_hash one ≢ name_hash wanted → is_same wanted one ≡ false
other_hash wanted one apart = false_from_ne_true (is_same wanted one) (λ is. apart (ap name_hash (sym (same_parts wanted one is))))

-- all names stand in the chains, with their hashes
pub all_chained : (names : List PredName) (size n : ℕ) (hashes heads next kept : List ℕ) → hashes ≡ map name_hash names
    → AreChains (map (bucket_in size) hashes) n heads next → kept ≡ take n hashes
    → length heads ≡ size → 0 < size → n ≡ length hashes → IsChained names heads next × (kept ≡ map name_hash names)
all_chained names size n hashes heads next kept are chains hashed sized some end =
    let count : n ≡ length names = end ∙ ap length are ∙ length-map names name_hash in
    let buckets : map (bucket_in size) hashes ≡ buckets_of size names = ap (map (bucket_in size)) are ∙ map-map (bucket_in size) name_hash names in (
      record {
        some = omega (arith, sized, some);
        chains =
            subst (λ m. AreChains (buckets_of m names) (length names) heads next) (sym sized)
            (subst (λ m. AreChains (buckets_of size names) m heads next) count
            (subst (λ bs. AreChains bs n heads next) buckets chains));
      },
      hashed ∙ take_all n hashes (omega (arith, end)) ∙ are,
    )

pub all_linked : (names : List PredName) (size n : ℕ) (hashes heads : List ℕ) (links : List Link) → hashes ≡ map name_hash names
    → AreChains (map (bucket_in size) hashes) n heads (next_of links) → hashes_of links ≡ take n hashes
    → length heads ≡ size → 0 < size → n ≡ length hashes → AllPairs (λ p q. pred_cmp p q ≡ Less) names → IsLinked names heads links
all_linked names size n hashes heads links are chains hashed sized some end up =
    let all = all_chained names size n hashes heads (next_of links) (hashes_of links) are chains hashed sized some end in record { chained = all.0; hashed = all.1; in_order = up }
