-- A table with one name more.
use Rattle.std.proofs.Common.{◌≡◌, ◌≢◌, ℕ, ◌+◌, ◌-◌, ◌<◌, Some, ◌≤◌, inl, inr, List, [], ◌∷◌, ◌++◌, length, map, take, get_or, set, true, false, refl, sym, ap, subst, ◌∙◌, arith}
use Rattle.std.specs.Prelude.{if◌then◌else◌}
use Rattle.std.specs.List.{list_any}
use Rattle.std.specs.Str.{bytes_eq, IsUtf8}
use Rattle.std.proofs.lemmas.Bool.{cases_lt}
use Rattle.std.proofs.lemmas.Slice.Eq.{bytes_eq-Decides}
use Rattle.std.proofs.lemmas.List.{get_or_append_left, get_or_push, length_push, map-append, take-map, get_or-map, length-map, length-append, append-nil}
use Rattle.std.proofs.lemmas.List.Elements.{All-push}
use Rattle.std.proofs.lemmas.List.Folds.{list_any_at}
use Rattle.std.proofs.lemmas.List.Sums.{sum_by_push, sum_by_more_le}
use Rattle.prolog_names.specs.declared.table.Entry.{Entry}
use Rattle.prolog_names.specs.Names.{name_at, AreDistinct}
use Rattle.prolog_names.specs.Table.{Far, text_hash, chain_of, bytes_of, name_in, names_of, next_of, IsChained, IsHashed, IsSpan, IsTable, AreTold, with_name}
use Rattle.prolog_names.proofs.Chains.{add_name}
use Rattle.prolog_names.proofs.Spans.{names_kept, spans_kept, hashed_kept, last_name, last_span}

-- a name that stands there
pub is_there : (names : List (List ℕ)) (name : List ℕ) (place : ℕ) → place < length names → name_at names place ≡ name → list_any (bytes_eq name) names ≡ true
is_there names name place within is = list_any_at (bytes_eq name) names place [] within ((bytes_eq-Decides name (name_at names place)).1 (sym is))

pub named_already : (names : List (List ℕ)) (name : List ℕ) → list_any (bytes_eq name) names ≡ true → with_name names name ≡ names
named_already names name there = ap (λ b. if b then names else names ++ name ∷ []) there

pub named_anew : (names : List (List ℕ)) (name : List ℕ) → list_any (bytes_eq name) names ≡ false → with_name names name ≡ names ++ name ∷ []
named_anew names name absent = ap (λ b. if b then names else names ++ name ∷ []) absent

-- how many bytes the names have with one more
pub bytes_push : (names : List (List ℕ)) (name : List ℕ) → bytes_of (names ++ name ∷ []) ≡ bytes_of names + length name
bytes_push names name = sum_by_push (λ (n : List ℕ). length n) names name

-- at most as many as theirs and its own
pub bytes_more : (names : List (List ℕ)) (name : List ℕ) → bytes_of (with_name names name) ≤ bytes_of names + length name
bytes_more names name =
    elim (list_any (bytes_eq name) names) as (λ b. bytes_of (if b then names else names ++ name ∷ []) ≤ bytes_of names + length name) [
      | true ↦ omega arith
      | false ↦ omega (arith, bytes_push names name)
    ]

pub bytes_grown : (old new : List (List ℕ)) (name : List ℕ) {n : ℕ} → new ≡ with_name old name → length name ≤ n → bytes_of new ≤ bytes_of old + n
bytes_grown old new name is few = omega (arith, ap bytes_of is, bytes_more old name, few)

-- the names before one, and the one, have at most as many bytes as all
pub bytes_before : {X : Type 0} (now : X → List ℕ) (xs : List X) (i : ℕ) (d : X) → i < length xs
    → bytes_of (map now (take i xs)) + length (now (get_or xs i d)) ≤ bytes_of (map now xs)
bytes_before now xs i d below =
    omega (
      arith,
      sum_by_more_le (λ (n : List ℕ). length n) (map now xs) i [] (omega (arith, below, length-map xs now)),
      ap bytes_of (take-map now i xs),
      ap (λ (n : List ℕ). length n) (get_or-map now xs i d [] below),
    )

-- a name that isn't there stands at no place
other_name : (names : List (List ℕ)) (name : List ℕ) (place : ℕ) → list_any (bytes_eq name) names ≡ false → place < length names → name_at names place ≢ name
other_name names name place absent within is = let there : list_any (bytes_eq name) names ≡ true = is_there names name place within is in cc

distinct_more : (names : List (List ℕ)) (name : List ℕ) → list_any (bytes_eq name) names ≡ false → AreDistinct names → AreDistinct (names ++ name ∷ [])
distinct_more names name absent distinct a b a_within b_within same =
    elim (cases_lt a (length names)) [
      | inl a_before ↦ elim (cases_lt b (length names)) [
        | inl b_before ↦ distinct a b a_before b_before (sym (before a a_before) ∙ same ∙ before b b_before)
        | inr b_from ↦
            absurd (other_name names name a absent a_before (sym (before a a_before) ∙ same ∙ last b (omega (arith, b_within, b_from, length_push names name))))
      ]
      | inr a_from ↦ elim (cases_lt b (length names)) [
        | inl b_before ↦
            absurd (other_name names name b absent b_before (sym (before b b_before) ∙ sym same ∙ last a (omega (arith, a_within, a_from, length_push names name))))
        | inr b_from ↦ omega (arith, a_within, a_from, b_within, b_from, length_push names name)
      ]
    ]
  where
    before : (k : ℕ) → k < length names → name_at (names ++ name ∷ []) k ≡ name_at names k
    before k within = get_or_append_left names (name ∷ []) [] k within

    last : (k : ℕ) → length names ≡ k → name_at (names ++ name ∷ []) k ≡ name
    last k is = get_or_push names name [] k is

-- the names so far and one more that is told at its place
told_more : (far : Far) (names : List (List ℕ)) (name : List ℕ) → AreTold far names → ((n : ℕ) → far name ≡ Some n → n ≡ length names) → AreTold far (names ++ name ∷ [])
told_more far names name told own place within n is =
    elim (cases_lt place (length names)) [
      | inl before ↦ told place before n (ap far (sym (get_or_append_left names (name ∷ []) [] place before)) ∙ is)
      | inr from ↦
          let here : length names ≡ place = omega (arith, within, from, length_push names name) in
          own n (ap far (sym (get_or_push names name [] place here)) ∙ is) ∙ here
    ]

-- a name that isn't there yet is put behind the others
module _ (texts name : List ℕ) (entries : List Entry) (heads : List ℕ) (far : Far) (entry : Entry) (table : IsTable texts entries heads far)
    (starts : entry.start ≡ length texts) (ends : entry.end ≡ length texts + length name) where
  pub names_more : names_of (texts ++ name) (entries ++ entry ∷ []) ≡ names_of texts entries ++ name ∷ []
  names_more =
      map-append (name_in (texts ++ name)) entries (entry ∷ [])
      ∙ ap (λ names. names ++ name_in (texts ++ name) entry ∷ []) (names_kept texts name entries table.spans)
      ∙ ap (λ last. names_of texts entries ++ last ∷ []) (last_name texts name entry starts ends)

  pub add_entry : IsUtf8 name → entry.hash ≡ text_hash name → list_any (bytes_eq name) (names_of texts entries) ≡ false
      → ((n : ℕ) → far name ≡ Some n → n ≡ length entries)
      → chain_of far (length heads - 1) name < length heads → entry.next ≡ get_or heads (chain_of far (length heads - 1) name) 0
      → IsTable (texts ++ name) (entries ++ entry ∷ []) (set heads (chain_of far (length heads - 1) name) (length entries + 1)) far
  add_entry utf8 hash absent own below next = record {
    chained =
        subst (λ ns. IsChained far ns heads_more (next_of (entries ++ entry ∷ []))) (sym names_more)
        (subst (λ xs. IsChained far (names_of texts entries ++ name ∷ []) heads_more xs) (sym nexts)
        (subst (λ k. IsChained far (names_of texts entries ++ name ∷ []) (set heads b (k + 1)) (next_of entries ++ get_or heads b 0 ∷ []))
        (length-map entries (name_in texts)) (add_name far (names_of texts entries) heads (next_of entries) name table.chained below)));
    told =
        subst (AreTold far) (sym names_more)
        (told_more far (names_of texts entries) name table.told (λ n is. own n is ∙ sym (length-map entries (name_in texts))));
    spans = All-push (IsSpan (texts ++ name)) entries entry (spans_kept texts name entries utf8 table.spans) (last_span texts name entry starts ends utf8);
    hashed =
        All-push (IsHashed (texts ++ name)) entries entry (hashed_kept texts name entries entry table.spans table.hashed)
        (hash ∙ ap text_hash (sym (last_name texts name entry starts ends)));
    distinct = subst AreDistinct (sym names_more) (distinct_more (names_of texts entries) name absent table.distinct);
    bytes = omega (arith, length-append texts name, table.bytes, ap bytes_of names_more, bytes_push (names_of texts entries) name);
  }
    where
      b : ℕ
      b = chain_of far (length heads - 1) name

      heads_more : List ℕ
      heads_more = set heads b (length entries + 1)

      nexts : next_of (entries ++ entry ∷ []) ≡ next_of entries ++ get_or heads b 0 ∷ []
      nexts = map-append (λ (e : Entry). e.next) entries (entry ∷ []) ∙ ap (λ x. next_of entries ++ x ∷ []) next

-- the table grows by a name or by none
with_name_more : (names : List (List ℕ)) (name : List ℕ) → (more : List (List ℕ)) × (with_name names name ≡ names ++ more) × (length more ≤ 1)
with_name_more names name =
    elim (list_any (bytes_eq name) names) as (λ b. (more : List (List ℕ)) × ((if b then names else names ++ name ∷ []) ≡ names ++ more) × (length more ≤ 1)) [
      | true ↦ ([], sym (append-nil names), omega arith)
      | false ↦ (name ∷ [], refl, omega arith)
    ]

pub no_more : (names : List (List ℕ)) → (more : List (List ℕ)) × (names ≡ names ++ more) × (length more ≤ 1)
no_more names = ([], sym (append-nil names), omega arith)

pub more_kept : (old new : List (List ℕ)) (name : List ℕ) → new ≡ with_name old name → (more : List (List ℕ)) × (new ≡ old ++ more) × (length more ≤ 1)
more_kept old new name is = let grown = with_name_more old name in (grown.0, is ∙ grown.1, grown.2)
