-- Ranks as they are given to names, which come in their order.
use Rattle.std.proofs.Common.{◌≡◌, ◌⊎◌, ℕ, ◌+◌, ◌-◌, ◌<◌, ◌≤◌, Bool, false, ◌++◌, List, [], ◌∷◌, length, get_or, set, All, Contains, refl, sym, ap, subst, ◌∙◌, inl, inr, arith}
use Rattle.std.specs.Prelude.{slice_index}
use Rattle.std.specs.declared.cmp.Ordering.TheVariants.{Less}
use Rattle.std.specs.List.Sorted.{IsSortedBy}
use Rattle.std.specs.Ordering.{nat_cmp, is_lt}
use Rattle.std.specs.Cmp.Lexicographic.{slice_cmp}
use Rattle.std.proofs.lemmas.Bool.{cases_eq}
use Rattle.std.proofs.lemmas.Cmp.{nat_list_cmp_total}
use Rattle.std.proofs.lemmas.List.{get_or_append_left, get_or_push, get_or-set_same, get_or-set_other, get_or_default, length-set, length_push, get_or-map, length-map}
use Rattle.std.proofs.lemmas.List.Elements.{All-push, All-nil}
use Rattle.byte_names.specs.declared.ranked.Keyed.{Keyed}
use Rattle.byte_names.specs.Keys.{AreKeys, IsAppended, IsKey, IsLastName}
use Rattle.byte_names.specs.Names.{name_at, AreInOrder}
use Rattle.byte_names.specs.Ranks.{IsRanking}
use Rattle.byte_names.proofs.LeadOrder.{keys_cmp, not_after}

abbrev pub comes_before : Keyed → Keyed → Bool
comes_before a b = is_lt (keys_cmp a.lead b.lead a.name.now b.name.now a.place b.place)

-- the names of the first n keys have ranks
pub record AreRanked (names : List (List ℕ)) (keys : List Keyed) (n : ℕ) (different : List (List ℕ)) (ranks : List ℕ) : Type 0 where
  pub in_order : AreInOrder different
  pub only : All (Contains names) different
  pub fewer : length different ≤ n
  pub last : (m : ℕ) (d : Keyed) → m + 1 ≡ n → IsLastName different (get_or keys m d).name.now
  pub each : length ranks ≡ length names
  pub within : (m : ℕ) (d : Keyed) → m < n → slice_index ranks (get_or keys m d).place < length different
  pub named : (m : ℕ) (d : Keyed) → m < n → name_at different (slice_index ranks (get_or keys m d).place) ≡ (get_or keys m d).name.now

pub none_ranked : (names : List (List ℕ)) (keys : List Keyed) (ranks : List ℕ) → length ranks ≡ length names → AreRanked names keys 0 [] ranks
none_ranked names keys ranks long = record {
  in_order = λ i j d lt within. absurd (let no : j < 0 = within in omega (arith, no));
  only = All-nil (Contains names);
  fewer = omega arith;
  last = λ m d is. absurd (omega (arith, is));
  each = long;
  within = λ m d lt. absurd (omega (arith, lt));
  named = λ m d lt. absurd (omega (arith, lt));
}

-- a name after the last one of a list in order
order_push : (names : List (List ℕ)) (name : List ℕ) → AreInOrder names
    → (0 < length names → slice_cmp nat_cmp (name_at names (length names - 1)) name ≡ Less) → AreInOrder (names ++ name ∷ [])
order_push names name up after i j d lt within =
    let long : length (names ++ name ∷ []) ≡ length names + 1 = length_push names name in
    let first : i < length names = omega (arith, lt, within, long) in
    let here : get_or (names ++ name ∷ []) i d ≡ get_or names i d = get_or_append_left names (name ∷ []) d i first in
    elim (cases_eq j (length names)) [
      | inl is ↦
          let end : get_or (names ++ name ∷ []) j d ≡ name = get_or_push names name d j (sym is) in
          let last : slice_cmp nat_cmp (get_or names (length names - 1) d) name ≡ Less =
          ap (λ x. slice_cmp nat_cmp x name) (get_or_default names (length names - 1) d [] (omega (arith, first))) ∙ after (omega (arith, first)) in
          let less : slice_cmp nat_cmp (get_or names i d) name ≡ Less =
          elim (cases_eq i (length names - 1)) [
            | inl at ↦ ap (λ k. slice_cmp nat_cmp (get_or names k d) name) at ∙ last
            | inr ne ↦
                nat_list_cmp_total.trans (get_or names i d) (get_or names (length names - 1) d) name
                (up i (length names - 1) d (omega (arith, first, ne)) (omega (arith, first))) last
          ] in
          ap (λ x. slice_cmp nat_cmp x (get_or (names ++ name ∷ []) j d)) here ∙ ap (slice_cmp nat_cmp (get_or names i d)) end ∙ less
      | inr ne ↦
          let second : j < length names = omega (arith, within, long, ne) in
          ap (λ x. slice_cmp nat_cmp x (get_or (names ++ name ∷ []) j d)) here
          ∙ ap (slice_cmp nat_cmp (get_or names i d)) (get_or_append_left names (name ∷ []) d j second) ∙ up i j d lt second
    ]

-- the last name so far comes before the next one, if it is another
last_before : (names : List (List ℕ)) (keys : List Keyed) (n : ℕ) (different : List (List ℕ)) (ranks : List ℕ) (key : Keyed)
    → AreRanked names keys n different ranks → All (IsKey names) keys → IsSortedBy comes_before keys → n < length keys → key ≡ get_or keys n key
    → (IsLastName different key.name.now → ⊥) → 0 < length different → slice_cmp nat_cmp (name_at different (length different - 1)) key.name.now ≡ Less
last_before names keys n different ranks key are all sorted lt read other some =
    let m = n - 1 in
    let before : m + 1 ≡ n = omega (arith, some, are.fewer) in
    let prev = get_or keys m key in
    let last : IsLastName different prev.name.now = are.last m key before in
    let a : IsKey names prev = all m key (omega (arith, before, lt)) in
    let b : IsKey names key = subst (IsKey names) (sym read) (all n key lt) in
    let next : get_or keys (m + 1) key ≡ key = ap (λ k. get_or keys k key) before ∙ sym read in
    let upto : comes_before key prev ≡ false =
    subst (λ k. comes_before k prev ≡ false) next (sorted m key (omega arith) (omega (arith, before, lt))) in
    elim (not_after prev.name.now key.name.now prev.lead key.lead prev.place key.place a.bytes b.bytes a.led b.led upto) [
      | inl less ↦ ap (λ x. slice_cmp nat_cmp x key.name.now) last.is ∙ less
      | inr same ↦ absurd (other (record { some = some; is = last.is ∙ same }))
    ]

-- what was at an index stays there
stays : (old new : List (List ℕ)) (name : List ℕ) → (new ≡ old) ⊎ (new ≡ old ++ name ∷ []) → (k : ℕ) → k < length old
    → (k < length new) × (name_at new k ≡ name_at old k)
stays old new name kept k lt = elim kept [
  | inl is ↦ (subst (λ names. k < length names) (sym is) lt, ap (λ names. name_at names k) is)
  | inr is ↦ (
    subst (λ names. k < length names) (sym is) (omega (arith, lt, length_push old name)),
    ap (λ names. name_at names k) is ∙ get_or_append_left old (name ∷ []) [] k lt,
  )
]

-- the name of one more key has a rank
pub one_ranked : (names : List (List ℕ)) (keys : List Keyed) (n : ℕ) (old new : List (List ℕ)) (ranks : List ℕ) (key : Keyed) (rank : ℕ)
    → AreRanked names keys n old ranks → AreKeys names (length names) keys → IsSortedBy comes_before keys → n < length keys → key ≡ get_or keys n key
    → IsAppended old key.name.now new rank → AreRanked names keys (n + 1) new (set ranks key.place rank)
one_ranked names keys n old new ranks key rank are ks sorted lt read added =
    let name = key.name.now in
    let own : IsKey names key = subst (IsKey names) (sym read) (ks.each n key lt) in
    let at : (d : Keyed) → get_or keys n d ≡ key = λ d. get_or_default keys n d key lt ∙ sym read in
    let room : key.place < length ranks = omega (arith, own.within, are.each) in
    let kept : (new ≡ old) ⊎ (new ≡ old ++ name ∷ []) = elim added.kept [ inl is ↦ inl is | inr more ↦ inr more.1 ] in
    let ranked : (m : ℕ) (d : Keyed) → m < n + 1
    → (slice_index (set ranks key.place rank) (get_or keys m d).place < length new)
    × (name_at new (slice_index (set ranks key.place rank) (get_or keys m d).place) ≡ (get_or keys m d).name.now) =
    λ m d below.
    let k = get_or keys m d in
    elim (cases_eq k.place key.place) [
      | inl is ↦
          let now : slice_index (set ranks key.place rank) k.place ≡ rank =
          ap (slice_index (set ranks key.place rank)) is ∙ get_or-set_same ranks key.place rank 0 room in
          let mine : IsKey names k = ks.each m d (omega (arith, below, lt)) in
          let last : name_at new rank ≡ name =
          ap (name_at new) (let e : rank ≡ length new - 1 = omega (arith, added.at) in e) ∙ added.last.is in (
            omega (arith, now, added.at),
            ap (name_at new) now ∙ last ∙ own.named ∙ ap (name_at names) (sym is) ∙ sym mine.named,
          )
      | inr ne ↦
          let older : m < n =
          elim (cases_eq m n) [
            | inl here ↦ absurd (ne (ap (λ (x : Keyed). x.place) (ap (λ j. get_or keys j d) here ∙ at d)))
            | inr other ↦ omega (arith, below, other)
          ] in
          let same : slice_index (set ranks key.place rank) k.place ≡ slice_index ranks k.place =
          get_or-set_other ranks key.place k.place rank 0 ne in
          let still = stays old new name kept (slice_index ranks k.place) (are.within m d older) in (
            omega (arith, same, still.0),
            ap (name_at new) same ∙ still.1 ∙ are.named m d older,
          )
    ] in
    record {
      in_order =
          elim added.kept [
            | inl is ↦ subst AreInOrder (sym is) are.in_order
            | inr more ↦
                subst AreInOrder (sym more.1)
                (order_push old name are.in_order (last_before names keys n old ranks key are ks.each sorted lt read more.0))
          ];
      only =
          let has : Contains names name =
          (key.place, own.within, get_or_default names key.place name [] own.within ∙ sym own.named) in
          elim kept [
            | inl is ↦ subst (All (Contains names)) (sym is) are.only
            | inr is ↦ subst (All (Contains names)) (sym is) (All-push (Contains names) old name are.only has)
          ];
      fewer = elim kept [
        | inl is ↦ omega (arith, ap length is, are.fewer)
        | inr is ↦ omega (arith, ap length is, length_push old name, are.fewer)
      ];
      last = λ m d is.
          let here : m ≡ n = omega (arith, is) in
          subst (IsLastName new) (ap (λ (x : Keyed). x.name.now) (sym (ap (λ j. get_or keys j d) here ∙ at d))) added.last;
      each = length-set ranks key.place rank ∙ are.each;
      within = λ m d below. (ranked m d below).0;
      named = λ m d below. (ranked m d below).1;
    }

-- all are ranked
pub all_ranked : (names : List (List ℕ)) (keys : List Keyed) (n : ℕ) (different : List (List ℕ)) (ranks : List ℕ)
    → AreRanked names keys n different ranks → AreKeys names (length names) keys → length keys ≤ n → IsRanking names different ranks
all_ranked names keys n different ranks are ks whole =
    let found : (place : ℕ) → place < length names
    → (slice_index ranks place < length different) × (name_at different (slice_index ranks place) ≡ name_at names place) =
    λ place below.
    let (m, lt, is) = ks.all place below in
    let within : m < length keys = omega (arith, lt, length-map keys (λ (k : Keyed). k.place)) in
    elim keys as (λ xs. xs ≡ keys → (slice_index ranks place < length different) × (name_at different (slice_index ranks place) ≡ name_at names place)) [
      | [] ↦ λ e. absurd (omega (arith, within, ap length e))
      | d ∷ rest ↦ λ e.
          let at : (get_or keys m d).place ≡ place = sym (get_or-map (λ (k : Keyed). k.place) keys m d place within) ∙ is in
          let mine : IsKey names (get_or keys m d) = ks.each m d within in (
            subst (λ p. slice_index ranks p < length different) at (are.within m d (omega (arith, within, whole))),
            ap (λ p. name_at different (slice_index ranks p)) (sym at) ∙ are.named m d (omega (arith, within, whole)) ∙ mine.named ∙ ap (name_at names) at,
          )
    ] refl in
    record {
      in_order = are.in_order;
      only = are.only;
      each = are.each;
      within = λ place below. (found place below).0;
      named = λ place below. (found place below).1;
    }
