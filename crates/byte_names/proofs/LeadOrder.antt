-- Names are in the order of their first bytes as numbers, where these differ.
use Rattle.std.proofs.Common.{◌≡◌, ◌⊎◌, ℕ, zero, suc, ◌+◌, ◌*◌, ◌<◌, true, false, List, [], ◌∷◌, length, get_or, All, refl, sym, ap, ◌∙◌, inl, inr, arith}
use Rattle.std.specs.Prelude.{slice_index}
use Rattle.std.specs.declared.cmp.Ordering.{Ordering}
use Rattle.std.specs.declared.cmp.Ordering.TheVariants.{Less, Equal, Greater}
use Rattle.std.specs.Ordering.{nat_cmp, ordering_then, ordering_reverse, is_lt, MatchOrdering}
use Rattle.std.specs.Cmp.Lexicographic.{slice_cmp}
use Rattle.std.specs.FinMap.{slice_cmp-IsAntisymmetric, nat_cmp-IsAntisymmetric}
use Rattle.std.proofs.lemmas.Bool.{cases_order, cases_lt}
use Rattle.std.proofs.lemmas.Cmp.{ranked, nat_list_cmp_total}
use Rattle.std.proofs.lemmas.List.{get_or_past}
use Rattle.byte_names.specs.Lead.{lead}

-- the first k bytes as one number
abbrev part : List ℕ → ℕ → ℕ
part name zero = 0
part name (suc k) = part name k * 256 + slice_index name k

lead_is : (name : List ℕ) → lead name ≡ part name 8
lead_is name = omega arith

byte_small : (name : List ℕ) → All (λ byte. byte < 256) name → (k : ℕ) → slice_index name k < 256
byte_small name bytes k = elim (cases_lt k (length name)) [
  | inl within ↦ bytes k 0 within
  | inr past ↦ let none : get_or name k 0 ≡ 0 = get_or_past name k 0 past in omega (arith, none)
]

-- the numbers of the first k bytes are equal just if these are
part_same : (x y : List ℕ) → All (λ byte. byte < 256) x → All (λ byte. byte < 256) y → (k : ℕ) → part x k ≡ part y k
    → (j : ℕ) → j < k → slice_index x j ≡ slice_index y j
part_same x y small little zero same j lt = absurd (omega (arith, lt))
part_same x y small little (suc k) same j lt =
    let xs = byte_small x small k in
    let ys = byte_small y little k in
    let last : slice_index x k ≡ slice_index y k = omega (arith, same, xs, ys) in
    let rest : part x k ≡ part y k = omega (arith, same, xs, ys) in
    elim (cases_order j k) [
      | inl is ↦ ap (slice_index x) is ∙ last ∙ ap (slice_index y) (sym is)
      | inr apart ↦ elim apart [
        | inl before ↦ part_same x y small little k rest j before
        | inr after ↦ absurd (omega (arith, lt, after))
      ]
    ]

-- the first byte that differs decides; past the end of a name it is 0
byte_decides : (x y : List ℕ) (k : ℕ) → ((j : ℕ) → j < k → slice_index x j ≡ slice_index y j) → slice_index x k < slice_index y k
    → slice_cmp nat_cmp x y ≡ Less
byte_decides x [] k same lt = absurd (omega (arith, lt))
byte_decides [] (b ∷ y) k same lt = refl
byte_decides (a ∷ x) (b ∷ y) zero same lt =
    elim (nat_cmp a b) as (λ o. nat_cmp a b ≡ o → MatchOrdering o (a < b) (a ≡ b) (b < a) → ordering_then (nat_cmp a b) (slice_cmp nat_cmp x y) ≡ Less) [
      | Less ↦ λ is m. ap (λ o. ordering_then o (slice_cmp nat_cmp x y)) is
      | Equal ↦ λ is m. absurd (omega (arith, lt, m))
      | Greater ↦ λ is m. absurd (omega (arith, lt, m))
    ] refl (ranked a b (nat_cmp a b) refl)
byte_decides (a ∷ x) (b ∷ y) (suc k) same lt =
    let first : a ≡ b = same 0 (omega arith) in
    elim (nat_cmp a b) as (λ o. nat_cmp a b ≡ o → MatchOrdering o (a < b) (a ≡ b) (b < a) → ordering_then (nat_cmp a b) (slice_cmp nat_cmp x y) ≡ Less) [
      | Less ↦ λ is m. absurd (omega (arith, first, m))
      | Equal ↦ λ is m.
          ap (λ o. ordering_then o (slice_cmp nat_cmp x y)) is
          ∙ byte_decides x y k (λ j below. same (suc j) (let more : suc j < suc k = omega (arith, below) in more)) lt
      | Greater ↦ λ is m. absurd (omega (arith, first, m))
    ] refl (ranked a b (nat_cmp a b) refl)

part_less : (x y : List ℕ) → All (λ byte. byte < 256) x → All (λ byte. byte < 256) y → (k : ℕ) → part x k < part y k → slice_cmp nat_cmp x y ≡ Less
part_less x y small little zero lt = absurd (omega (arith, lt))
part_less x y small little (suc k) lt =
    let xs = byte_small x small k in
    let ys = byte_small y little k in
    elim (cases_order (part x k) (part y k)) [
      | inl same ↦
          byte_decides x y k (part_same x y small little k same) (omega (arith, lt, same))
      | inr apart ↦ elim apart [
        | inl before ↦ part_less x y small little k before
        | inr after ↦ absurd (omega (arith, lt, after, xs, ys))
      ]
    ]

pub lead_less : (x y : List ℕ) → All (λ byte. byte < 256) x → All (λ byte. byte < 256) y → lead x < lead y → slice_cmp nat_cmp x y ≡ Less
lead_less x y small little lt = part_less x y small little 8 (omega (arith, lt, lead_is x, lead_is y))

-- the order of keys
abbrev pub keys_cmp : ℕ → ℕ → List ℕ → List ℕ → ℕ → ℕ → Ordering
keys_cmp m n x y p q = ordering_then (nat_cmp m n) (ordering_then (slice_cmp nat_cmp x y) (nat_cmp p q))

lt_less : is_lt Less ≡ false → ⊥
lt_less is = let both : true ≡ false = is in cc

by_name : (x y : List ℕ) (p q : ℕ) → is_lt (ordering_then (slice_cmp nat_cmp y x) (nat_cmp q p)) ≡ false → (slice_cmp nat_cmp x y ≡ Less) ⊎ (x ≡ y)
by_name x y p q not_less =
    elim (slice_cmp nat_cmp x y) as (λ o. slice_cmp nat_cmp x y ≡ o → (slice_cmp nat_cmp x y ≡ Less) ⊎ (x ≡ y)) [
      | Less ↦ λ is. inl is
      | Equal ↦ λ is. inr (slice_cmp-IsAntisymmetric nat_cmp-IsAntisymmetric x y is)
      | Greater ↦ λ is.
          let less : slice_cmp nat_cmp y x ≡ Less = nat_list_cmp_total.antisymm y x ∙ ap ordering_reverse is in
          absurd (lt_less (ap (λ o. is_lt (ordering_then o (nat_cmp q p))) (sym less) ∙ not_less))
    ] refl

-- a name whose key isn't after that of another comes before it, or is the same
pub not_after : (x y : List ℕ) (m n p q : ℕ) → All (λ byte. byte < 256) x → All (λ byte. byte < 256) y → m ≡ lead x → n ≡ lead y
    → is_lt (keys_cmp n m y x q p) ≡ false → (slice_cmp nat_cmp x y ≡ Less) ⊎ (x ≡ y)
not_after x y m n p q small little led is_lead not_less =
    elim (nat_cmp n m)
    as (λ o. nat_cmp n m ≡ o → MatchOrdering o (n < m) (n ≡ m) (m < n) → (slice_cmp nat_cmp x y ≡ Less) ⊎ (x ≡ y)) [
      | Less ↦ λ is k. absurd (lt_less (ap (λ o. is_lt (ordering_then o (ordering_then (slice_cmp nat_cmp y x) (nat_cmp q p)))) (sym is) ∙ not_less))
      | Equal ↦ λ is k. by_name x y p q (ap (λ o. is_lt (ordering_then o (ordering_then (slice_cmp nat_cmp y x) (nat_cmp q p)))) (sym is) ∙ not_less)
      | Greater ↦ λ is k. inl (lead_less x y small little (omega (arith, k, led, is_lead)))
    ] refl (ranked n m (nat_cmp n m) refl)
