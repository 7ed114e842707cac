-- What is in order, what names are worth by their first bytes, and what ranks they have; and what isn't.
use Rattle.std.proofs.Common.{◌≡◌, ℕ, zero, suc, ◌<◌, List, [], ◌∷◌, length, Contains, codes, refl, ap, inl, inr, arith}
use Rattle.std.specs.Prelude.{slice_index}
use Rattle.std.specs.declared.cmp.Ordering.TheVariants.{Less, Greater}
use Rattle.std.specs.Ordering.{nat_cmp}
use Rattle.std.specs.Cmp.Lexicographic.{slice_cmp}
use Rattle.std.proofs.lemmas.List.Elements.{All-cons, All-nil}
use Rattle.std.proofs.lemmas.List.Kept.{AllPairs-cons}
use Rattle.byte_names.specs.Lead.{lead}
use Rattle.byte_names.specs.Names.{name_at, AreInOrder, IsPlaced}
use Rattle.byte_names.specs.Ranks.{IsRanking}

abbrev two : List (List ℕ)
two = codes "a" ∷ codes "ab" ∷ []

-- a name has an index; past the last there is the empty name

first_name : name_at two 0 ≡ codes "a"
first_name = refl

no_name : name_at two 2 ≡ []
no_name = refl

-- a name comes before those that it begins, and a byte below another decides

none_in_order : AreInOrder []
none_in_order i j d lt within = absurd (let no : j < 0 = within in omega (arith, no))

in_order : AreInOrder two
in_order =
    AllPairs-cons (λ a b. slice_cmp nat_cmp a b ≡ Less) (codes "a") (codes "ab" ∷ [])
    (All-cons (λ b. slice_cmp nat_cmp (codes "a") b ≡ Less) (codes "ab") [] refl (All-nil (λ b. slice_cmp nat_cmp (codes "a") b ≡ Less)))
    (AllPairs-cons (λ a b. slice_cmp nat_cmp a b ≡ Less) (codes "ab") [] (All-nil (λ b. slice_cmp nat_cmp (codes "ab") b ≡ Less)) none_in_order)

not_in_order : AreInOrder (codes "b" ∷ codes "a" ∷ []) → ⊥
not_in_order up = let less : Greater ≡ Less = up 0 1 [] (omega arith) (omega arith) in cc

not_twice : AreInOrder (codes "a" ∷ codes "a" ∷ []) → ⊥
not_twice up = let less : slice_cmp nat_cmp (codes "a") (codes "a") ≡ Less = up 0 1 [] (omega arith) (omega arith) in cc

-- the first bytes as a number: a byte past the end is 0, and the ninth doesn't count

lead_of_none : lead [] ≡ 0
lead_of_none = refl

lead_of_one : lead (codes "a") ≡ 0x6100_0000_0000_0000
lead_of_one = refl

lead_of_nine : lead (codes "abcdefghi") ≡ lead (codes "abcdefgh")
lead_of_nine = refl

-- a name that isn't the last one may be put behind it, and no other name

placed : IsPlaced (codes "a" ∷ []) (codes "ab") two 1
placed = record { within = omega arith; named = refl; kept = inr refl }

not_placed : IsPlaced [] (codes "ab") two 1 → ⊥
not_placed is = elim is.kept [ inl same ↦ omega (arith, ap length same) | inr more ↦ omega (arith, ap length more) ]

-- ranks of names, one of them twice

abbrev given : List (List ℕ)
given = codes "ab" ∷ codes "a" ∷ codes "ab" ∷ []

ranking : IsRanking given two (1 ∷ 0 ∷ 1 ∷ [])
ranking = record {
  in_order = in_order;
  only =
      All-cons (Contains given) (codes "a") (codes "ab" ∷ []) (1, omega arith, refl)
      (All-cons (Contains given) (codes "ab") [] (0, omega arith, refl) (All-nil (Contains given)));
  each = refl;
  within = below;
  named = is;
}
  where
    below : (place : ℕ) → place < 3 → slice_index (1 ∷ 0 ∷ 1 ∷ []) place < 2
    below zero lt = omega arith
    below (suc zero) lt = omega arith
    below (suc (suc zero)) lt = omega arith
    below (suc (suc (suc place))) lt = absurd (omega (arith, lt))

    is : (place : ℕ) → place < 3 → name_at two (slice_index (1 ∷ 0 ∷ 1 ∷ []) place) ≡ name_at given place
    is zero lt = refl
    is (suc zero) lt = refl
    is (suc (suc zero)) lt = refl
    is (suc (suc (suc place))) lt = absurd (omega (arith, lt))

wrong_rank : IsRanking given two (1 ∷ 1 ∷ 1 ∷ []) → ⊥
wrong_rank is = let same : codes "ab" ≡ codes "a" = is.named 1 (omega arith) in omega (arith, ap length same)
