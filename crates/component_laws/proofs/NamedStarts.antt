-- Roots are nodes, or one of them is the first that is none.
use Rattle.std.proofs.Common.{◌≡◌, ◌⊎◌, inl, inr, ℕ, suc, ◌<◌, List, [], ◌∷◌, Contains, length, refl, subst, ◌∙◌, arith}
use Rattle.std.specs.List.{range_with_len}
use Rattle.std.proofs.lemmas.List.{get_or_default}
use Rattle.std.proofs.lemmas.List.Elements.{All-cons, All-nil}
use Rattle.list_laws.proofs.OneOrder.{first_or_rest, in_first, in_rest, nothing_in}
use Rattle.byte_names.specs.Names.{name_at}
use Rattle.component_answer.specs.Starts.{AreNamed, AreStarts, IsFirstMissing}
use Rattle.component_laws.proofs.Known.{HoldsNowhere, IsFirst, IsKnown, first_below, known_holds, known_not}
use Rattle.component_laws.proofs.SameLists.{same_or_not}

-- a name is among the names, or it isn't
known_name : (names : List (List ℕ)) (name : List ℕ) → IsKnown (Contains names name)
known_name [] name = inr (λ has. nothing_in name has)
known_name (first ∷ names) name = go (same_or_not first name) (known_name names name)
  where
    go : IsKnown (first ≡ name) → IsKnown (Contains names name) → IsKnown (Contains (first ∷ names) name)
    go (inl is) rest = inl (subst (Contains (first ∷ names)) is (in_first first names))
    go (inr other) (inl later) = inl (in_rest first name names later)
    go (inr other) (inr none) = inr (λ has. elim (first_or_rest first name names has) [ inl is ↦ other is | inr later ↦ none later ])

-- the nodes of names that are all there
named : (names roots : List (List ℕ)) → ((k : ℕ) → k < length roots → Contains names (name_at roots k)) → (starts : List ℕ) × AreNamed names roots starts
named names [] there = ([], record { within = All-nil (λ start. start < length names); named = refl })
named names (root ∷ roots) there =
    let rest : (starts : List ℕ) × AreNamed names roots starts = named names roots (λ k lt. there (suc k) (omega (arith, lt))) in
    let first : Contains names root = there 0 (omega arith) in
    let is : name_at names first.0 ≡ root = get_or_default names first.0 [] root first.1 ∙ first.2 in (
      first.0 ∷ rest.0,
      record {
        within = All-cons (λ start. start < length names) first.0 rest.0 first.1 rest.1.within;
        named = λ i. is i ∷ rest.1.named i;
      },
    )

starts_of : (names roots : List (List ℕ)) → ((k : ℕ) → k < length roots → Contains names (name_at roots k)) → (starts : List ℕ) × AreStarts names roots starts
starts_of names [] there = (range_with_len 0 (length names), refl)
starts_of names (root ∷ roots) there = named names (root ∷ roots) there

-- a root is no node
abbrev IsMissing : List (List ℕ) → List (List ℕ) → ℕ → Type 0
IsMissing names roots k = Contains names (name_at roots k) → ⊥

pub starts_or_missing : (names roots : List (List ℕ))
    → ((starts : List ℕ) × AreStarts names roots starts) ⊎ ((place : ℕ) × IsFirstMissing names roots place)
starts_or_missing names roots = go (first_below (IsMissing names roots) (λ k. known_not (known k)) (length roots))
  where
    known : (k : ℕ) → IsKnown (Contains names (name_at roots k))
    known k = known_name names (name_at roots k)

    go : ((k : ℕ) × IsFirst (IsMissing names roots) (length roots) k) ⊎ HoldsNowhere (IsMissing names roots) (length roots)
        → ((starts : List ℕ) × AreStarts names roots starts) ⊎ ((place : ℕ) × IsFirstMissing names roots place)
    go (inl found) =
        inr (
          found.0,
          record {
            within = found.1.below;
            missing = found.1.holds;
            before = λ k lt. known_holds (known k) (found.1.before k lt);
          },
        )
    go (inr none) = inl (starts_of names roots (λ k lt. known_holds (known k) (none k lt)))
