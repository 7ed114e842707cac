-- Each node is in one of some groups, or in none.
use Rattle.std.proofs.Common.{◌<◌, inl, inr, ℕ, zero, suc, List, [], ◌∷◌, Contains, length, map, sym, subst, arith}
use Rattle.std.specs.List.{range_with_len}
use Rattle.std.proofs.lemmas.List.FromFn.{get_or-map-range_with_len, length-map-range_with_len}
use Rattle.graph_law.specs.Classes.{HasMember, group_at}
use Rattle.call_table.specs.Memberships.{IsGroupOf, AreGroupsOf}
use Rattle.laws.proofs.Choices.{in_or_out}

-- the place of a node's group
abbrev HasPlace : List (List ℕ) → ℕ → Type 0
HasPlace groups p = (place : ℕ) × IsGroupOf groups p place

-- a node that is in neither the first of the groups nor the others
in_none : (members : List ℕ) (groups : List (List ℕ)) (p k : ℕ) → (Contains members p → ⊥) → (HasMember groups p → ⊥) → k < length (members ∷ groups)
    → Contains (group_at (members ∷ groups) k) p → ⊥
in_none members groups p zero out none lt has = out has
in_none members groups p (suc k) out none lt has = none (record { place = k; within = omega (arith, lt); member = has })

-- a node that isn't in the first of the groups
place_behind : (members : List ℕ) (groups : List (List ℕ)) (p place : ℕ) → (Contains members p → ⊥) → IsGroupOf groups p place → HasPlace (members ∷ groups) p
place_behind members groups p zero out none = (0, λ has. in_none members groups p has.place out none has.within has.member)
place_behind members groups p (suc place) out is = (suc (suc place), (omega (arith, is.0), is.1))

place_of : (groups : List (List ℕ)) (p : ℕ) → HasPlace groups p
place_of [] p = (0, λ has. let lt = has.within in let none : ⊥ = omega arith in none)
place_of (members ∷ groups) p =
    let rest = place_of groups p in
    elim (in_or_out members p) [ inl here ↦ (1, (omega arith, here)) | inr out ↦ place_behind members groups p rest.0 out rest.1 ]

pub places_of : (count : ℕ) (groups : List (List ℕ)) → (places : List ℕ) × AreGroupsOf count groups places
places_of count groups =
    let place : ℕ → ℕ = λ p. (place_of groups p).0 in (
      map place (range_with_len 0 count),
      record {
        each = length-map-range_with_len place 0 count;
        is = λ p below. subst (IsGroupOf groups p) (sym (get_or-map-range_with_len place 0 count p p 0 below (omega arith))) (place_of groups p).1;
      },
    )
