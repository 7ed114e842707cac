-- The groups so far, and one more.
use Rattle.std.proofs.Common.{◌≡◌, ℕ, zero, suc, ◌+◌, ◌<◌, inl, inr, List, [], length, get_or, All, sym, ◌∙◌, subst, refl, arith}
use Rattle.std.specs.Prelude.{Contains}
use Rattle.std.proofs.lemmas.Bool.{cases_eq}
use Rattle.graph_law.specs.Classes.{group_at}
use Rattle.graph_law.specs.Stamp.{IsStamped}
use Rattle.call_table.specs.Memberships.{IsGroupOf, AreGroupsOf}

-- the same of the first n groups
abbrev pub IsGroupBelow : List (List ℕ) → ℕ → ℕ → ℕ → Type 0
IsGroupBelow groups n node zero = (k : ℕ) → k < n → Contains (group_at groups k) node → ⊥
IsGroupBelow groups n node (suc place) = (place < n) × Contains (group_at groups place) node

pub record AreGroupsBelow (count : ℕ) (groups : List (List ℕ)) (n : ℕ) (places : List ℕ) : Type 0 where
  pub each : length places ≡ count
  pub is : (p : ℕ) → p < count → IsGroupBelow groups n p (get_or places p 0)

-- one more group is stamped
pub groups_more : (count : ℕ) (groups : List (List ℕ)) (n : ℕ) (old new : List ℕ) → AreGroupsBelow count groups n old → IsStamped (group_at groups n) (n + 1) old new
    → AreGroupsBelow count groups (n + 1) new
groups_more count groups n old new are stamped = record { each = stamped.each ∙ are.each; is = λ p below. at p below (get_or new p 0) refl }
  where
    at : (p : ℕ) → p < count → (v : ℕ) → get_or new p 0 ≡ v → IsGroupBelow groups (n + 1) p v
    at p below zero is = λ k lt has.
        elim (cases_eq k n) [
          | inl same ↦ absurd (omega (arith, is, stamped.stamped p 0 (subst (λ i. Contains (group_at groups i) p) same has)))
          | inr other ↦
              elim (stamped.kept p 0) [
                | inl here ↦ absurd (omega (arith, is, stamped.stamped p 0 here))
                | inr kept ↦ subst (IsGroupBelow groups n p) (sym kept ∙ is) (are.is p below) k (omega (arith, lt, other)) has
              ]
        ]
    at p below (suc place) is =
        elim (stamped.kept p 0) [
          | inl here ↦
              let same : n ≡ place = omega (arith, is, stamped.stamped p 0 here) in
              (omega (arith, same), subst (λ i. Contains (group_at groups i) p) same here)
          | inr kept ↦
              let was = subst (IsGroupBelow groups n p) (sym kept ∙ is) (are.is p below) in
              (omega (arith, was.0), was.1)
        ]

pub groups_done : (count : ℕ) (groups : List (List ℕ)) (n : ℕ) (places : List ℕ) → n ≡ length groups → AreGroupsBelow count groups n places → AreGroupsOf count groups places
groups_done count groups n places all are = record { each = are.each; is = λ p below. at p (get_or places p 0) (are.is p below) }
  where
    at : (p v : ℕ) → IsGroupBelow groups n p v → IsGroupOf groups p v
    at p zero is = λ has. is has.place (omega (arith, has.within, all)) has.member
    at p (suc place) is = (omega (arith, is.0, all), is.1)

-- the members of a group are nodes
pub members_below : (count : ℕ) (groups : List (List ℕ)) (n : ℕ) (group : List ℕ) → group ≡ group_at groups n → n < length groups → All (All (λ member. member < count)) groups
    → All (λ member. member < count) group
members_below count groups n group is lt below = subst (All (λ member. member < count)) (sym is) (below n [] lt)
