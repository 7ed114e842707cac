-- A node is with one pass alone, and each that was claimed stands once until it is released.
use Rattle.std.proofs.Common.{inl, inr, ◌≡◌, ◌≢◌, ◌⊎◌, ℕ, zero, suc, ◌≤◌, ◌<◌, ◌+◌, List, [], ◌∷◌, get_or, refl, ap, sym, arith}
use mathlib.Core.Option.{some, some-injective, some-ne-none}
use native.Mathlib.Decide.{ℕ_discrete}
use lib.ListN.{get_elem?}
use Rattle.list_laws.specs.Counts.{flat, times, total}
use Rattle.list_laws.proofs.Standing.{total_least}
use Rattle.node_claims.specs.declared.view.View.{View}
use Rattle.node_claims.specs.Laws.{AreClaimedOnce, ClaimedStandOnce, ClosedStandOnce, StandSomewhere}
use Rattle.node_claims.specs.Rule.{finished, standing}
use Rattle.node_claims.proofs.Words.{word_one}

total_two : {A : Type 0} (f : A → ℕ) (vs : List A) (i j : ℕ) (v w : A) → i ≢ j → get_elem? vs i ≡ some v → get_elem? vs j ≡ some w → f v + f w ≤ total f vs
total_two f [] i j v w apart at_i at_j = absurd (some-ne-none v (sym at_i))
total_two f (u ∷ us) zero zero v w apart at_i at_j = absurd (apart refl)
total_two f (u ∷ us) zero (suc j) v w apart at_i at_j =
    let here : f u ≡ f v = ap f (some-injective u v at_i) in let rest = total_least f us j w at_j in omega (arith, here, rest)
total_two f (u ∷ us) (suc i) zero v w apart at_i at_j =
    let here : f u ≡ f w = ap f (some-injective u w at_j) in let rest = total_least f us i v at_i in omega (arith, here, rest)
total_two f (u ∷ us) (suc i) (suc j) v w apart at_i at_j =
    let rest = total_two f us i j v w (λ same. apart (ap suc same)) at_i at_j in omega (arith, rest)

pub claimed_once : AreClaimedOnce
claimed_once s r x i j v w at_i at_j in_v in_w =
    elim (ℕ_discrete i j) as (λ _. i ≡ j) [
      | yes same ↦ same
      | no apart ↦
          let two = total_two (λ (u : View). times x u.nodes) s.views i j v w apart at_i at_j in
          let once = r.once x in
          absurd (omega (arith, two, once, in_v, in_w))
    ]

pub stand_somewhere : StandSomewhere
stand_somewhere s r x lt one =
    let is = word_one (standing s.views r.known x) (finished r.known r.closed x) (get_or s.words (suc x) 0) (r.words x lt) one in
    let once = r.once x in
    omega (arith, is.0, is.1, once)

-- of two numbers that are 1 together the second is positive, or the first is 1
one_of_two : (a b : ℕ) → a + b ≡ 1 → (0 < b) ⊎ (a ≡ 1)
one_of_two a zero is = inr (omega (arith, is))
one_of_two a (suc b) is = inl (omega arith)

-- what stands at most once and stands, stands once
once_there : (n word : ℕ) → n ≤ 1 → 0 < word → (n ≡ 0 → word ≡ 0) → n ≡ 1
once_there zero word few above unseen = let none = unseen refl in absurd (omega (arith, above, none))
once_there (suc n) word few above unseen = omega (arith, few)

pub claimed_stand : ClaimedStandOnce
claimed_stand s r x lt above =
    let there : standing s.views r.known x ≡ 1 = once_there (standing s.views r.known x) _ (r.once x) above (r.words x lt).unseen in
    one_of_two (total (λ v. times x v.nodes) s.views + times x r.known.kept) (times x (flat r.known.released)) (omega (arith, there))

pub closed_stand : ClosedStandOnce
closed_stand s r x lt closed =
    let two = (r.words x lt).closed (omega (arith, closed)) in (two, claimed_stand s r x lt (omega (arith, two)))
