-- Just the recursive classes have a closed walk of their least member.
use Rattle.std.proofs.Common.{◌≡◌, ◌↔◌, inl, inr, ℕ, suc, ◌<◌, true, List, [], ◌∷◌, ◌++◌, Option, None, Some, length, get_or, refl, sym, ap, ◌∙◌, arith, subst}
use Rattle.std.specs.Prelude.{Contains, is_some}
use Rattle.std.proofs.lemmas.Bool.{cases_lt, false≢true}
use Rattle.std.proofs.lemmas.List.{get_or_default}
use Rattle.std.proofs.lemmas.List.Elements.{Contains-get_or}
use Rattle.graph_law.specs.Classes.{IsClass, IsRecursive, least_member}
use Rattle.graph_law.specs.Reach.{IsWalk, Reaches}
use Rattle.graph_law.proofs.ClassLaws.{least_is_member}
use Rattle.graph_law.proofs.Increasing.{increasing_far}
use Rattle.graph_law.proofs.ReachLaws.{reaches_trans}
use Rattle.loop_paths.specs.Circuits.{IsCircuit}
use Rattle.loop_paths.specs.Paths.{IsClosedWalk}

-- a node that calls one that reaches it has a closed walk
walk_round : (calls : ℕ → ℕ → Type 0) (p n : ℕ) → calls p n → Reaches calls n p → (walk : List ℕ) × IsClosedWalk calls p walk
walk_round calls p n call back =
    (p ∷ (n ∷ back.path), ((refl, (call, back.walk)), (let long : length (p ∷ (n ∷ back.path)) ≡ suc (suc (length back.path)) = refl in omega (arith, long))))

-- the first step of reach to another node
step_out : (calls : ℕ → ℕ → Type 0) (p q : ℕ) (path : List ℕ) → IsWalk calls p path q → (p ≡ q → ⊥) → (n : ℕ) × calls p n × Reaches calls n q
step_out calls p q [] walk other = absurd (other walk)
step_out calls p q (n ∷ path) walk other = (n, walk.0, record { path = path; walk = walk.1 })

pub round_of_recursive : (calls : ℕ → ℕ → Type 0) (class : List ℕ) → IsClass calls class → IsRecursive calls class
    → (walk : List ℕ) × IsClosedWalk calls (least_member class) walk
round_of_recursive calls class is (inr own) =
    walk_round calls (least_member class) (least_member class) own.1 (record { path = []; walk = refl })
round_of_recursive calls class is (inl two) =
    let second : ℕ = get_or class 1 0 in
    let member : Contains class second = Contains-get_or class 1 0 (omega (arith, two)) in
    let apart : get_or class 0 0 < second = increasing_far class is.ascending 0 1 (omega arith) (omega (arith, two)) in
    let both = is.mutual_reach (least_member class) second (least_is_member is) member in
    let step = step_out calls (least_member class) second both.there.path both.there.walk (λ same. omega (arith, same, apart)) in
    walk_round calls (least_member class) step.0 step.1 (reaches_trans step.2 both.back)

alone : (class : List ℕ) (p q : ℕ) → length class ≡ 1 → Contains class p → Contains class q → p ≡ q
alone class p q one has also =
    let first : has.0 ≡ also.0 = let lt = has.1 in let below = also.1 in omega (arith, lt, below, one) in
    sym has.2 ∙ (get_or_default class has.0 p 0 has.1 ∙ (ap (λ i. get_or class i 0) first ∙ (sym (get_or_default class also.0 q 0 also.1) ∙ also.2)))

recursive_of_step : (calls : ℕ → ℕ → Type 0) (class : List ℕ) → IsClass calls class → (p n : ℕ) → p ≡ least_member class → calls p n → Reaches calls n p
    → IsRecursive calls class
recursive_of_step calls class is p n least call back =
    elim (cases_lt 1 (length class)) as (λ _. IsRecursive calls class) [
      | inl two ↦ inl (omega (arith, two))
      | inr few ↦
          let some = is.inhabited in
          let one : length class ≡ 1 = omega (arith, few, some) in
          let member : Contains class p = subst (Contains class) (sym least) (least_is_member is) in
          let other : Contains class n = is.whole p n member (record { there = record { path = n ∷ []; walk = (call, refl) }; back = back }) in
          let same : n ≡ p = alone class n p one other member in
          let P : ℕ → Type 0 = λ each. calls each each in
          inr (one, subst P least (subst (calls p) same call))
    ]

pub recursive_of_round : (calls : ℕ → ℕ → Type 0) (class : List ℕ) → IsClass calls class → (walk : List ℕ) → IsClosedWalk calls (least_member class) walk
    → IsRecursive calls class
recursive_of_round calls class is [] walk = absurd walk.0
recursive_of_round calls class is (m ∷ []) walk = absurd (let two = walk.1 in let one : length (m ∷ []) ≡ 1 = refl in omega (arith, two, one))
recursive_of_round calls class is (m ∷ (n ∷ rest)) walk =
    let P : ℕ → Type 0 = λ each. calls each n in
    recursive_of_step calls class is (least_member class) n refl (subst P walk.0.0 walk.0.1.0) (record { path = rest; walk = walk.0.1.1 })

pub goes_round : (calls : ℕ → ℕ → Type 0) (class : List ℕ) (found : Option (List ℕ)) → IsClass calls class → IsCircuit calls (least_member class) found
    → (is_some found ≡ true) ↔ IsRecursive calls class
goes_round calls class None is none =
    (λ some. absurd (false≢true some), λ recursive. let round = round_of_recursive calls class is recursive in absurd (none round.0 round.1))
goes_round calls class (Some circuit) is least =
    (λ some. recursive_of_round calls class is (circuit ++ least_member class ∷ []) least.is, λ recursive. refl)
