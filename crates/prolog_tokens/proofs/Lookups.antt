-- The tokens of a cut by their index.
use Rattle.std.proofs.Common.{◌≡◌, ℕ, zero, suc, ◌+◌, ◌<◌, ◌≤◌, List, [], ◌∷◌, length, take, Some, All, ap, subst, refl, add-one, arith}
use Rattle.std.specs.List.{slice_get, AllByRecursion}
use Rattle.std.proofs.lemmas.List.Elements.{All-from_recursion}
use Rattle.prolog_tokens.specs.declared.token.Token.{Token}
use Rattle.prolog_tokens.specs.Cut.{IsNext, StandBetween, IsCut, ended, IsTokenOf}
use Rattle.prolog_tokens.proofs.Pieces.{layout_from}
use Rattle.prolog_tokens.proofs.Between.{next_some}

-- the k-th token stands next where those before it have ended
pub stand_next : (text : List ℕ) (a b : ℕ) (ts : List Token) → StandBetween text a ts b → (k : ℕ) (t : Token) → slice_get ts k ≡ Some t → IsNext text (ended a ts k) t
stand_next text a b [] stand k t is = let none : ⊥ = cc in absurd none
stand_next text a b (u ∷ us) (next, rest) zero t is = let same : u ≡ t = cc in subst (IsNext text a) same next
stand_next text a b (u ∷ us) (next, rest) (suc k) t is = stand_next text u.end b us rest k t is

-- the first k tokens of those that stand between two places
pub stand_take : (text : List ℕ) (a b : ℕ) (ts : List Token) → StandBetween text a ts b → (k : ℕ) → StandBetween text a (take k ts) (ended a ts k)
stand_take text a b [] stand zero = refl
stand_take text a b [] stand (suc k) = refl
stand_take text a b (u ∷ us) (next, rest) zero = refl
stand_take text a b (u ∷ us) (next, rest) (suc k) = (next, stand_take text u.end b us rest k)

each_spelled : (text : List ℕ) (a b : ℕ) (ts : List Token) → StandBetween text a ts b → AllByRecursion (IsTokenOf text) ts
each_spelled text a b [] stand = tt
each_spelled text a b (u ∷ us) (next, rest) = (next.spelled, each_spelled text u.end b us rest)

pub stand_all : (text : List ℕ) (a b : ℕ) (ts : List Token) → StandBetween text a ts b → All (IsTokenOf text) ts
stand_all text a b ts stand = All-from_recursion (IsTokenOf text) ts (each_spelled text a b ts stand)

pub stand_from : (text : List ℕ) (a b : ℕ) (ts : List Token) → StandBetween text a ts b → a ≤ b
stand_from text a b [] is = omega (arith, is)
stand_from text a b (u ∷ us) (next, rest) = omega (arith, next_some text a u next, stand_from text u.end b us rest)

-- between two places stand no more tokens than bytes
pub stand_fewer : (text : List ℕ) (a b : ℕ) (ts : List Token) → StandBetween text a ts b → length ts + a ≤ b
stand_fewer text a b [] is = omega (arith, is)
stand_fewer text a b (u ∷ us) (next, rest) = omega (arith, next_some text a u next, stand_fewer text u.end b us rest)

ended_suc : (a : ℕ) (ts : List Token) (k : ℕ) (t : Token) → slice_get ts k ≡ Some t → ended a ts (suc k) ≡ t.end
ended_suc a [] k t is = let none : ⊥ = cc in absurd none
ended_suc a (u ∷ us) zero t is = let same : u ≡ t = cc in ap (λ (x : Token). x.end) same
ended_suc a (u ∷ us) (suc k) t is = ended_suc u.end us k t is

-- where the k-th token ends those up to it have ended
pub ended_more : (a : ℕ) (ts : List Token) (k : ℕ) (t : Token) → slice_get ts k ≡ Some t → ended a ts (k + 1) ≡ t.end
ended_more a ts k t is = rw add-one (ended_suc a ts k t is)

-- those before a later index have ended no earlier
pub ended_order : (text : List ℕ) (a b : ℕ) (ts : List Token) → StandBetween text a ts b → (j k : ℕ) → j ≤ k → ended a ts j ≤ ended a ts k
ended_order text a b [] stand zero zero le = omega arith
ended_order text a b [] stand zero (suc k) le = omega arith
ended_order text a b [] stand (suc j) zero le = absurd (omega arith)
ended_order text a b [] stand (suc j) (suc k) le = omega arith
ended_order text a b (u ∷ us) (next, rest) zero k le = stand_from text a (ended a (u ∷ us) k) (take k (u ∷ us)) (stand_take text a b (u ∷ us) (next, rest) k)
ended_order text a b (u ∷ us) (next, rest) (suc j) zero le = absurd (omega arith)
ended_order text a b (u ∷ us) (next, rest) (suc j) (suc k) le = ended_order text u.end b us rest j k (omega arith)

-- where the token stands in its text
pub record Bounds (text : List ℕ) (t : Token) : Type 0 where
  pub some : t.start < t.end
  pub within : t.end ≤ length text

-- each token of a cut is spelled
pub cut_all : (text : List ℕ) (ts : List Token) → IsCut text ts → All (IsTokenOf text) ts
cut_all text ts cut = stand_all text 0 cut.last ts cut.stand

-- the k-th token stands next behind those before it
pub cut_next : (text : List ℕ) (ts : List Token) → IsCut text ts → (k : ℕ) (t : Token) → slice_get ts k ≡ Some t → IsNext text (ended 0 ts k) t
cut_next text ts cut = stand_next text 0 cut.last ts cut.stand

pub cut_spelled : (text : List ℕ) (ts : List Token) → IsCut text ts → (k : ℕ) (t : Token) → slice_get ts k ≡ Some t → IsTokenOf text t
cut_spelled text ts cut k t is = let next : IsNext text (ended 0 ts k) t = cut_next text ts cut k t is in next.spelled

-- a later token starts no earlier than an earlier one ends
pub cut_order : (text : List ℕ) (ts : List Token) → IsCut text ts → (j k : ℕ) (t u : Token) → j < k → slice_get ts j ≡ Some t → slice_get ts k ≡ Some u → t.end ≤ u.start
cut_order text ts cut j k t u lt is is' =
    let next : IsNext text (ended 0 ts k) u = cut_next text ts cut k u is' in
    let order : ended 0 ts (j + 1) ≤ ended 0 ts k = ended_order text 0 cut.last ts cut.stand (j + 1) k (omega arith) in
    let from : ended 0 ts k ≤ u.start = layout_from text (ended 0 ts k) u.start next.layout in
    omega (arith, ended_more 0 ts j t is)

-- a text has no more tokens than bytes
pub cut_fewer : (text : List ℕ) (ts : List Token) → IsCut text ts → length ts ≤ length text
cut_fewer text ts cut = omega (arith, stand_fewer text 0 cut.last ts cut.stand, layout_from text cut.last (length text) cut.layout)
