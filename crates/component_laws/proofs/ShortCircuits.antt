-- The circuit of a class has no more nodes than the class.
use Rattle.std.proofs.Common.{◌≡◌, ◌⊎◌, inl, inr, ℕ, ◌+◌, ◌≤◌, List, [], ◌∷◌, ◌++◌, Some, Contains, length, sym, ap, subst, ◌∙◌, append_assoc, length-append, arith}
use Rattle.std.proofs.lemmas.List.Elements.{Contains-append_left}
use Rattle.graph_law.specs.Classes.{IsClass}
use Rattle.graph_law.specs.Reach.{IsWalk, Reaches}
use Rattle.graph_law.proofs.ReachLaws.{reaches_call, reaches_trans}
use Rattle.list_laws.proofs.OneOrder.{first_or_rest, nothing_in}
use Rattle.loop_paths.specs.Circuits.{IsCircuit}
use Rattle.loop_paths.specs.Lists.{IsLeast}
use Rattle.loop_paths.specs.Paths.{IsClosedWalk, IsPath}
use Rattle.component_laws.proofs.Distinct.{AreApart, IsTwice, apart_or_twice, no_longer}

module _ (calls : ℕ → ℕ → Type 0) where
  -- a path without what is between two visits of a node

  tail_walk : (s : ℕ) (before : List ℕ) (x : ℕ) (rest : List ℕ) (q : ℕ) → IsWalk calls s (before ++ x ∷ rest) q → IsWalk calls x rest q
  tail_walk s [] x rest q walk = walk.1
  tail_walk s (n ∷ before) x rest q walk = tail_walk n before x rest q walk.1

  other_tail : (s : ℕ) (before : List ℕ) (x : ℕ) (rest other : List ℕ) (q : ℕ) → IsWalk calls s (before ++ x ∷ rest) q → IsWalk calls x other q
      → IsWalk calls s (before ++ x ∷ other) q
  other_tail s [] x rest other q walk on = (walk.0, on)
  other_tail s (n ∷ before) x rest other q walk on = (walk.0, other_tail n before x rest other q walk.1 on)

  cut_path : (p q : ℕ) (before : List ℕ) (x : ℕ) (between after : List ℕ) → IsPath calls p q (before ++ x ∷ (between ++ x ∷ after))
      → IsPath calls p q (before ++ x ∷ after)
  cut_path p q [] x between after is = (is.0, tail_walk x between x after q is.1)
  cut_path p q (n ∷ before) x between after is =
      let inner : IsWalk calls x (between ++ x ∷ after) q = tail_walk n before x (between ++ x ∷ after) q is.1 in
      (is.0, other_tail n before x (between ++ x ∷ after) after q is.1 (tail_walk x between x after q inner))

  -- so the least closed walk visits each node once
  never_twice : (p : ℕ) (circuit : List ℕ) → IsLeast (λ walk. IsClosedWalk calls p walk) (circuit ++ p ∷ []) → IsTwice circuit → ⊥
  never_twice p circuit least two =
      let x = two.twice in
      let end : List ℕ = two.after ++ p ∷ [] in
      let whole : circuit ++ p ∷ [] ≡ two.before ++ x ∷ (two.between ++ x ∷ end) =
      ap (λ xs. xs ++ p ∷ []) two.is
      ∙ (append_assoc two.before (x ∷ (two.between ++ x ∷ two.after)) (p ∷ [])
      ∙ ap (λ xs. two.before ++ x ∷ xs) (append_assoc two.between (x ∷ two.after) (p ∷ []))) in
      let path : IsPath calls p p (two.before ++ x ∷ end) =
      cut_path p p two.before x two.between end (subst (IsPath calls p p) whole least.is.0) in
      let short : length (two.before ++ x ∷ end) ≡ length two.before + (1 + (length two.after + 1)) =
      omega (arith, length-append two.before (x ∷ end), length-append two.after (p ∷ [])) in
      let long : length (circuit ++ p ∷ []) ≡ length two.before + (1 + (length two.between + (1 + (length two.after + 1)))) =
      omega (
        arith,
        ap length whole,
        length-append two.before (x ∷ (two.between ++ x ∷ end)),
        length-append two.between (x ∷ end),
        length-append two.after (p ∷ []),
      ) in
      least.least (two.before ++ x ∷ end) (path, omega (arith, short)) (inl (omega (arith, short, long)))

  circuit_apart : (p : ℕ) (circuit : List ℕ) → IsLeast (λ walk. IsClosedWalk calls p walk) (circuit ++ p ∷ []) → AreApart circuit
  circuit_apart p circuit least = go (apart_or_twice circuit)
    where
      go : AreApart circuit ⊎ IsTwice circuit → AreApart circuit
      go (inl apart) = apart
      go (inr two) = absurd (never_twice p circuit least two)

  -- and stays in the class

  walk_in : (class : List ℕ) → IsClass calls class → (a : ℕ) (path : List ℕ) (q : ℕ) → Contains class a → Contains class q → IsWalk calls a path q
      → (x : ℕ) → Contains path x → Contains class x
  walk_in class is a [] q here there walk x has = absurd (nothing_in x has)
  walk_in class is a (n ∷ path) q here there walk x has =
      let on : Reaches calls n q = record { path = path; walk = walk.1 } in
      let back : Reaches calls n a = reaches_trans on (is.mutual_reach q a there here).there in
      let next : Contains class n = is.whole a n here (record { there = reaches_call calls a n walk.0; back = back }) in
      elim (first_or_rest n x path has) [
        | inl same ↦ subst (Contains class) same next
        | inr later ↦ walk_in class is n path q next there walk.1 x later
      ]

  circuit_in : (class : List ℕ) → IsClass calls class → (p : ℕ) → Contains class p → (circuit : List ℕ) → IsPath calls p p (circuit ++ p ∷ [])
      → (x : ℕ) → Contains circuit x → Contains class x
  circuit_in class is p member [] path x has = absurd (nothing_in x has)
  circuit_in class is p member (n ∷ rest) path x has =
      let first : Contains class n = subst (Contains class) (sym path.0) member in
      elim (first_or_rest n x rest has) [
        | inl same ↦ subst (Contains class) same first
        | inr later ↦ walk_in class is n (rest ++ p ∷ []) p first member path.1 x (Contains-append_left rest (p ∷ []) x later)
      ]

  pub circuit_short : (class : List ℕ) → IsClass calls class → (p : ℕ) → Contains class p → (circuit : List ℕ) → IsCircuit calls p (Some circuit)
      → length circuit ≤ length class
  circuit_short class is p member circuit least =
      no_longer circuit class (circuit_apart p circuit least) (circuit_in class is p member circuit least.is.0)
