-- What is true of released groups and of levels, and what isn't.
use Rattle.std.proofs.Common.{◌≡◌, inl, inr, ℕ, zero, suc, true, false, List, [], ◌∷◌, length, refl, sym, subst, ap, arith}
use Rattle.std.specs.Prelude.{Contains}
use Rattle.std.specs.List.Sorted.{IsStrictlyIncreasing}
use Rattle.list_laws.proofs.OneOrder.{in_first, nothing_in}
use Rattle.graph_law.specs.Graph.{Calls}
use Rattle.graph_law.specs.Classes.{group_at}
use Rattle.group_release.specs.declared.level.Level.{Level}
use Rattle.group_release.specs.Level.{AreLevels}
use Rattle.group_release.specs.Released.{ReleasedGroups, AreReleased, IsNewGroup, IsAppended}

abbrev just : ℕ → List ℕ
just node = node ∷ []

abbrev of : ℕ → List (List ℕ) → ReleasedGroups
of count groups = record { count = count; groups = groups }

only_member : (x p : ℕ) → Contains (x ∷ []) p → x ≡ p
only_member x p (zero, lt, at) = at
only_member x p (suc k, lt, at) = absurd (omega (arith, lt))

-- a node in two groups, one that is none, a group whose members descend, an empty one

in_two_groups : AreReleased (of 3 (just 1 ∷ just 1 ∷ [])) → ⊥
in_two_groups are = omega (arith, are.apart.once 0 1 1 (omega arith) (omega arith) (in_first 1 []) (in_first 1 []))

no_node : AreReleased (of 3 (just 3 ∷ [])) → ⊥
no_node are = omega (arith, are.apart.below 0 3 (omega arith) (in_first 3 []))

descending : AreReleased (of 3 ((2 ∷ 0 ∷ []) ∷ [])) → ⊥
descending are = omega (arith, are.ascending 0 [] (omega arith) 0 (omega arith))

empty_group : AreReleased (of 3 ([] ∷ [])) → ⊥
empty_group are = omega (arith, are.inhabited 0 [] (omega arith))

-- what is released already can't be released again, nor what is no node

twice : IsNewGroup (of 3 (just 1 ∷ [])) (just 1) → ⊥
twice group = group.fresh 1 (in_first 1 []) (record { place = 0; within = omega arith; member = in_first 1 [] })

past_the_last : IsNewGroup (of 3 []) (just 3) → ⊥
past_the_last group = omega (arith, group.below 0 0 (omega arith))

-- a group is put last with its members ascending, not as it stood, and the groups before it stay

rise : (last : List ℕ) → (3 ∷ 1 ∷ []) ≡ last → IsStrictlyIncreasing last → ⊥
rise last is rises =
    let P : List ℕ → Type 0 = λ list. IsStrictlyIncreasing list in
    omega (arith, subst P (sym is) rises 0 (omega arith))

as_it_stood : IsAppended (of 4 []) (3 ∷ 1 ∷ []) (of 4 ((3 ∷ 1 ∷ []) ∷ [])) → ⊥
as_it_stood appended = rise appended.last (ap (λ groups. group_at groups 0) appended.groups) appended.ascending

one_less : (groups last : List (List ℕ)) → groups ≡ just 1 ∷ last → length groups ≡ 0 → ⊥
one_less groups last is none = let same : length groups ≡ length (just 1 ∷ last) = ap length is in omega (arith, same, none)

group_lost : IsAppended (of 4 (just 1 ∷ [])) (just 0) (of 4 []) → ⊥
group_lost appended = one_less [] (appended.last ∷ []) appended.groups refl

-- 0 calls 1, which calls nothing: 0 is just one higher, and neither is recursive

abbrev chain : List (List ℕ)
chain = just 1 ∷ [] ∷ []

abbrev groups : List (List ℕ)
groups = just 1 ∷ just 0 ∷ []

abbrev at_height : ℕ → Level
at_height h = record { height = h; recursive = false }

as_high : AreLevels (Calls chain) groups (at_height 0 ∷ at_height 0 ∷ []) → ⊥
as_high are = omega (
  arith,
  are.heights.above 1 0 (record {
    caller = 0;
    callee = 1;
    caller_within = omega arith;
    callee_within = omega arith;
    other = λ is. omega (arith, is);
    is_caller = in_first 0 [];
    is_callee = in_first 1 [];
    call = in_first 1 [];
  }),
)

called_recursive : (second : Level) → AreLevels (Calls chain) groups (record { height = 0; recursive = true } ∷ second ∷ []) → ⊥
called_recursive second are = elim ((are.marks 0 (omega arith)).0 refl) [ inl two ↦ omega (arith, two) | inr own ↦ nothing_in 1 own.1 ]
