-- The roots of a program, as a list.
use Rattle.std.proofs.Common.{◌≡◌, ◌⊎◌, ◌↔◌, inl, inr, ℕ, ◌+◌, Bool, true, false, List, [], ◌∷◌, ◌++◌, Option, Some, None, cond, refl, sym, subst, ap, arith}
use Rattle.std.specs.Prelude.{Contains, slice_index}
use Rattle.std.specs.Option.{option_to_list}
use Rattle.std.specs.List.{flat_map, list_any}
use Rattle.std.specs.List.Sorted.{IsStrictlyIncreasing}
use Rattle.std.specs.Ordering.{nat_cmp}
use Rattle.std.specs.Str.{bytes_eq}
use Rattle.std.specs.declared.cmp.Ordering.TheVariants.{Less, Equal}
use Rattle.std.proofs.lemmas.Cmp.{ranked, nat_cmp_total}
use Rattle.std.proofs.lemmas.List.Elements.{Contains-append_left, Contains-append_right, Contains-append_cases}
use Rattle.std.proofs.lemmas.Option.{none-some, same_Some}
use Rattle.std.proofs.lemmas.Slice.Eq.{bytes_eq-Decides}
use Rattle.list_laws.proofs.OneOrder.{nothing_in, first_or_rest, in_first}
use Rattle.list_laws.proofs.Members.{any_there, any_from}
use Rattle.module_table.specs.declared.indicator.Indicator.{Indicator}
use Rattle.module_table.specs.Defined.{Predicate}
use Rattle.module_table.specs.Facts.{Facts}
use Rattle.import_rules.specs.Program.{Seen, found}
use Rattle.call_edges.specs.ProgramRows.{rows_of}
use Rattle.call_edges.specs.Calls.{target}
use Rattle.call_edges.specs.Roots.{Gives, IsGivenByRoot, IsCalledByGoal, IsRoot}
use Rattle.laws.proofs.Mets.{given_has, goal_mets, goals_have}
use Rattle.laws.proofs.Orders.{HasOnce, has_once}

pub one_there : (o : Option ℕ) (q : ℕ) → Contains (option_to_list o) q ↔ (o ≡ Some q)
one_there None q = (λ has. absurd (nothing_in q has), λ is. absurd (none-some q is))
one_there (Some n) q = (
  λ has. elim (first_or_rest n q [] has) [ inl same ↦ ap (λ k. Some k) same | inr none ↦ absurd (nothing_in q none) ],
  λ is. subst (Contains (n ∷ [])) (same_Some n q is) (in_first n []),
)

-- what a file gives

abbrev pub given_by : Seen → Facts → Bool → List ℕ
given_by seen file true = flat_map (λ (i : Indicator). option_to_list (found seen file.module_ i.name i.arity)) file.exports
given_by seen file false = flat_map (λ (p : Predicate). option_to_list (found seen p.module_ p.name p.arity)) file.defined

pub given_are : (seen : Seen) (file : Facts) (b : Bool) (q : ℕ) → Contains (given_by seen file b) q ↔ Gives seen file b q
given_are seen file true q =
    given_has (λ (i : Indicator). option_to_list (found seen file.module_ i.name i.arity)) (λ (i : Indicator) n. found seen file.module_ i.name i.arity ≡ Some n)
    (λ i n. one_there (found seen file.module_ i.name i.arity) n) file.exports q
given_are seen file false q =
    given_has (λ (p : Predicate). option_to_list (found seen p.module_ p.name p.arity)) (λ (p : Predicate) n. found seen p.module_ p.name p.arity ≡ Some n)
    (λ p n. one_there (found seen p.module_ p.name p.arity) n) file.defined q

-- what it gives where it is a root file

abbrev pub is_root : Seen → Facts → Bool
is_root seen file = list_any (bytes_eq file.file) seen.loaded.roots

pub root_is : (seen : Seen) (file : Facts) → is_root seen file ≡ true → Contains seen.loaded.roots file.file
root_is seen file is =
    let some = any_from (bytes_eq file.file) seen.loaded.roots is in
    let same : file.file ≡ some.0 = (bytes_eq-Decides file.file some.0).0 some.2 in
    subst (Contains seen.loaded.roots) (sym same) some.1

pub is_the_root : (seen : Seen) (file : Facts) → Contains seen.loaded.roots file.file → is_root seen file ≡ true
is_the_root seen file has = any_there (bytes_eq file.file) seen.loaded.roots file.file has ((bytes_eq-Decides file.file file.file).1 refl)

abbrev root_gives : Seen → Facts → List ℕ
root_gives seen file = cond (is_root seen file) (given_by seen file file.is_module) []

root_given : (seen : Seen) (file : Facts) (q : ℕ) → Contains (root_gives seen file) q ↔ IsGivenByRoot seen file q
root_given seen file q = (
  to (is_root seen file) refl,
  λ given.
      let there : Contains (given_by seen file file.is_module) q = are.1 given.gives in
      subst (λ b. Contains (cond b (given_by seen file file.is_module) []) q) (sym (is_the_root seen file given.is_root)) there,
)
  where
    are : Contains (given_by seen file file.is_module) q ↔ Gives seen file file.is_module q
    are = given_are seen file file.is_module q

    to : (b : Bool) → is_root seen file ≡ b → Contains (cond b (given_by seen file file.is_module) []) q → IsGivenByRoot seen file q
    to true is has = record { is_root = root_is seen file is; gives = are.0 has }
    to false is has = absurd (nothing_in q has)

-- what its goals call

abbrev pub goals_call : Seen → Facts → List ℕ
goals_call seen file = flat_map (λ m. option_to_list (target seen m)) (goal_mets (rows_of seen) file)

pub called_are : (seen : Seen) (file : Facts) (q : ℕ) → Contains (goals_call seen file) q ↔ IsCalledByGoal seen file q
called_are seen file q =
    let flat = given_has (λ m. option_to_list (target seen m)) (λ m n. target seen m ≡ Some n) (λ m n. one_there (target seen m) n) (goal_mets (rows_of seen) file) q in (
      λ has. let among = flat.0 has in record { met = among.one; is = (goals_have (rows_of seen) file among.one).0 among.has; goes = among.is },
      λ goes. flat.1 (record { one = goes.met; has = (goals_have (rows_of seen) file goes.met).1 goes.is; is = goes.goes }),
    )

-- all roots

abbrev file_roots : Seen → Facts → List ℕ
file_roots seen file = root_gives seen file ++ goals_call seen file

abbrev IsRootBy : Seen → Facts → ℕ → Type 0
IsRootBy seen file n = IsGivenByRoot seen file n ⊎ IsCalledByGoal seen file n

file_has : (seen : Seen) (file : Facts) (q : ℕ) → Contains (file_roots seen file) q ↔ IsRootBy seen file q
file_has seen file q =
    let given = root_given seen file q in
    let called = called_are seen file q in (
      λ has. elim (Contains-append_cases (root_gives seen file) (goals_call seen file) q has) [ inl here ↦ inl (given.0 here) | inr later ↦ inr (called.0 later) ],
      λ root.
          elim root [
            | inl is ↦ Contains-append_left (root_gives seen file) (goals_call seen file) q (given.1 is)
            | inr goes ↦ Contains-append_right (root_gives seen file) (goals_call seen file) q (called.1 goes)
          ],
    )

same_number : (a b : ℕ) → nat_cmp a b ≡ Equal → a ≡ b
same_number a b tie = ranked a b Equal (sym tie)

pub roots_exist : (seen : Seen) → (roots : List ℕ) × (IsStrictlyIncreasing roots × ((q : ℕ) → Contains roots q ↔ IsRoot seen q))
roots_exist seen =
    let all : List ℕ = flat_map (file_roots seen) seen.loaded.files in
    let ordered : HasOnce nat_cmp nat_cmp_total all = has_once nat_cmp nat_cmp_total same_number all in (
      ordered.once,
      (
        λ k within. ranked (slice_index ordered.once k) (slice_index ordered.once (k + 1)) Less (sym (ordered.rising k (k + 1) 0 (omega arith) within)),
        λ q.
            let is = given_has (file_roots seen) (IsRootBy seen) (file_has seen) seen.loaded.files q in
            let has = ordered.each q in
            (λ there. is.0 (has.0 there), λ root. has.1 (is.1 root)),
      ),
    )
