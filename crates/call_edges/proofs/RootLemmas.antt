-- Where reach begins.
use Rattle.std.proofs.Common.{◌≡◌, ◌⊎◌, ◌↔◌, inl, inr, ℕ, ◌+◌, ◌<◌, Bool, true, false, List, [], Some, Result, Ok, Err, length, get_or, ap, ◌∙◌, subst, refl, arith}
use Rattle.std.specs.Prelude.{Contains, is_ok}
use Rattle.std.specs.List.{enumerate_from}
use Rattle.std.specs.List.Sorted.{IsSortedBy, IsNonDecreasingBy, IsPartitionPoint, IsBinarySearchResult, IsSearchInRange}
use Rattle.std.specs.Cmp.Lexicographic.{slice_cmp}
use Rattle.std.specs.Ordering.{nat_cmp, is_lt, ordering_index, ordering_reverse}
use Rattle.std.specs.declared.cmp.Ordering.TheVariants.{Less, Greater}
use Rattle.std.proofs.lemmas.Bool.{cases_lt}
use Rattle.std.proofs.lemmas.Cmp.{tied_itself, nat_list_cmp_total}
use Rattle.std.proofs.lemmas.List.Sorted.{searchable_from_sorted}
use Rattle.std.proofs.lemmas.Map.Keys.{Less-from_sorted}
use Rattle.list_laws.proofs.Members.{stands_in}
use Rattle.module_table.specs.declared.indicator.Indicator.{Indicator}
use Rattle.module_table.specs.Defined.{Predicate}
use Rattle.module_table.specs.Facts.{Facts}
use Rattle.file_library.specs.Asked.{AreInOrder}
use Rattle.import_rules.specs.Program.{Seen, found}
use Rattle.import_rules.proofs.NameOrder.{same_text}
use Rattle.call_edges.specs.Goals.{Met, place, goal_role, Rows, Adds}
use Rattle.call_edges.specs.ProgramRows.{rows_of}
use Rattle.call_edges.specs.Calls.{IsAmong, IsMetInGoals, GoesTo}
use Rattle.call_edges.specs.Bodies.{Body, body_in, goals_of_file, goals_in, IsMetInBody}
use Rattle.call_edges.specs.Roots.{Gives, IsGivenByRoot, IsCalledByGoal, IsRoot}
use Rattle.call_edges.proofs.AddsLemmas.{adds_then}
use Rattle.call_edges.proofs.AmongLemmas.{among_flat, among_map}
use Rattle.call_edges.proofs.PlaceLemmas.{enumerated, numbered}
use Rattle.call_edges.proofs.CheckLemmas.{place_in}
use Rattle.call_edges.proofs.CallLemmas.{adds_from_none}
use Rattle.import_rules.proofs.FoundMeans.{below}
use Rattle.call_edges.proofs.SuccessorLemmas.{goes_below}

-- what the exports of a file give

abbrev pub IsExport : Seen → List ℕ → Indicator → ℕ → Type 0
IsExport seen owner i n = found seen owner i.name i.arity ≡ Some n

-- roots are below the count

pub given_below : (seen : Seen) (file : Facts) (is_module : Bool) (q : ℕ) → Gives seen file is_module q → q < length seen.predicates
given_below seen file true q gives = let i : Indicator = gives.one in below seen file.module_ i.name i.arity q gives.is
given_below seen file false q gives = let p : Predicate = gives.one in below seen p.module_ p.name p.arity q gives.is

pub root_below : (seen : Seen) (q : ℕ) → IsRoot seen q → q < length seen.predicates
root_below seen q root =
    elim root.is [
      | inl given ↦ given_below seen root.one root.one.is_module q given.gives
      | inr called ↦ goes_below seen ((IsMetInGoals (rows_of seen)) root.one) q called
    ]

-- names in order

sorted_from_order : (xs : List (List ℕ)) → AreInOrder xs → IsSortedBy (λ a b. is_lt (slice_cmp nat_cmp a b)) xs
sorted_from_order xs up k d low within =
    ap is_lt
    (nat_list_cmp_total.antisymm (get_or xs (k + 1) d) (get_or xs k d)
    ∙ ap (λ o. ordering_reverse o) (Less-from_sorted (slice_cmp nat_cmp) xs k (k + 1) d up (omega arith) within))

absent : (xs : List (List ℕ)) (wanted : List ℕ) (place : ℕ) → AreInOrder xs
    → (IsNonDecreasingBy (λ y. ordering_index (slice_cmp nat_cmp y wanted)) xs → IsPartitionPoint (λ y. slice_cmp nat_cmp y wanted ≡ Less) (λ y. slice_cmp nat_cmp y wanted ≡ Greater) xs place)
    → Contains xs wanted → ⊥
absent xs wanted place up split has =
    let parts = split (searchable_from_sorted nat_list_cmp_total (λ (x : List ℕ). x) xs wanted (sorted_from_order xs up)) in
    let tie = ap (λ (x : List ℕ). slice_cmp nat_cmp x wanted) has.2 ∙ tied_itself nat_list_cmp_total wanted in
    elim (cases_lt has.0 place) [
      | inl below ↦ let less = parts.0 has.0 wanted (omega arith) below in cc
      | inr above ↦ let greater = parts.1 has.0 wanted above has.1 in cc
    ]

-- what a binary search tells
pub searched : (xs : List (List ℕ)) (wanted : List ℕ) (r : Result ℕ ℕ) → AreInOrder xs → IsSearchInRange r (length xs)
    → IsBinarySearchResult (λ y. slice_cmp nat_cmp y wanted) xs r → (is_ok r ≡ true) ↔ Contains xs wanted
searched xs wanted (Ok place) up bound is = (
  λ ok. (place, bound, same_text (get_or xs place wanted) wanted (is wanted)),
  λ has. refl,
)
searched xs wanted (Err place) up bound is = (
  λ ok. let both : false ≡ true = ok in absurd (cc),
  λ has. absurd (absent xs wanted place up is has),
)

-- goals of directives, by their files

file_goals : (T : Rows) (at : ℕ × Facts) (m : Met) → IsAmong (IsMetInBody T) (goals_of_file at) m ↔ (IsMetInGoals T) at.1 m
file_goals T at m = among_map (IsMetInBody T) (λ goal. body_in at.0 (place at.1.module_ goal_role goal)) at.1.goals m

pub goals_met : (T : Rows) (files : List Facts) (m : Met) → IsAmong (IsMetInBody T) (goals_in files) m ↔ IsAmong (λ file. (IsMetInGoals T) file) files m
goals_met T files m =
    let flat = among_flat (IsMetInBody T) goals_of_file (enumerate_from 0 files) m in (
      λ among.
          let of_file = flat.0 among in
          let at = of_file.one in
          record { one = at.1; has = stands_in files at.0 at.1 (enumerated files at of_file.has); is = (file_goals T at m).0 of_file.is },
      λ among.
          let file = place_in files among.one among.has in
          flat.1 (record { one = (file.0, among.one); has = numbered files file.0 among.one file.1; is = (file_goals T (file.0, among.one) m).1 among.is }),
    )

pub goals_go : (seen : Seen) (q : ℕ) → GoesTo seen (IsAmong (IsMetInBody (rows_of seen)) (goals_in seen.loaded.files)) q ↔ IsAmong (IsCalledByGoal seen) seen.loaded.files q
goals_go seen q = (
  λ goes.
      let among = (goals_met (rows_of seen) seen.loaded.files goes.met).0 goes.is in
      record { one = among.one; has = among.has; is = record { met = goes.met; is = among.is; goes = goes.goes } },
  λ among.
      record {
        met = among.is.met;
        is = (goals_met (rows_of seen) seen.loaded.files among.is.met).1 (record { one = among.one; has = among.has; is = among.is.is });
        goes = among.is.goes;
      },
)

-- all roots
pub roots_are : (seen : Seen) (goals : List Body) (none named all : List ℕ) → none ≡ [] → goals ≡ goals_in seen.loaded.files
    → Adds (IsAmong (IsGivenByRoot seen) seen.loaded.files) none named → Adds (GoesTo seen (IsAmong (IsMetInBody (rows_of seen)) goals)) named all
    → (q : ℕ) → Contains all q ↔ IsRoot seen q
roots_are seen goals none named all empty are first second q =
    let files = seen.loaded.files in
    let P : List Body → Type 0 = λ bodies. Adds (GoesTo seen (IsAmong (IsMetInBody (rows_of seen)) bodies)) named all in
    let both = adds_then (IsAmong (IsGivenByRoot seen) files) (GoesTo seen (IsAmong (IsMetInBody (rows_of seen)) (goals_in files))) none named all first (subst P are second) in
    let has = adds_from_none (λ n. IsAmong (IsGivenByRoot seen) files n ⊎ GoesTo seen (IsAmong (IsMetInBody (rows_of seen)) (goals_in files)) n) none all empty both q in
    let goes = goals_go seen q in (
      λ in_all.
          elim (has.0 in_all) [
            | inl given ↦ record { one = given.one; has = given.has; is = inl given.is }
            | inr called ↦ let among = goes.0 called in record { one = among.one; has = among.has; is = inr among.is }
          ],
      λ root.
          has.1
          (elim root.is [
            | inl given ↦ inl (record { one = root.one; has = root.has; is = given })
            | inr called ↦ inr (goes.1 (record { one = root.one; has = root.has; is = called }))
          ]),
    )
