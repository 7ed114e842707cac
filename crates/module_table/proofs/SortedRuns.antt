-- Runs that are sorted: they define what they did before, and where no two are of one predicate they are grouped.
use Rattle.std.proofs.Common.{◌≡◌, ℕ, ◌+◌, ◌<◌, List, [], ◌∷◌, ◌++◌, Option, Some, None, Bool, true, false, not, ◌&&◌, All, Contains, IsPermutation, map, flat_map, filter, get_or, take, length, inl, inr, refl, sym, ap, subst, ◌∙◌, arith, append_assoc}
use Rattle.std.specs.Ordering.{is_lt, is_eq, ordering_reverse}
use Rattle.std.specs.declared.cmp.Ordering.{Ordering}
use Rattle.std.specs.declared.cmp.Ordering.TheVariants.{Less, Equal, Greater}
use Rattle.std.specs.Cmp.{IsStrictWeakOrder}
use Rattle.std.specs.Bool.{OnTrue}
use Rattle.std.specs.List.{IsAllAdjacentAnswer}
use Rattle.std.specs.List.Sorted.{IsStrictlySortedBy, IsSortedBy, IsStableBy, ties}
use Rattle.std.proofs.lemmas.Grind.{flat_map-append}
use Rattle.std.proofs.lemmas.List.{append-nil, get_or-take, length-map, map-append}
use Rattle.std.proofs.lemmas.List.Elements.{All-nil, All-cons, All-head, All-tail, All-append, All-contains, All-weaker, All-from_get_or, Contains-append_right, Contains-push, Contains-append_left, Contains-append_cases}
use Rattle.std.proofs.lemmas.List.Sorted.{Contains-permutation, IsPermutation-sym, ranks_by, sorted_far}
use Rattle.std.proofs.lemmas.Map.Keys.{sorted_from_all_adjacent}
use Rattle.std.proofs.Math.ListN.{get_or-map}
use Rattle.prolog_names.specs.Names.{name_at}
use Rattle.prolog_terms.specs.Tree.{Tree}
use Rattle.module_table.specs.declared.defined.Defined.{Defined}
use Rattle.module_table.specs.Defined.{Defines, Predicate, IsDefined, AreDefined, NoneIsAfter, key, key_of, predicate_cmp, comes_before as stands_before, AreApart, clause_for, clauses_for, see_defined as defined_seen, defined_by, defined_by_all, see_run as run_seen}
use Rattle.module_table.proofs.PredicateOrder.{predicate_cmp_total, same, same_ties, sorted_part, sorted_below}
use Rattle.module_table.proofs.RunLemmas.{all_then}
use Rattle.module_table.proofs.Grouping.{by_test, clause_of_another, all_of, run_added, none_defined}

-- two that tie are equal
pub tied_is_same : (r back : Ordering) → back ≡ ordering_reverse r → (not (is_lt r) && not (is_lt back)) ≡ is_eq r
tied_is_same Less back e = refl
tied_is_same Equal back e = rw e refl
tied_is_same Greater back e = rw e refl

module _ (names : List (List ℕ)) where
  abbrev comes_before : Defined → Defined → Bool
  comes_before a b = stands_before names a b

  pub comes_before_ranks : IsStrictWeakOrder comes_before
  comes_before_ranks = ranks_by predicate_cmp_total (key_of names)

  -- the names of a run's predicate

  abbrev own_module : Defined → List ℕ
  own_module run = name_at names run.module

  abbrev own_name : Defined → List ℕ
  own_name run = name_at names run.name

  abbrev see_defined : Defined → Predicate
  see_defined run = defined_seen names run

  abbrev see_run : Defined → List Defines
  see_run run = run_seen names run

  pub ties_same : (asked run : Defined) → ties comes_before asked run ≡ same (own_module asked) (own_name asked) asked.arity (own_module run) (own_name run) run.arity
  ties_same asked run =
      tied_is_same (predicate_cmp (see_defined asked) (see_defined run)) (predicate_cmp (see_defined run) (see_defined asked))
      (predicate_cmp_total.antisymm (see_defined run) (see_defined asked))
      ∙ sym (same_ties (own_module asked) (own_name asked) asked.arity (own_module run) (own_name run) run.arity)

  -- all that a run defines is of its predicate

  all_of_run : (P : Defines → Type 0) (run : Predicate) → ((clause : Option Tree) → P (record { module_ = run.module_; name = run.name; arity = run.arity; clause = clause }))
      → All P (all_of run)
  all_of_run P run one = by_clauses run.clauses
    where
      trees_of : (trees : List Tree) → All P (map (defined_by run.module_ run.name run.arity) trees)
      trees_of [] = All-nil P
      trees_of (tree ∷ trees) = All-cons P (defined_by run.module_ run.name run.arity tree) (map (defined_by run.module_ run.name run.arity) trees) (one (Some tree)) (trees_of trees)

      by_clauses : (clauses : List Tree) → All P (defined_by_all run.module_ run.name run.arity clauses)
      by_clauses [] = All-cons P (record { module_ = run.module_; name = run.name; arity = run.arity; clause = None }) [] (one None) (All-nil P)
      by_clauses (tree ∷ trees) = trees_of (tree ∷ trees)

  all_of_runs : (P : Defines → Type 0) (runs : List Defined) → All (λ run. All P (see_run run)) runs → All P (flat_map see_run runs)
  all_of_runs P [] all = All-nil P
  all_of_runs P (run ∷ runs) all =
      All-append P (see_run run) (flat_map see_run runs) (All-head (λ r. All P (see_run r)) run runs all)
      (all_of_runs P runs (All-tail (λ r. All P (see_run r)) run runs all))

  none_of : (owner name : List ℕ) (arity : ℕ) (ds : List Defines) → All (λ (d : Defines). same owner name arity d.module_ d.name d.arity ≡ false) ds → clauses_for owner name arity ds ≡ []
  none_of owner name arity [] all = refl
  none_of owner name arity (d ∷ ds) all =
      ap (λ x. x ++ clauses_for owner name arity ds) (clause_of_another owner name arity d (All-head (λ (e : Defines). same owner name arity e.module_ e.name e.arity ≡ false) d ds all))
      ∙ none_of owner name arity ds (All-tail (λ (e : Defines). same owner name arity e.module_ e.name e.arity ≡ false) d ds all)

  -- the clauses of a predicate are those of its own runs
  clauses_of_own : (asked : Defined) (runs : List Defined) → clauses_for (own_module asked) (own_name asked) asked.arity (flat_map see_run runs)
      ≡ clauses_for (own_module asked) (own_name asked) asked.arity (flat_map see_run (filter (ties comes_before asked) runs))
  clauses_of_own asked [] = refl
  clauses_of_own asked (run ∷ runs) =
      let of_asked = clauses_for (own_module asked) (own_name asked) asked.arity in
      let join = λ (others : List Defined). flat_map-append (clause_for (own_module asked) (own_name asked) asked.arity) (see_run run) (flat_map see_run others) in
      by_test (ties comes_before asked run)
      (λ is. rw is
      (join runs ∙ ap (λ x. of_asked (see_run run) ++ x) (clauses_of_own asked runs) ∙ sym (join (filter (ties comes_before asked) runs))))
      (λ other. rw other
      (join runs
      ∙ ap (λ x. x ++ of_asked (flat_map see_run runs))
      (none_of (own_module asked) (own_name asked) asked.arity (see_run run)
      (all_of_run (λ (d : Defines). same (own_module asked) (own_name asked) asked.arity d.module_ d.name d.arity ≡ false) (see_defined run) (λ clause. sym (ties_same asked run) ∙ other)))
      ∙ clauses_of_own asked runs))

  -- the run that defines a predicate
  record RunOf (runs : List Defined) (d : Defines) : Type 0 where
    run : Defined
    stands : Contains runs run
    has : Contains (see_run run) d

  run_of : (runs : List Defined) (d : Defines) → Contains (flat_map see_run runs) d → RunOf runs d
  run_of [] d has = absurd (omega (arith, has.1))
  run_of (run ∷ runs) d has =
      elim (Contains-append_cases (see_run run) (flat_map see_run runs) d has) [
        | inl here ↦ record { run = run; stands = Contains-append_left (run ∷ []) runs run (Contains-push [] run); has = here }
        | inr later ↦
            let it = run_of runs d later in
            record { run = it.run; stands = Contains-append_right (run ∷ []) runs it.run it.stands; has = it.has }
      ]

  within_runs : (runs : List Defined) (run : Defined) (d : Defines) → Contains runs run → Contains (see_run run) d → Contains (flat_map see_run runs) d
  within_runs [] run d has within = absurd (omega (arith, has.1))
  within_runs (first ∷ runs) run d has within =
      elim (Contains-append_cases (first ∷ []) runs run has) [
        | inl here ↦
            let same_run : run ≡ first = All-contains (λ r. r ≡ first) (first ∷ []) run (All-cons (λ r. r ≡ first) first [] refl (All-nil (λ r. r ≡ first))) here in
            Contains-append_left (see_run first) (flat_map see_run runs) d (subst (λ r. Contains (see_run r) d) same_run within)
        | inr later ↦ Contains-append_right (see_run first) (flat_map see_run runs) d (within_runs runs run d later within)
      ]

  -- the same runs, those of each predicate in the same order
  pub from_sorted : (xs ys : List Defined) (out : List Predicate) → IsPermutation xs ys → IsStableBy comes_before xs ys
      → AreDefined (flat_map see_run ys) out → AreDefined (flat_map see_run xs) out
  from_sorted xs ys out moved stable are = record {
    in_order = are.in_order;
    each = λ p has.
        let is = are.each p has in (turned ys xs p.module_ p.name p.arity (IsPermutation-sym xs ys moved) is.0, is.1 ∙ clauses p.module_ p.name p.arity is.0);
    all = λ owner name arity has.
        let there = turned xs ys owner name arity moved has in
        subst (λ cs. Contains out (record { module_ = owner; name = name; arity = arity; clauses = cs })) (clauses owner name arity there) (are.all owner name arity there);
  }
    where
      turned : (us vs : List Defined) (owner name : List ℕ) (arity : ℕ) → IsPermutation us vs → IsDefined owner name arity (flat_map see_run us) → IsDefined owner name arity (flat_map see_run vs)
      turned us vs owner name arity moved has =
          let d : Defines = record { module_ = owner; name = name; arity = arity; clause = has.clause } in
          let it = run_of us d has.stands in
          record { clause = has.clause; stands = within_runs vs it.run d (Contains-permutation us vs it.run moved it.stands) it.has }

      clauses : (owner name : List ℕ) (arity : ℕ) → IsDefined owner name arity (flat_map see_run ys)
          → clauses_for owner name arity (flat_map see_run ys) ≡ clauses_for owner name arity (flat_map see_run xs)
      clauses owner name arity has =
          let d : Defines = record { module_ = owner; name = name; arity = arity; clause = has.clause } in
          let it = run_of ys d has.stands in
          let run = it.run in
          let modules : own_module run ≡ owner =
          All-contains (λ (e : Defines). own_module run ≡ e.module_) (see_run run) d (all_of_run (λ (e : Defines). own_module run ≡ e.module_) (see_defined run) (λ clause. refl)) it.has in
          let named : own_name run ≡ name =
          All-contains (λ (e : Defines). own_name run ≡ e.name) (see_run run) d (all_of_run (λ (e : Defines). own_name run ≡ e.name) (see_defined run) (λ clause. refl)) it.has in
          let arities : run.arity ≡ arity =
          All-contains (λ (e : Defines). run.arity ≡ e.arity) (see_run run) d (all_of_run (λ (e : Defines). run.arity ≡ e.arity) (see_defined run) (λ clause. refl)) it.has in
          let own : clauses_for (own_module run) (own_name run) run.arity (flat_map see_run ys) ≡ clauses_for (own_module run) (own_name run) run.arity (flat_map see_run xs) =
          clauses_of_own run ys
          ∙ ap (λ runs. clauses_for (own_module run) (own_name run) run.arity (flat_map see_run runs)) (stable run)
          ∙ sym (clauses_of_own run xs) in
          subst (λ (r : Predicate). clauses_for r.module_ r.name r.arity (flat_map see_run ys) ≡ clauses_for r.module_ r.name r.arity (flat_map see_run xs))
          (λ i. key (modules i) (named i) (arities i)) own

  -- in sorted runs none so far comes after the next one
  pub none_after_next : (runs done : List Defined) (run : Defined) → IsSortedBy comes_before runs → done ≡ take (length done) runs
      → length done < length runs → run ≡ get_or runs (length done) run → NoneIsAfter (see_defined run) (flat_map see_run done)
  none_after_next runs done run up so_far within is =
      let far_from = λ (e : Defines). is_lt (predicate_cmp (see_defined run) (key e.module_ e.name e.arity)) ≡ false in
      all_of_runs far_from done
      (All-weaker (λ r. comes_before run r ≡ false) (λ r. All far_from (see_run r)) (λ r far. all_of_run far_from (see_defined r) (λ clause. far)) done
      (All-from_get_or (λ r. comes_before run r ≡ false) done run
      (λ k below.
      let earlier : get_or done k run ≡ get_or runs k run = ap (λ xs. get_or xs k run) so_far ∙ get_or-take (length done) runs k run below in
      let far : comes_before (get_or runs (length done) run) (get_or runs k run) ≡ false =
      sorted_far comes_before comes_before_ranks runs up k (length done) run (omega arith) within in
      subst (λ r. comes_before run r ≡ false) (sym earlier) (subst (λ x. comes_before x (get_or runs k run) ≡ false) (sym is) far))))

  -- predicates in order, one run after the other

  each_apart : (done rest : List Defined) → AreDefined (flat_map see_run done) (map see_defined done) → IsStrictlySortedBy predicate_cmp (map see_defined (done ++ rest))
      → AreDefined (flat_map see_run (done ++ rest)) (map see_defined (done ++ rest))
  each_apart done [] are up = subst (λ runs. AreDefined (flat_map see_run runs) (map see_defined runs)) (sym (append-nil done)) are
  each_apart done (run ∷ rest) are up =
      let shifts : (done ++ run ∷ []) ++ rest ≡ done ++ run ∷ rest = append_assoc done (run ∷ []) rest in
      let seen : map see_defined (done ++ run ∷ []) ≡ map see_defined done ++ see_defined run ∷ [] = map-append see_defined done (run ∷ []) in
      let below : All (λ p. predicate_cmp p (see_defined run) ≡ Less) (map see_defined done) =
      sorted_below (map see_defined done) (see_defined run)
      (subst (IsStrictlySortedBy predicate_cmp) seen
      (sorted_part (map see_defined (done ++ run ∷ [])) (map see_defined rest)
      (subst (IsStrictlySortedBy predicate_cmp) (ap (map see_defined) (sym shifts) ∙ map-append see_defined (done ++ run ∷ []) rest) up))) in
      let one_more : AreDefined (flat_map see_run (done ++ run ∷ [])) (map see_defined (done ++ run ∷ [])) =
      subst (λ ps. AreDefined (flat_map see_run (done ++ run ∷ [])) ps) (sym seen)
      (subst (λ ds. AreDefined ds (map see_defined done ++ see_defined run ∷ [])) (sym (all_then names done run))
      (run_added (flat_map see_run done) (see_defined run) (map see_defined done) are below)) in
      subst (λ runs. AreDefined (flat_map see_run runs) (map see_defined runs)) shifts
      (each_apart (done ++ run ∷ []) rest one_more (subst (λ runs. IsStrictlySortedBy predicate_cmp (map see_defined runs)) (sym shifts) up))

  all_apart : (runs : List Defined) → IsStrictlySortedBy predicate_cmp (map see_defined runs) → AreDefined (flat_map see_run runs) (map see_defined runs)
  all_apart runs up = each_apart [] runs none_defined up

  is_less : (r : Ordering) → true ≡ is_lt r → r ≡ Less
  is_less Less e = refl
  is_less Equal e = absurd (let clash : true ≡ false = e in cc)
  is_less Greater e = absurd (let clash : true ≡ false = e in cc)

  up_from_next : (runs : List Defined) → ((k : ℕ) (d : Defined) → k + 1 < length runs → true ≡ comes_before (get_or runs k d) (get_or runs (k + 1) d))
      → IsStrictlySortedBy predicate_cmp (map see_defined runs)
  unfolding IsStrictlySortedBy
  up_from_next [] next = tt
  up_from_next (run ∷ runs) next =
      sorted_from_all_adjacent predicate_cmp_total (map see_defined (run ∷ runs)) (see_defined run)
      (λ k below.
      let here = get_or-map see_defined (run ∷ runs) k run in
      let behind = get_or-map see_defined (run ∷ runs) (k + 1) run in
      (λ i. predicate_cmp (here i) (behind i))
      ∙ is_less (predicate_cmp (see_defined (get_or (run ∷ runs) k run)) (see_defined (get_or (run ∷ runs) (k + 1) run)))
      (next k run (omega (arith, below, length-map (run ∷ runs) see_defined))))

  -- runs each of which comes before the next are the predicates themselves
  pub runs_apart : (xs ys : List Defined) → IsPermutation xs ys → IsStableBy comes_before xs ys
      → AreApart names ys → AreDefined (flat_map see_run xs) (map see_defined ys)
  runs_apart xs ys moved stable next = from_sorted xs ys (map see_defined ys) moved stable (all_apart ys (up_from_next ys next))

  -- the answer is right where it is that each comes before the next
  pub apart_where : (runs : List Defined) (answer : Bool) → IsAllAdjacentAnswer (λ x y b. b ≡ comes_before x y) runs answer → OnTrue answer (AreApart names runs)
  apart_where runs true all = all
  apart_where runs false some = tt
