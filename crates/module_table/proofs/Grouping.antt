-- One more run of definitions among those that are grouped.
use Rattle.std.proofs.Common.{if◌then◌else◌, ◌≡◌, ℕ, ◌<◌, List, [], ◌∷◌, ◌++◌, Option, Some, None, Bool, true, false, All, Contains, map, option_to_list, ◌⊎◌, inl, inr, refl, sym, ap, subst, ◌∙◌, arith, append_assoc}
use Rattle.std.specs.Ordering.{is_lt}
use Rattle.std.specs.declared.cmp.Ordering.TheVariants.{Less}
use Rattle.std.specs.List.Sorted.{IsStrictlySortedBy}
use Rattle.std.proofs.lemmas.Bool.{false_from_ne_true}
use Rattle.std.proofs.lemmas.Grind.{flat_map-append}
use Rattle.std.proofs.lemmas.List.{append-nil, map-append}
use Rattle.std.proofs.lemmas.List.Elements.{All-nil, All-contains, All-weaker, All-push, Contains-append_right, Contains-push, Contains-push_cases, Contains-append_left}
use Rattle.prolog_names.specs.Names.{name_at}
use Rattle.prolog_terms.specs.Tree.{Tree}
use Rattle.clause_text.specs.Clauses.{clause_tree, clause_trees}
use Rattle.module_table.specs.declared.defined.Defined.{Defined}
use Rattle.module_table.specs.Defined.{Defines, Predicate, IsDefined, AreDefined, NoneIsAfter, key, predicate_cmp, clause_for, clauses_for, kept_clauses, see_defined, defined_by, defined_by_all, see_run}
use Rattle.module_table.proofs.PredicateOrder.{predicate_cmp_total, same, same_parts, same_itself, apart_from_Less, Less-from_apart, sorted_push, sorted_front, sorted_below, not_itself, one_sorted_list}

-- the predicate of that module, name and arity, with its clauses
abbrev pub predicate_at : List ℕ → List ℕ → ℕ → List Defines → Predicate
predicate_at owner name arity ds = record { module_ = owner; name = name; arity = arity; clauses = clauses_for owner name arity ds }

abbrev only_if : Bool → Option Tree → List Tree
only_if b c = elim c [ Some tree ↦ if b then tree ∷ [] else [] | None ↦ [] ]

only_if_true : (b : Bool) (c : Option Tree) → b ≡ true → only_if b c ≡ option_to_list c
only_if_true b (Some tree) e = rw e refl
only_if_true b None e = refl

only_if_false : (b : Bool) (c : Option Tree) → b ≡ false → only_if b c ≡ []
only_if_false b (Some tree) e = rw e refl
only_if_false b None e = refl

clause_of_it : (owner name : List ℕ) (arity : ℕ) (d : Defines) → same owner name arity d.module_ d.name d.arity ≡ true → clause_for owner name arity d ≡ option_to_list d.clause
clause_of_it owner name arity d e = only_if_true (same owner name arity d.module_ d.name d.arity) d.clause e

pub clause_of_another : (owner name : List ℕ) (arity : ℕ) (d : Defines) → same owner name arity d.module_ d.name d.arity ≡ false → clause_for owner name arity d ≡ []
clause_of_another owner name arity d e = only_if_false (same owner name arity d.module_ d.name d.arity) d.clause e

clauses_more : (owner name : List ℕ) (arity : ℕ) (ds : List Defines) (d : Defines)
    → clauses_for owner name arity (ds ++ d ∷ []) ≡ clauses_for owner name arity ds ++ clause_for owner name arity d
clauses_more owner name arity ds d =
    flat_map-append (clause_for owner name arity) ds (d ∷ []) ∙ ap (λ x. clauses_for owner name arity ds ++ x) (append-nil (clause_for owner name arity d))

clauses_kept : (owner name : List ℕ) (arity : ℕ) (ds : List Defines) (d : Defines) → same owner name arity d.module_ d.name d.arity ≡ false
    → clauses_for owner name arity ds ≡ clauses_for owner name arity (ds ++ d ∷ [])
clauses_kept owner name arity ds d other =
    sym
    (clauses_more owner name arity ds d ∙ ap (λ x. clauses_for owner name arity ds ++ x) (clause_of_another owner name arity d other)
    ∙ append-nil (clauses_for owner name arity ds))

defined_more : (owner name : List ℕ) (arity : ℕ) (ds : List Defines) (d : Defines) → IsDefined owner name arity ds → IsDefined owner name arity (ds ++ d ∷ [])
defined_more owner name arity ds d has = record {
  clause = has.clause;
  stands = Contains-append_left ds (d ∷ []) (record { module_ = owner; name = name; arity = arity; clause = has.clause }) has.stands;
}

defined_cases : (owner name : List ℕ) (arity : ℕ) (ds : List Defines) (d : Defines) → IsDefined owner name arity (ds ++ d ∷ [])
    → IsDefined owner name arity ds ⊎ ((d.module_ ≡ owner) × (d.name ≡ name) × (d.arity ≡ arity))
defined_cases owner name arity ds d has =
    elim (Contains-push_cases ds d (record { module_ = owner; name = name; arity = arity; clause = has.clause }) has.stands) [
      | inl before ↦ inl (record { clause = has.clause; stands = before })
      | inr e ↦ inr (ap (λ (x : Defines). x.module_) e, ap (λ (x : Defines). x.name) e, ap (λ (x : Defines). x.arity) e)
    ]

pub by_test : {C : Type 0} (b : Bool) → (b ≡ true → C) → (b ≡ false → C) → C
by_test true yes_ no_ = yes_ refl
by_test false yes_ no_ = no_ refl

-- the predicate of d, with its clauses and that of d
abbrev last_with : List Defines → Defines → Predicate
last_with ds d = predicate_at d.module_ d.name d.arity (ds ++ d ∷ [])

-- the last predicate is that of d, all before it stand as they stood
put_last : (ds : List Defines) (d : Defines) (before : List Predicate) → IsStrictlySortedBy predicate_cmp before
    → All (λ p. predicate_cmp p (key d.module_ d.name d.arity) ≡ Less) before
    → ((p : Predicate) → Contains before p → IsDefined p.module_ p.name p.arity ds × (p.clauses ≡ clauses_for p.module_ p.name p.arity ds))
    → ((owner name : List ℕ) (arity : ℕ) → IsDefined owner name arity ds → same owner name arity d.module_ d.name d.arity ≡ false → Contains before (predicate_at owner name arity ds))
    → AreDefined (ds ++ d ∷ []) (before ++ predicate_at d.module_ d.name d.arity (ds ++ d ∷ []) ∷ [])
put_last ds d before up below each all = record {
  in_order = sorted_push before (last_with ds d) up below;
  each = λ p has.
      elim (Contains-push_cases before (last_with ds d) p has) [
        | inl earlier ↦
            let other : same p.module_ p.name p.arity d.module_ d.name d.arity ≡ false =
            apart_from_Less p (key d.module_ d.name d.arity) (All-contains (λ x. predicate_cmp x (key d.module_ d.name d.arity) ≡ Less) before p below earlier) in
            let is = each p earlier in
            (defined_more p.module_ p.name p.arity ds d is.0, is.1 ∙ clauses_kept p.module_ p.name p.arity ds d other)
        | inr e ↦
            subst (λ (x : Predicate). IsDefined x.module_ x.name x.arity (ds ++ d ∷ []) × (x.clauses ≡ clauses_for x.module_ x.name x.arity (ds ++ d ∷ []))) e
            (record { clause = d.clause; stands = Contains-push ds d }, refl)
      ];
  all = λ owner name arity has.
      by_test (same owner name arity d.module_ d.name d.arity)
      (λ is.
      let parts = same_parts owner name arity d.module_ d.name d.arity is in
      subst (λ (x : Predicate). Contains (before ++ last_with ds d ∷ []) x)
      (λ i. predicate_at (sym parts.0 i) (sym parts.1 i) (sym parts.2 i) (ds ++ d ∷ [])) (Contains-push before (last_with ds d)))
      (λ other.
      elim (defined_cases owner name arity ds d has) [
        | inl earlier ↦
            Contains-append_left before (last_with ds d ∷ []) (predicate_at owner name arity (ds ++ d ∷ []))
            (subst (λ cs. Contains before (record { module_ = owner; name = name; arity = arity; clauses = cs })) (clauses_kept owner name arity ds d other)
            (all owner name arity earlier other))
        | inr e ↦
            let itself : same owner name arity d.module_ d.name d.arity ≡ true =
            (λ i. same owner name arity (e.0 i) (e.1 i) (e.2 i)) ∙ same_itself owner name arity in
            absurd (let clash : true ≡ false = sym itself ∙ other in cc)
      ]);
}

none_before : (owner name : List ℕ) (arity : ℕ) (ds : List Defines) → (IsDefined owner name arity ds → ⊥) → clauses_for owner name arity ds ≡ []
none_before owner name arity [] none = refl
none_before owner name arity (d ∷ ds) none =
    let here : same owner name arity d.module_ d.name d.arity ≡ true → IsDefined owner name arity (d ∷ ds) =
    λ is. let parts = same_parts owner name arity d.module_ d.name d.arity is in
    record {
      clause = d.clause;
      stands = subst (λ (x : Defines). Contains (d ∷ ds) x)
          (λ i. record { module_ = sym parts.0 i; name = sym parts.1 i; arity = sym parts.2 i; clause = d.clause })
          (Contains-append_left (d ∷ []) ds d (Contains-push [] d));
    } in
    let later : IsDefined owner name arity ds → ⊥ =
    λ has. none
    (record {
      clause = has.clause;
      stands = Contains-append_right (d ∷ []) ds (record { module_ = owner; name = name; arity = arity; clause = has.clause }) has.stands;
    }) in
    ap (λ x. x ++ clauses_for owner name arity ds)
    (clause_of_another owner name arity d (false_from_ne_true (same owner name arity d.module_ d.name d.arity) (λ is. none (here is))))
    ∙ none_before owner name arity ds later

-- a predicate that comes after all so far
new_last : (ds : List Defines) (d : Defines) (before : List Predicate) → AreDefined ds before
    → All (λ p. predicate_cmp p (key d.module_ d.name d.arity) ≡ Less) before
    → AreDefined (ds ++ d ∷ []) (before ++ record { module_ = d.module_; name = d.name; arity = d.arity; clauses = option_to_list d.clause } ∷ [])
new_last ds d before are below =
    subst (λ cs. AreDefined (ds ++ d ∷ []) (before ++ record { module_ = d.module_; name = d.name; arity = d.arity; clauses = cs } ∷ []))
    (clauses_more d.module_ d.name d.arity ds d
    ∙ ap (λ x. x ++ clause_for d.module_ d.name d.arity d) (none_before d.module_ d.name d.arity ds none)
    ∙ clause_of_it d.module_ d.name d.arity d (same_itself d.module_ d.name d.arity))
    (put_last ds d before are.in_order below are.each (λ owner name arity has other. are.all owner name arity has))
  where
    none : IsDefined d.module_ d.name d.arity ds → ⊥
    none has =
        not_itself (key d.module_ d.name d.arity)
        (All-contains (λ x. predicate_cmp x (key d.module_ d.name d.arity) ≡ Less) before (predicate_at d.module_ d.name d.arity ds) below (are.all d.module_ d.name d.arity has))

-- one more definition of the last predicate
more_of_last : (ds : List Defines) (d : Defines) (before : List Predicate) (last : Predicate) → AreDefined ds (before ++ last ∷ [])
    → same last.module_ last.name last.arity d.module_ d.name d.arity ≡ true
    → AreDefined (ds ++ d ∷ []) (before ++ record { module_ = last.module_; name = last.name; arity = last.arity; clauses = last.clauses ++ option_to_list d.clause } ∷ [])
more_of_last ds d before last are is =
    let parts = same_parts last.module_ last.name last.arity d.module_ d.name d.arity is in
    let clauses_before : clauses_for d.module_ d.name d.arity ds ≡ last.clauses =
    sym ((are.each last (Contains-push before last)).1 ∙ (λ i. clauses_for (parts.0 i) (parts.1 i) (parts.2 i) ds)) in
    let clauses : clauses_for d.module_ d.name d.arity (ds ++ d ∷ []) ≡ last.clauses ++ option_to_list d.clause =
    clauses_more d.module_ d.name d.arity ds d ∙ (λ i. clauses_before i ++ clause_of_it d.module_ d.name d.arity d (same_itself d.module_ d.name d.arity) i) in
    subst (λ (x : Predicate). AreDefined (ds ++ d ∷ []) (before ++ x ∷ []))
    (λ i. record { module_ = sym parts.0 i; name = sym parts.1 i; arity = sym parts.2 i; clauses = clauses i })
    (put_last ds d before (sorted_front before last are.in_order)
    (subst (λ k. All (λ p. predicate_cmp p k ≡ Less) before) (λ i. key (parts.0 i) (parts.1 i) (parts.2 i)) (sorted_below before last are.in_order))
    (λ p has. are.each p (Contains-append_left before (last ∷ []) p has))
    (λ owner name arity has other.
    elim (Contains-push_cases before last (predicate_at owner name arity ds) (are.all owner name arity has)) [
      | inl earlier ↦ earlier
      | inr e ↦
          let itself : same owner name arity d.module_ d.name d.arity ≡ true = subst (λ (x : Predicate). same x.module_ x.name x.arity d.module_ d.name d.arity ≡ true) e is in
          absurd (let clash : true ≡ false = sym itself ∙ other in cc)
    ]))

-- more clauses of the last predicate
more_clauses : (owner name : List ℕ) (arity : ℕ) (ds : List Defines) (before : List Predicate) (clauses trees : List Tree)
    → AreDefined ds (before ++ record { module_ = owner; name = name; arity = arity; clauses = clauses } ∷ [])
    → AreDefined (ds ++ map (defined_by owner name arity) trees) (before ++ record { module_ = owner; name = name; arity = arity; clauses = clauses ++ trees } ∷ [])
more_clauses owner name arity ds before clauses [] are =
    subst (λ es. AreDefined es (before ++ record { module_ = owner; name = name; arity = arity; clauses = clauses ++ [] } ∷ [])) (sym (append-nil ds))
    (subst (λ cs. AreDefined ds (before ++ record { module_ = owner; name = name; arity = arity; clauses = cs } ∷ [])) (sym (append-nil clauses)) are)
more_clauses owner name arity ds before clauses (tree ∷ trees) are =
    let d = defined_by owner name arity tree in
    let last : Predicate = record { module_ = owner; name = name; arity = arity; clauses = clauses } in
    let one_more = more_of_last ds d before last are (same_itself owner name arity) in
    subst (λ es. AreDefined es (before ++ record { module_ = owner; name = name; arity = arity; clauses = clauses ++ tree ∷ trees } ∷ []))
    (append_assoc ds (d ∷ []) (map (defined_by owner name arity) trees))
    (subst (λ cs. AreDefined ((ds ++ d ∷ []) ++ map (defined_by owner name arity) trees) (before ++ record { module_ = owner; name = name; arity = arity; clauses = cs } ∷ []))
    (append_assoc clauses (tree ∷ []) trees)
    (more_clauses owner name arity (ds ++ d ∷ []) before (clauses ++ tree ∷ []) trees one_more))

-- what a run of these clauses defines
abbrev pub all_of : Predicate → List Defines
all_of run = defined_by_all run.module_ run.name run.arity run.clauses

-- a run of a predicate that comes after all so far
pub run_added : (ds : List Defines) (run : Predicate) (before : List Predicate) → AreDefined ds before
    → All (λ p. predicate_cmp p run ≡ Less) before → AreDefined (ds ++ all_of run) (before ++ run ∷ [])
run_added ds run before are below = by_clauses run.clauses
  where
    by_clauses : (clauses : List Tree)
        → AreDefined (ds ++ defined_by_all run.module_ run.name run.arity clauses) (before ++ record { module_ = run.module_; name = run.name; arity = run.arity; clauses = clauses } ∷ [])
    by_clauses [] = new_last ds (record { module_ = run.module_; name = run.name; arity = run.arity; clause = None }) before are below
    by_clauses (tree ∷ trees) =
        let d = defined_by run.module_ run.name run.arity tree in
        subst (λ es. AreDefined es (before ++ record { module_ = run.module_; name = run.name; arity = run.arity; clauses = tree ∷ trees } ∷ []))
        (append_assoc ds (d ∷ []) (map (defined_by run.module_ run.name run.arity) trees))
        (more_clauses run.module_ run.name run.arity (ds ++ d ∷ []) before (tree ∷ []) trees (new_last ds d before are below))

-- a run of the last predicate
pub run_joined : (ds : List Defines) (run : Predicate) (before : List Predicate) (last : Predicate) → AreDefined ds (before ++ last ∷ [])
    → same last.module_ last.name last.arity run.module_ run.name run.arity ≡ true
    → AreDefined (ds ++ all_of run) (before ++ record { module_ = last.module_; name = last.name; arity = last.arity; clauses = last.clauses ++ run.clauses } ∷ [])
run_joined ds run before last are is = by_clauses run.clauses
  where
    by_clauses : (clauses : List Tree) → AreDefined (ds ++ defined_by_all run.module_ run.name run.arity clauses)
        (before ++ record { module_ = last.module_; name = last.name; arity = last.arity; clauses = last.clauses ++ clauses } ∷ [])
    by_clauses [] = more_of_last ds (record { module_ = run.module_; name = run.name; arity = run.arity; clause = None }) before last are is
    by_clauses (tree ∷ trees) =
        let parts = same_parts last.module_ last.name last.arity run.module_ run.name run.arity is in
        subst (λ es. AreDefined (ds ++ es) (before ++ record { module_ = last.module_; name = last.name; arity = last.arity; clauses = last.clauses ++ tree ∷ trees } ∷ []))
        (λ i. map (defined_by (parts.0 i) (parts.1 i) (parts.2 i)) (tree ∷ trees))
        (more_clauses last.module_ last.name last.arity ds before last.clauses (tree ∷ trees) are)

-- all so far come before a predicate that isn't the last one's, where no definition so far comes after it
all_before : (ds : List Defines) (run : Predicate) (before : List Predicate) (last : Predicate) → AreDefined ds (before ++ last ∷ [])
    → NoneIsAfter run ds → same last.module_ last.name last.arity run.module_ run.name run.arity ≡ false → All (λ p. predicate_cmp p run ≡ Less) (before ++ last ∷ [])
all_before ds run before last are up other =
    let has = (are.each last (Contains-push before last)).0 in
    let less : predicate_cmp last run ≡ Less =
    Less-from_apart last run
    (All-contains (λ (e : Defines). is_lt (predicate_cmp run (key e.module_ e.name e.arity)) ≡ false) ds
    (record { module_ = last.module_; name = last.name; arity = last.arity; clause = has.clause }) up has.stands)
    other in
    All-push (λ p. predicate_cmp p run ≡ Less) before last
    (All-weaker (λ p. predicate_cmp p last ≡ Less) (λ p. predicate_cmp p run ≡ Less)
    (λ p e. predicate_cmp_total.trans p last run e less) before (sorted_below before last are.in_order))
    less

pub add_to_none : (names : List (List ℕ)) (ds : List Defines) (run : Defined) (old new : List Defined) → old ≡ [] → new ≡ old ++ run ∷ []
    → AreDefined ds (map (see_defined names) old) → AreDefined (ds ++ see_run names run) (map (see_defined names) new)
add_to_none names ds run old new empty is are =
    subst (AreDefined (ds ++ see_run names run)) (sym (ap (map (see_defined names)) (is ∙ ap (λ xs. xs ++ run ∷ []) empty)))
    (run_added ds (see_defined names run) [] (subst (AreDefined ds) (ap (map (see_defined names)) empty) are) (All-nil (λ p. predicate_cmp p (see_defined names run) ≡ Less)))

pub add_behind : (names : List (List ℕ)) (ds : List Defines) (run : Defined) (old kept held new : List Defined) (last : Defined) → old ≡ kept ++ last ∷ []
    → held ≡ kept ++ last ∷ [] → new ≡ held ++ run ∷ [] → same (name_at names last.module) (name_at names last.name) last.arity (name_at names run.module) (name_at names run.name) run.arity ≡ false → NoneIsAfter (see_defined names run) ds
    → AreDefined ds (map (see_defined names) old) → AreDefined (ds ++ see_run names run) (map (see_defined names) new)
add_behind names ds run old kept held new last was stays is other up are =
    let front = map (see_defined names) kept in
    let before : map (see_defined names) old ≡ front ++ see_defined names last ∷ [] = ap (map (see_defined names)) was ∙ map-append (see_defined names) kept (last ∷ []) in
    let after : (front ++ see_defined names last ∷ []) ++ see_defined names run ∷ [] ≡ map (see_defined names) new =
    sym
    (ap (map (see_defined names)) (is ∙ ap (λ xs. xs ++ run ∷ []) stays)
    ∙ map-append (see_defined names) (kept ++ last ∷ []) (run ∷ [])
    ∙ ap (λ ps. ps ++ see_defined names run ∷ []) (map-append (see_defined names) kept (last ∷ []))) in
    let so_far = subst (AreDefined ds) before are in
    subst (AreDefined (ds ++ see_run names run)) after
    (run_added ds (see_defined names run) (front ++ see_defined names last ∷ []) so_far (all_before ds (see_defined names run) front (see_defined names last) so_far up other))

pub add_to_last : (names : List (List ℕ)) (ds : List Defines) (run : Defined) (old kept new : List Defined) (last longer : Defined) → old ≡ kept ++ last ∷ []
    → new ≡ kept ++ longer ∷ [] → longer.module ≡ last.module → longer.name ≡ last.name → longer.arity ≡ last.arity
    → kept_clauses longer.clauses ≡ kept_clauses last.clauses ++ kept_clauses run.clauses
    → same (name_at names last.module) (name_at names last.name) last.arity (name_at names run.module) (name_at names run.name) run.arity ≡ true
    → AreDefined ds (map (see_defined names) old) → AreDefined (ds ++ see_run names run) (map (see_defined names) new)
add_to_last names ds run old kept new last longer was is modules named arities clauses own are =
    let front = map (see_defined names) kept in
    let before : map (see_defined names) old ≡ front ++ see_defined names last ∷ [] = ap (map (see_defined names)) was ∙ map-append (see_defined names) kept (last ∷ []) in
    let trees : clause_trees names (kept_clauses longer.clauses) ≡ clause_trees names (kept_clauses last.clauses) ++ clause_trees names (kept_clauses run.clauses) =
    ap (clause_trees names) clauses ∙ map-append (clause_tree names) (kept_clauses last.clauses) (kept_clauses run.clauses) in
    let whole : Predicate = record {
      module_ = name_at names last.module;
      name = name_at names last.name;
      arity = last.arity;
      clauses = clause_trees names (kept_clauses last.clauses) ++ clause_trees names (kept_clauses run.clauses);
    } in
    let seen : see_defined names longer ≡ whole = λ i. record { module_ = name_at names (modules i); name = name_at names (named i); arity = arities i; clauses = trees i } in
    let after : front ++ whole ∷ [] ≡ map (see_defined names) new =
    sym (ap (map (see_defined names)) is ∙ map-append (see_defined names) kept (longer ∷ []) ∙ ap (λ p. front ++ p ∷ []) seen) in
    subst (AreDefined (ds ++ see_run names run)) after
    (run_joined ds (see_defined names run) front (see_defined names last) (subst (AreDefined ds) before are) own)

pub none_defined : AreDefined [] []
unfolding IsStrictlySortedBy
none_defined = record {
  in_order = tt;
  each = λ p has. absurd (let below : has.0 < 0 = has.1 in let none : ⊥ = omega arith in none);
  all = λ owner name arity has. absurd (let below : has.stands.0 < 0 = has.stands.1 in let none : ⊥ = omega arith in none);
}

-- the definitions leave one answer
pub one_grouping : (ds : List Defines) (ps qs : List Predicate) → AreDefined ds ps → AreDefined ds qs → ps ≡ qs
one_grouping ds ps qs are others =
    one_sorted_list ps qs are.in_order others.in_order (members ds ps qs are others) (members ds qs ps others are)
  where
    members : (ds : List Defines) (ps qs : List Predicate) → AreDefined ds ps → AreDefined ds qs → (p : Predicate) → Contains ps p → Contains qs p
    members ds ps qs are others p has =
        let is = are.each p has in
        subst (λ cs. Contains qs (record { module_ = p.module_; name = p.name; arity = p.arity; clauses = cs })) (sym is.1) (others.all p.module_ p.name p.arity is.0)
