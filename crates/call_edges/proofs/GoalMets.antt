-- What is met in the goals of a plain form, and in the terms that they are written as.
use Rattle.std.proofs.Common.{◌≡◌, ◌⊎◌, ◌↔◌, inl, inr, ℕ, zero, suc, ◌+◌, ◌≤◌, ◌==◌, true, false, ◌&&◌, List, [], ◌∷◌, ◌++◌, Option, Some, None, All, Contains, length, codes, refl, sym, ap, ◌∙◌, subst, arith, append-nil}
use Rattle.std.specs.List.{flat_map}
use Rattle.std.specs.Option.{option_to_list, option_map}
use Rattle.std.specs.Str.{bytes_eq}
use Rattle.std.proofs.Math.Bool.{and-false}
use Rattle.std.proofs.lemmas.List.Elements.{All-head, All-rest}
use Rattle.list_laws.proofs.OneOrder.{nothing_in, first_or_rest, in_first}
use Rattle.prolog_terms.specs.declared.term.Span.{Span}
use Rattle.prolog_terms.specs.Tree.{Tree, Trees, variable, listed, tailed, paren, none, more, count}
use Rattle.prolog_terms.specs.Views.{binary, trees_in}
use Rattle.prolog_terms.specs.Weight.{weight, weights}
use Rattle.kept_clauses.specs.Plain.{is_free, silent, all_silent, PlainGoal, called, whole, PlainClause, variables, named_tree, goal_tree, goals_from, body_tree, written_as, written, span_at}
use Rattle.module_table.specs.declared.goal_arg.GoalArg.TheVariants.{Goal}
use Rattle.kept_clauses.proofs.Bodies.{if_false}
use Rattle.kept_clauses.proofs.FreeNames.{both_true, not_negation, not_colon}
use Rattle.module_table.proofs.PlainHeads.{no_control, count_variables, named_binary, no_rule, no_grammar}
use Rattle.call_edges.specs.declared.role.Role.{Role}
use Rattle.call_edges.specs.declared.role.Way.{Way}
use Rattle.call_edges.specs.declared.role.Way.TheVariants.{Calling}
use Rattle.call_edges.specs.Calls.{IsAmong, body_by, body_of}
use Rattle.call_edges.specs.Goals.{Met, call, place, goal_role, Rows, Taken, taken_by, way, is_control, is_negation, argument_role, IsMet, Adds, AddsMet}
use Rattle.call_edges.specs.KeptGoals.{IsMetInGoal, IsMetInForm}
use Rattle.kept_clauses.specs.Views.{IsSoundGoal}
use Rattle.call_edges.specs.Listed.{mets_in, mets_among}
use Rattle.call_edges.proofs.AddsLemmas.{adds_append, adds_as, adds_nothing, adds_then}
use Rattle.call_edges.proofs.AmongLemmas.{none_among, first_or_later, at_first, at_later, among_as, flat_has}
use Rattle.call_edges.proofs.ListedMets.{mets_are}
use Rattle.call_edges.proofs.PartLemmas.{length_count}
use Rattle.call_edges.proofs.WalkLemmas.{variable_walked}

-- a compound with a free name is a call
pub free_calls : (name : List ℕ) (n : ℕ) → is_free name ≡ true → way (Goal 0) name n ≡ Calling
free_calls name n free =
    if_false (true && is_control name n) _ _
    ((λ i. n == 2 && no_control name free i) ∙ and-false (n == 2))
    ∙ if_false (true && is_negation name n) _ _ ((λ i. n == 1 && (not_negation name free).1 i) ∙ and-false (n == 1))
    ∙ if_false (n == 2 && bytes_eq name (codes ":")) _ _ ((λ i. n == 2 && (not_colon name free).1 i) ∙ and-false (n == 2))

pub silent_variables : (n : ℕ) → all_silent (variables n) ≡ true
silent_variables zero = refl
silent_variables (suc n) = silent_variables n

module _ (T : Rows) where
  -- a silent term is met as nothing, whatever its role
  pub silent_none : (owner : List ℕ) (role : Role) (tree : Tree) → silent tree ≡ true → mets_in T owner role tree ≡ []
  silent_none owner role (variable span) is = refl
  silent_none owner role (listed items span) is = refl
  silent_none owner role (tailed items tail span) is = refl
  silent_none owner role (paren inner span) is = silent_none owner role inner is
  silent_none owner role tree is = let none : false ≡ true = is in absurd (cc)

  pub all_silent_none : (apart : Taken) (i : ℕ) (args : Trees) → all_silent args ≡ true → mets_among T apart i args ≡ []
  all_silent_none apart i none is = refl
  all_silent_none apart i (more tree trees) is =
      let both = both_true (silent tree) (all_silent trees) is in
      (λ k. silent_none apart.module_ (argument_role apart i) tree both.0 k ++ all_silent_none apart (i + 1) trees both.1 k)

  module _ (owner : List ℕ) where
    -- what is met at a compound, by what it is to the body, and in its arguments
    abbrev pub met_by : Way → List ℕ → Trees → Span → List Met
    met_by w name args span =
        let apart = taken_by T w span.from owner goal_role name (trees_in args) in option_to_list apart.met ++ mets_among T apart 0 args

    -- just the call, if its name is free and its arguments are silent
    pub call_mets : (name : List ℕ) (args : Trees) (span : Span) → is_free name ≡ true → all_silent args ≡ true
        → met_by (way (Goal 0) name (length (trees_in args))) name args span ≡ call span.from owner name (count args) 0 false ∷ []
    call_mets name args span free quiet =
        let arity = length (trees_in args) + 0 in
        let many : arity ≡ count args = omega (arith, length_count args) in
        ap (λ w. met_by w name args span) (free_calls name (length (trees_in args)) free)
        ∙ (λ k. call span.from owner name (many k) 0 false ∷ all_silent_none (taken_by T Calling span.from owner goal_role name (trees_in args)) 0 args quiet k)

    -- what is met in goals, in the order of the text

    abbrev pub goal_mets : PlainGoal → List Met
    goal_mets (called one) = call one.at owner one.name one.arity 0 false ∷ []
    goal_mets (whole tree) = mets_in T owner goal_role tree

    abbrev pub goals_mets : List PlainGoal → List Met
    goals_mets goals = flat_map goal_mets goals

    abbrev pub body_mets : Option (List PlainGoal) → List Met
    body_mets (Some goals) = goals_mets goals
    body_mets None = []

    goal_has : (goal : PlainGoal) (m : Met) → Contains (goal_mets goal) m ↔ IsMetInGoal T owner goal m
    goal_has (called one) m =
        let met = call one.at owner one.name one.arity 0 false in (
          λ has. elim (first_or_rest met m [] has) [ inl is ↦ is | inr rest ↦ absurd (nothing_in m rest) ],
          λ is. subst (λ x. Contains (met ∷ []) x) is (in_first met []),
        )
    goal_has (whole tree) m = mets_are T owner goal_role tree m

    pub goals_have : (goals : List PlainGoal) (m : Met) → Contains (goals_mets goals) m ↔ IsAmong (IsMetInGoal T owner) goals m
    goals_have goals m =
        let flat = flat_has goal_mets goals m in
        let P : PlainGoal → Met → Type 0 = λ goal. Contains (goal_mets goal) in (
          λ has. among_as P (IsMetInGoal T owner) goals m (λ goal. (goal_has goal m).0) (flat.0 has),
          λ among. flat.1 (among_as (IsMetInGoal T owner) P goals m (λ goal. (goal_has goal m).1) among),
        )

    pub body_has : (body : Option (List PlainGoal)) (m : Met) → Contains (body_mets body) m ↔ IsMetInForm T owner body m
    body_has (Some goals) m = goals_have goals m
    body_has None m = (λ has. nothing_in m has, λ none. absurd none)

    -- the same as terms

    named_mets : (at : ℕ) (name : List ℕ) (arity : ℕ) → (arity ≡ 0) ⊎ (is_free name ≡ true)
        → mets_in T owner goal_role (named_tree (span_at at) name arity) ≡ call at owner name arity 0 false ∷ []
    named_mets at name zero sound = refl
    named_mets at name (suc n) sound =
        elim sound [
          | inl is ↦ absurd (omega (arith, is))
          | inr free ↦
              call_mets name (variables (suc n)) (span_at at) free (silent_variables (suc n)) ∙ ap (λ k. call at owner name k 0 false ∷ []) (count_variables (suc n))
        ]

    goal_tree_mets : (goal : PlainGoal) → IsSoundGoal goal → mets_in T owner goal_role (goal_tree goal) ≡ goal_mets goal
    goal_tree_mets (called one) sound = named_mets one.at one.name one.arity sound
    goal_tree_mets (whole tree) sound = refl

    from_mets : (goal : PlainGoal) (goals : List PlainGoal) → IsSoundGoal goal → All IsSoundGoal goals
        → mets_in T owner goal_role (goals_from goal goals) ≡ goals_mets (goal ∷ goals)
    from_mets goal [] first sound = goal_tree_mets goal first ∙ sym (append-nil (goal_mets goal))
    from_mets goal (next ∷ goals) first sound =
        let rest = goals_from next goals in
        let later = from_mets next goals (All-head IsSoundGoal next goals sound) (All-rest IsSoundGoal next goals (next ∷ goals) refl sound) in
        (λ k. goal_tree_mets goal first k ++ (append-nil (mets_in T owner goal_role rest) ∙ later) k)

    pub body_tree_mets : (goals : List PlainGoal) → All IsSoundGoal goals → mets_in T owner goal_role (body_tree goals) ≡ goals_mets goals
    body_tree_mets [] sound = refl
    body_tree_mets (goal ∷ goals) sound = from_mets goal goals (All-head IsSoundGoal goal goals sound) (All-rest IsSoundGoal goal goals (goal ∷ goals) refl sound)

    -- what is met in the terms is what is met in the goals

    pub goal_met : (goal : PlainGoal) (m : Met) → IsSoundGoal goal → IsMet T (place owner goal_role (goal_tree goal)) m ↔ IsMetInGoal T owner goal m
    goal_met goal m sound =
        let is = goal_tree_mets goal sound in
        let are = mets_are T owner goal_role (goal_tree goal) m in
        let has = goal_has goal m in (
          λ met. has.0 (subst (λ mets. Contains mets m) is (are.1 met)),
          λ met. are.0 (subst (λ mets. Contains mets m) (sym is) (has.1 met)),
        )

    pub body_met : (goals : List PlainGoal) → All IsSoundGoal goals → (m : Met)
        → IsMet T (place owner goal_role (body_tree goals)) m ↔ IsAmong (IsMetInGoal T owner) goals m
    body_met goals sound m =
        let is = body_tree_mets goals sound in
        let are = mets_are T owner goal_role (body_tree goals) m in
        let have = goals_have goals m in (
          λ met. have.0 (subst (λ mets. Contains mets m) is (are.1 met)),
          λ among. are.0 (subst (λ mets. Contains mets m) (sym is) (have.1 among)),
        )

    -- goal by goal

    -- a body without goals
    pub none_added : (old : List Met) → AddsMet T (place owner goal_role (body_tree [])) old old
    none_added old = variable_walked T owner goal_role (variable (span_at 0)) old old (span_at 0) refl refl

    pub no_goals_added : (old : List Met) → Adds (IsAmong (IsMetInGoal T owner) []) old old
    no_goals_added old = adds_nothing (IsAmong (IsMetInGoal T owner) []) old (none_among (IsMetInGoal T owner))

    -- a call
    pub call_added : (at : ℕ) (name : List ℕ) (arity : ℕ) (old : List Met)
        → Adds (IsMetInGoal T owner (called (record { at = at; name = name; arity = arity }))) old (old ++ call at owner name arity 0 false ∷ [])
    call_added at name arity old =
        let goal = called (record { at = at; name = name; arity = arity }) in
        adds_as (Contains (goal_mets goal)) (IsMetInGoal T owner goal) old (old ++ goal_mets goal) (λ m. (goal_has goal m).0) (λ m. (goal_has goal m).1)
        (adds_append old (goal_mets goal))

    -- the first goal, and those after it
    pub goals_added : (goal : PlainGoal) (rest : List PlainGoal) (old mid new : List Met) → Adds (IsMetInGoal T owner goal) old mid
        → Adds (IsAmong (IsMetInGoal T owner) rest) mid new → Adds (IsAmong (IsMetInGoal T owner) (goal ∷ rest)) old new
    goals_added goal rest old mid new first later =
        let P : PlainGoal → Met → Type 0 = IsMetInGoal T owner in
        adds_as (λ m. P goal m ⊎ IsAmong P rest m) (IsAmong P (goal ∷ rest)) old new
        (λ m either. elim either [ inl here ↦ at_first P goal rest m here | inr among ↦ at_later P goal rest m among ]) (first_or_later P goal rest)
        (adds_then (P goal) (IsAmong P rest) old mid new first later)

    -- a goal, and all goals, as terms

    pub goal_added : (goal : PlainGoal) (old new : List Met) → IsSoundGoal goal → Adds (IsMetInGoal T owner goal) old new
        → AddsMet T (place owner goal_role (goal_tree goal)) old new
    goal_added goal old new sound adds =
        adds_as (IsMetInGoal T owner goal) (IsMet T (place owner goal_role (goal_tree goal))) old new (λ m. (goal_met goal m sound).1)
        (λ m. (goal_met goal m sound).0) adds

    pub body_added : (goals : List PlainGoal) (old new : List Met) → All IsSoundGoal goals → Adds (IsAmong (IsMetInGoal T owner) goals) old new
        → AddsMet T (place owner goal_role (body_tree goals)) old new
    body_added goals old new sound adds =
        adds_as (IsAmong (IsMetInGoal T owner) goals) (IsMet T (place owner goal_role (body_tree goals))) old new (λ m. (body_met goals sound m).1)
        (λ m. (body_met goals sound m).0) adds

-- clauses: the body of a plain form that is written as one

pub written_body : (owner : List ℕ) (clause : PlainClause) → is_free clause.name ≡ true
    → body_of owner (written clause) ≡ option_map (λ goals. place owner goal_role (body_tree goals)) clause.body
written_body owner clause free = by_body clause.body
  where
    by_body : (body : Option (List PlainGoal)) → body_of owner (written_as clause body) ≡ option_map (λ goals. place owner goal_role (body_tree goals)) body
    by_body (Some goals) = refl
    by_body None =
        let head = named_tree clause.span clause.name clause.arity in
        let plain = named_binary clause.span clause.name clause.arity free in
        (λ i. body_by owner (no_rule (binary head) plain i) (no_grammar (binary head) plain i))

-- weights

variables_weight : (n : ℕ) → weights (variables n) ≡ n
variables_weight zero = refl
variables_weight (suc n) = omega (arith, variables_weight n)

pub named_weight : (span : Span) (name : List ℕ) (arity : ℕ) → weight (named_tree span name arity) ≡ arity
named_weight span name zero = refl
named_weight span name (suc n) = variables_weight (suc n)

-- a call has no more arguments than it weighs
pub call_weight : (at : ℕ) (name : List ℕ) (arity : ℕ) → arity ≤ weight (goal_tree (called (record { at = at; name = name; arity = arity })))
call_weight at name arity = omega (arith, named_weight (span_at at) name arity)

pub first_weight : (goal : PlainGoal) (goals : List PlainGoal) → weight (goal_tree goal) ≤ weight (body_tree (goal ∷ goals))
first_weight goal [] = omega arith
first_weight goal (next ∷ goals) = omega arith

pub rest_weight : (goal : PlainGoal) (goals : List PlainGoal) → weight (body_tree goals) ≤ weight (body_tree (goal ∷ goals))
rest_weight goal [] = omega arith
rest_weight goal (next ∷ goals) = omega arith

pub goal_weight : (goals : List PlainGoal) (goal : PlainGoal) → Contains goals goal → weight (goal_tree goal) ≤ weight (body_tree goals)
goal_weight [] goal has = absurd (nothing_in goal has)
goal_weight (first ∷ goals) goal has =
    elim (first_or_rest first goal goals has) [
      | inl is ↦ subst (λ (g : PlainGoal). weight (goal_tree g) ≤ weight (body_tree (first ∷ goals))) is (first_weight first goals)
      | inr later ↦ omega (arith, goal_weight goals goal later, rest_weight first goals)
    ]
