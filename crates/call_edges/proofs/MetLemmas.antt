-- What is met within a place: at the place itself, or within one of its parts.
use Rattle.std.proofs.Common.{◌≡◌, ◌⊎◌, inl, inr, ℕ, ◌+◌, ◌<◌, ◌≤◌, Bool, List, [], ◌∷◌, ◌++◌, Some, None, length, slice_get, ap, sym, ◌∙◌, subst, refl, arith}
use Rattle.std.specs.Option.{option_to_list}
use Rattle.std.proofs.lemmas.Bool.{cases_eq}
use Rattle.std.proofs.lemmas.Option.{none-some, same_Some, slice_get_within}
use Rattle.prolog_terms.specs.declared.term.Span.{Span}
use Rattle.prolog_terms.specs.declared.term.Form.{Form}
use Rattle.prolog_terms.specs.Tree.{Tree, Trees, variable, constant, atom, compound, listed, tailed, curly, paren}
use Rattle.prolog_terms.specs.Views.{trees_in, only_of, pair_of}
use Rattle.module_table.specs.declared.goal_arg.GoalArg.{GoalArg}
use Rattle.module_table.specs.declared.goal_arg.GoalArg.TheVariants.{Plain}
use Rattle.call_edges.specs.declared.role.Role.{Role}
use Rattle.call_edges.specs.Goals.{Met, Place, place, Rows, no_goals, Taken, taken, met_at, role_at, argument_role, IsArgument, IsPart, Leads, IsMet, Adds, AddsMet}
use Rattle.call_edges.specs.Arguments.{IsMetInArgument, AddsArguments}
use Rattle.call_edges.proofs.AddsLemmas.{adds_as, adds_nothing, adds_option, adds_then}
use Rattle.module_table.proofs.Shapes.{only_seen, pair_seen}

place_same : (q : Place) (owner : List ℕ) (role : Role) (tree : Tree) → q.module_ ≡ owner → q.role ≡ role → q.tree ≡ tree → q ≡ place owner role tree
place_same q owner role tree in_module stands is = λ i. place (in_module i) (stands i) (is i)

-- where an argument of a compound stands
abbrev pub argument_at : Taken → ℕ → Tree → Place
argument_at apart k tree = place apart.module_ (argument_role apart k) tree

abbrev pub compound_at : List ℕ → Role → List ℕ → Trees → Form → Span → Place
compound_at owner role name args form span = place owner role (compound name args form span)

module _ (T : Rows) where
  -- it is met within a part of the place
  pub record IsWithinPart (p : Place) (m : Met) : Type 0 where
    pub part : Place
    pub is : IsPart T p.module_ p.role p.tree part
    pub met : IsMet T part m

  pub parted : (p : Place) (m : Met) → IsMet T p m → (met_at T p.module_ p.role p.tree ≡ Some m) ⊎ IsWithinPart p m
  parted p m is = by_path is.stands.path is.stands.leads
    where
      by_path : (path : List Place) → Leads T p path is.at → (met_at T p.module_ p.role p.tree ≡ Some m) ⊎ IsWithinPart p m
      by_path [] same = inl (subst (λ (q : Place). met_at T q.module_ q.role q.tree ≡ Some m) (sym same) is.met)
      by_path (n ∷ path) leads = inr (record { part = n; is = leads.0; met = record { at = is.at; stands = record { path = path; leads = leads.1 }; met = is.met } })

  pub met_here : (p : Place) (m : Met) → met_at T p.module_ p.role p.tree ≡ Some m → IsMet T p m
  met_here p m is = record { at = p; stands = record { path = []; leads = refl }; met = is }

  pub met_within : (p : Place) (m : Met) → IsWithinPart p m → IsMet T p m
  met_within p m within = record {
    at = within.met.at;
    stands = record { path = within.part ∷ within.met.stands.path; leads = (within.is, within.met.stands.leads) };
    met = within.met.met;
  }

  -- nothing is met within a term that is no goal

  module _ (negated : Bool) where
    abbrev plain_role : Role
    plain_role = record { arg = Plain; negated = negated }

    plain_met : (owner : List ℕ) (tree : Tree) (m : Met) → met_at T owner plain_role tree ≡ Some m → ⊥
    plain_met owner (variable span) m is = none-some m is
    plain_met owner (constant kind minus value span) m is = none-some m is
    plain_met owner (atom name span) m is = none-some m is
    plain_met owner (compound name args form span) m is = none-some m is
    plain_met owner (listed items span) m is = none-some m is
    plain_met owner (tailed items tail span) m is = none-some m is
    plain_met owner (curly inner span) m is = none-some m is
    plain_met owner (paren inner span) m is = none-some m is

    plain_part : (owner : List ℕ) (tree : Tree) (q : Place) → IsPart T owner plain_role tree q → q.role.arg ≡ Plain
    plain_part owner (variable span) q is = absurd is
    plain_part owner (constant kind minus value span) q is = absurd is
    plain_part owner (atom name span) q is = absurd is
    plain_part owner (compound name args form span) q is = ap (λ (r : Role). r.arg) is.stands
    plain_part owner (listed items span) q is = absurd is
    plain_part owner (tailed items tail span) q is = absurd is
    plain_part owner (curly inner span) q is = ap (λ (p : Place). p.role.arg) is
    plain_part owner (paren inner span) q is = ap (λ (p : Place). p.role.arg) is

  pub plain_silent : (p : Place) (m : Met) → p.role.arg ≡ Plain → IsMet T p m → ⊥
  plain_silent p m plain is = by_path is.stands.path p plain is.stands.leads
    where
      by_path : (path : List Place) (q : Place) → q.role.arg ≡ Plain → Leads T q path is.at → ⊥
      by_path [] q here same =
          plain_met q.role.negated q.module_ q.tree m
          (subst (λ (arg : GoalArg). met_at T q.module_ (record { arg = arg; negated = q.role.negated }) q.tree ≡ Some m) here
          (subst (λ (x : Place). met_at T x.module_ x.role x.tree ≡ Some m) (sym same) is.met))
      by_path (n ∷ path) q here leads =
          by_path path n
          (plain_part q.role.negated q.module_ q.tree n
          (subst (λ (arg : GoalArg). IsPart T q.module_ (record { arg = arg; negated = q.role.negated }) q.tree n) here leads.0))
          leads.1

  -- a place without parts
  pub adds_own : (p : Place) (old new : List Met) → ((q : Place) → IsPart T p.module_ p.role p.tree q → ⊥)
      → new ≡ old ++ option_to_list (met_at T p.module_ p.role p.tree) → AddsMet T p old new
  adds_own p old new partless is =
      adds_option (IsMet T p) (met_at T p.module_ p.role p.tree) old new
      (λ m met. elim (parted p m met) [ inl here ↦ here | inr within ↦ absurd (partless within.part within.is) ])
      (met_here p) is

  -- a place with one part, where nothing is met itself
  pub adds_part : (p q : Place) (old new : List Met) → met_at T p.module_ p.role p.tree ≡ None
      → ((x : Place) → IsPart T p.module_ p.role p.tree x → x ≡ q) → IsPart T p.module_ p.role p.tree q → AddsMet T q old new → AddsMet T p old new
  adds_part p q old new none only has adds =
      adds_as (IsMet T q) (IsMet T p) old new
      (λ m met. met_within p m (record { part = q; is = has; met = met }))
      (λ m met.
      elim (parted p m met) [
        | inl here ↦ absurd (none-some m (sym none ∙ here))
        | inr within ↦ subst (λ (x : Place). IsMet T x m) (only within.part within.is) within.met
      ])
      adds

  -- what is met in the arguments of a compound below a place

  pub record IsMetBelow (apart : Taken) (args : List Tree) (k : ℕ) (m : Met) : Type 0 where
    pub part : Place
    pub is : IsArgument apart args part
    pub below : is.i < k
    pub met : IsMet T part m

  abbrev pub AddsBelow : Taken → List Tree → ℕ → List Met → List Met → Type 0
  AddsBelow apart args k old new = Adds (IsMetBelow apart args k) old new

  pub below_none : (apart : Taken) (args : List Tree) (mets : List Met) → AddsBelow apart args 0 mets mets
  below_none apart args mets = adds_nothing (IsMetBelow apart args 0) mets (λ m it. omega (arith, it.below))

  pub below_more : (apart : Taken) (args : List Tree) (k : ℕ) (tree : Tree) (old mid new : List Met) → slice_get args k ≡ Some tree
      → AddsBelow apart args k old mid → AddsMet T (argument_at apart k tree) mid new → AddsBelow apart args (k + 1) old new
  below_more apart args k tree old mid new at before adds =
      adds_as (λ m. IsMetBelow apart args k m ⊎ IsMet T (argument_at apart k tree) m) (IsMetBelow apart args (k + 1)) old new to from
      (adds_then (IsMetBelow apart args k) (IsMet T (argument_at apart k tree)) old mid new before adds)
    where
      to : (m : Met) → IsMetBelow apart args k m ⊎ IsMet T (argument_at apart k tree) m → IsMetBelow apart args (k + 1) m
      to m either =
          elim either [
            | inl it ↦ record { part = it.part; is = it.is; below = omega (arith, it.below); met = it.met }
            | inr met ↦
                record {
                  part = argument_at apart k tree;
                  is = record { i = k; argument = at; in_module = refl; stands = refl };
                  below = omega arith;
                  met = met;
                }
          ]

      same : (part : Place) (is : IsArgument apart args part) → is.i ≡ k → part ≡ argument_at apart k tree
      same part is equal =
          place_same part apart.module_ (argument_role apart k) tree is.in_module (is.stands ∙ ap (argument_role apart) equal)
          (same_Some part.tree tree (sym is.argument ∙ (ap (slice_get args) equal ∙ at)))

      from : (m : Met) → IsMetBelow apart args (k + 1) m → IsMetBelow apart args k m ⊎ IsMet T (argument_at apart k tree) m
      from m it =
          elim (cases_eq it.is.i k) [
            | inl equal ↦ inr (subst (λ (x : Place). IsMet T x m) (same it.part it.is equal) it.met)
            | inr other ↦ inl (record { part = it.part; is = it.is; below = omega (arith, it.below, other); met = it.met })
          ]

  pub below_all : (apart : Taken) (args : List Tree) (k : ℕ) (old new : List Met) → length args ≤ k → AddsBelow apart args k old new → AddsArguments T apart args old new
  below_all apart args k old new all adds =
      adds_as (IsMetBelow apart args k) (IsMetInArgument T apart args) old new (λ m it. record { part = it.part; is = it.is; met = it.met })
      (λ m it.
      record { part = it.part; is = it.is; below = omega (arith, slice_get_within args it.is.i it.part.tree it.is.argument, all); met = it.met })
      adds

  -- where none of the arguments is a goal nothing is met in them
  pub silent_arguments : (apart : Taken) (args : List Tree) (mets : List Met) → apart.standing ≡ no_goals → AddsArguments T apart args mets mets
  silent_arguments apart args mets none =
      adds_nothing (IsMetInArgument T apart args) mets
      (λ m it. plain_silent it.part m (ap (λ (r : Role). r.arg) it.is.stands ∙ ap (λ standing. role_at standing it.is.i) none) it.met)

  -- one argument, or two

  pub only_argument : (apart : Taken) (args : Trees) (tree : Tree) (old new : List Met) → only_of args ≡ Some tree
      → AddsMet T (argument_at apart 0 tree) old new → AddsArguments T apart (trees_in args) old new
  only_argument apart args tree old new one adds =
      let are : trees_in args ≡ tree ∷ [] = ap trees_in (only_seen args tree one) in
      below_all apart (trees_in args) 1 old new (omega (arith, ap length are))
      (below_more apart (trees_in args) 0 tree old old new (ap (λ ts. slice_get ts 0) are) (below_none apart (trees_in args) old) adds)

  pub two_arguments : (apart : Taken) (args : Trees) (left right : Tree) (old mid new : List Met) → pair_of args ≡ Some (left, right)
      → AddsMet T (argument_at apart 0 left) old mid → AddsMet T (argument_at apart 1 right) mid new → AddsArguments T apart (trees_in args) old new
  two_arguments apart args left right old mid new two first second =
      let are : trees_in args ≡ left ∷ right ∷ [] = ap trees_in (pair_seen args left right two) in
      below_all apart (trees_in args) 2 old new (omega (arith, ap length are))
      (below_more apart (trees_in args) 1 right old mid new (ap (λ ts. slice_get ts 1) are)
      (below_more apart (trees_in args) 0 left old old mid (ap (λ ts. slice_get ts 0) are) (below_none apart (trees_in args) old) first) second)

  -- a compound: what is met at it itself, and in its arguments

  module _ (owner : List ℕ) (role : Role) (name : List ℕ) (args : Trees) (form : Form) (span : Span) where
    abbrev apart : Taken
    apart = taken T span.from owner role name (trees_in args)

    abbrev IsMetThere : Met → Type 0
    IsMetThere m = (apart.met ≡ Some m) ⊎ IsMetInArgument T apart (trees_in args) m

    abbrev whole : Place
    whole = compound_at owner role name args form span

    to_whole : (m : Met) → IsMetThere m → IsMet T whole m
    to_whole m either =
        elim either [ inl own ↦ met_here whole m own | inr it ↦ met_within whole m (record { part = it.part; is = it.is; met = it.met }) ]

    of_whole : (m : Met) → IsMet T whole m → IsMetThere m
    of_whole m met = elim (parted whole m met) [ inl own ↦ inl own | inr it ↦ inr (record { part = it.part; is = it.is; met = it.met }) ]

    pub compound_adds : (old mid new : List Met) → mid ≡ old ++ option_to_list apart.met → AddsArguments T apart (trees_in args) mid new → AddsMet T whole old new
    compound_adds old mid new is adds =
        adds_as IsMetThere (IsMet T whole) old new to_whole of_whole
        (adds_then (λ m. apart.met ≡ Some m) (IsMetInArgument T apart (trees_in args)) old mid new
        (adds_option (λ m. apart.met ≡ Some m) apart.met old mid (λ m own. own) (λ m own. own) is) adds)
