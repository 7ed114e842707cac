-- A term with a free name is a plain call, where none of its arguments is declared to be a goal.
use Rattle.std.proofs.Common.{◌≡◌, ◌≢◌, ℕ, ◌+◌, ◌≤◌, List, [], ◌∷◌, ◌++◌, Some, length, ap, sym, ◌∙◌, subst, refl, arith}
use Rattle.std.specs.Option.{option_to_list}
use Rattle.prolog_terms.specs.declared.term.Span.{Span}
use Rattle.prolog_terms.specs.declared.term.Form.{Form}
use Rattle.prolog_terms.specs.Tree.{Tree, Trees, atom, compound, paren, none, count}
use Rattle.prolog_terms.specs.Views.{Parted, name_and_args, start_of, trees_in}
use Rattle.prolog_terms.specs.Weight.{weight}
use Rattle.prolog_terms.proofs.ViewLemmas.{count_weight, some_once, some_none}
use Rattle.module_table.specs.declared.goal_arg.GoalArg.TheVariants.{Plain}
use Rattle.module_table.specs.Metas.{added}
use Rattle.import_rules.specs.Program.{Seen, meta_meant}
use Rattle.call_edges.specs.declared.role.Role.{Role}
use Rattle.call_edges.specs.Goals.{Met, call, place, no_goals, Rows, Taken, taken, by_table, row, AddsMet}
use Rattle.call_edges.specs.PlainCalls.{IsPlain}
use Rattle.call_edges.specs.ProgramRows.{rows_of, standing_by}
use Rattle.call_edges.proofs.FreeNames.{IsFree, row_none, way_calls, atom_calls}
use Rattle.call_edges.proofs.MetLemmas.{silent_arguments}
use Rattle.call_edges.proofs.PartLemmas.{length_count}
use Rattle.call_edges.proofs.TakenLemmas.{called_at, calling_is}
use Rattle.call_edges.proofs.WalkLemmas.{atom_walked, paren_walked, compound_walked}

-- its arguments are no goals
pub no_goals_of : (seen : Seen) (owner name : List ℕ) (arity : ℕ) → IsFree name → meta_meant seen owner name arity ≡ [] → rows_of seen owner name arity ≡ no_goals
no_goals_of seen owner name arity free undeclared = ap (standing_by (row name arity)) undeclared ∙ ap by_table (row_none name free arity)

module _ (T : Rows) (owner : List ℕ) (role : Role) (goal : role.arg ≢ Plain) (old : List Met) where
  abbrev met : Tree → List ℕ → ℕ → Met
  met tree name arity = call (start_of tree) owner name arity (added role.arg) role.negated

  abbrev IsCalled : Tree → ℕ → Parted → Type 0
  IsCalled tree arity p =
      IsFree p.name → arity ≡ count p.args + added role.arg → T owner p.name arity ≡ no_goals
      → AddsMet T (place owner role tree) old (old ++ met tree p.name arity ∷ [])

  compound_plain : (name : List ℕ) (args : Trees) (form : Form) (span : Span) (arity : ℕ) → IsCalled (compound name args form span) arity (record { name = name; args = args })
  compound_plain name args form span arity free count_is none_of =
      let parts = trees_in args in
      let apart : Taken = called_at span.from owner role name arity (added role.arg) no_goals in
      let new = old ++ met (compound name args form span) name arity ∷ [] in
      let many : arity ≡ length parts + added role.arg = count_is ∙ ap (λ n. n + added role.arg) (sym (length_count args)) in
      let is : apart ≡ taken T span.from owner role name parts =
      calling_is T span.from owner role name parts arity (added role.arg) no_goals (way_calls name free role.arg (length parts) goal) many refl (sym none_of) in
      compound_walked T owner role (compound name args form span) old new name args form span apart new refl is refl (silent_arguments T apart parts new refl)

  atom_plain : (name : List ℕ) (span : Span) (arity : ℕ) → IsCalled (atom name span) arity (record { name = name; args = none })
  atom_plain name span arity free count_is none_of =
      let none_more : count none + added role.arg ≡ added role.arg = omega arith in
      atom_walked T owner role (atom name span) old (old ++ met (atom name span) name arity ∷ []) name span refl
      (ap (λ o. old ++ option_to_list o)
      (ap (λ n. Some (met (atom name span) name n)) (count_is ∙ none_more) ∙ sym (atom_calls name free span.from owner role goal)))

  pub plain_met : (tree : Tree) (arity : ℕ) (p : Parted) → name_and_args tree ≡ Some p → IsCalled tree arity p
  plain_met (atom name span) arity p is = subst (IsCalled (atom name span) arity) (some_once is) (atom_plain name span arity)
  plain_met (compound name args form span) arity p is =
      subst (IsCalled (compound name args form span) arity) (some_once is) (compound_plain name args form span arity)
  plain_met (paren inner span) arity p is = λ free count_is none_of.
      paren_walked T owner role (paren inner span) old (old ++ met inner p.name arity ∷ []) inner span refl
      (plain_met inner arity p is free count_is none_of)
  plain_met tree arity p is = absurd (some_none p (sym is))

pub plain_called : (role : Role) (tree : Tree) (arity : ℕ) (p : Parted) → name_and_args tree ≡ Some p → role.arg ≢ Plain → IsFree p.name
    → arity ≡ count p.args + added role.arg → IsPlain role tree p.name arity
plain_called role tree arity p is goal free many seen owner undeclared old =
    plain_met (rows_of seen) owner role goal old tree arity p is free many (no_goals_of seen owner p.name arity free undeclared)

-- a term has no more arguments than it weighs
pub args_weight : (tree : Tree) (p : Parted) → name_and_args tree ≡ Some p → count p.args ≤ weight tree
args_weight (atom name span) p is =
    let same : record { name = name; args = none } ≡ p = some_once is in omega (arith, ap (λ (q : Parted). count q.args) same)
args_weight (compound name args form span) p is =
    let same : record { name = name; args = args } ≡ p = some_once is in omega (arith, count_weight args, ap (λ (q : Parted). count q.args) same)
args_weight (paren inner span) p is = omega (arith, args_weight inner p is)
args_weight tree p is = absurd (some_none p (sym is))
