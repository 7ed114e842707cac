-- A goal stands where a term of the text does.
use Rattle.std.proofs.Common.{◌≡◌, inl, inr, ℕ, zero, suc, ◌+◌, Bool, true, false, List, [], ◌∷◌, Option, Some, None, All, length, slice_get, if◌then◌else◌, codes, ap, sym, subst, refl}
use Rattle.std.specs.Str.{bytes_eq}
use Rattle.std.proofs.lemmas.List.Elements.{All-contains}
use Rattle.std.proofs.lemmas.Option.{none-some, same_Some}
use Rattle.prolog_tokens.specs.Places.{IsOffset}
use Rattle.prolog_terms.specs.declared.term.ConstKind.{ConstKind}
use Rattle.prolog_terms.specs.Tree.{Tree, Trees, variable, constant, atom, compound, listed, tailed as with_tail, curly, paren, more as with_more, none}
use Rattle.prolog_terms.specs.Views.{inside, start_of, trees_in, atom_name, sides_of, sides_at}
use Rattle.prolog_terms.proofs.ViewLemmas.{pair_if}
use Rattle.clause_text.specs.Offsets.{HasOffsets, HaveOffsets}
use Rattle.clause_text.proofs.TermOffsets.{inside_stands, start_stands}
use Rattle.module_table.specs.Defined.{Predicate}
use Rattle.module_table.specs.Facts.{Facts}
use Rattle.module_table.specs.Placed.{ArePlacedIn}
use Rattle.module_table.specs.declared.goal_arg.GoalArg.{GoalArg}
use Rattle.module_table.specs.declared.goal_arg.GoalArg.TheVariants.{Plain, Goal, Caret, Grammar}
use Rattle.call_edges.specs.declared.role.Role.{Role}
use Rattle.call_edges.specs.declared.role.Way.{Way}
use Rattle.call_edges.specs.declared.role.Way.TheVariants.{Silent, Behind, Control, Negation, Qualified, Calling}
use Rattle.module_table.specs.Metas.{added}
use Rattle.call_edges.specs.Goals.{Met, call, fault, Place, place, goal_role, grammar_role, Rows, way, is_variable, goal_named, taken_by, calls_atom, atom_met, constant_met, is_text, met_at, IsPart, Leads, IsMet}
use Rattle.call_edges.specs.Calls.{body_by, IsMetInClause}
use Rattle.call_edges.specs.GoalFaults.{IsMetInFile}

abbrev no_met : Option Met
no_met = None

-- where the goal starts of a call that is met, or stands that isn't callable
abbrev pub offset_of : Met → ℕ
offset_of (call at owner name arity more negated) = at
offset_of (fault at) = at

module _ (text : List ℕ) where
  -- what is met stands in the text
  abbrev pub MetStands : Met → Type 0
  MetStands m = IsOffset text (offset_of m)

  one_stands : (one m : Met) → MetStands one → Some one ≡ Some m → MetStands m
  one_stands one m stands is = subst MetStands (same_Some one m is) stands

  unless_stands : (silent : Bool) (one m : Met) → MetStands one → (if silent then no_met else Some one) ≡ Some m → MetStands m
  unless_stands true one m stands is = absurd (none-some m is)
  unless_stands false one m stands is = one_stands one m stands is

  constant_stands : (arg : GoalArg) (kind : ConstKind) (at : ℕ) (m : Met) → IsOffset text at → constant_met arg kind at ≡ Some m → MetStands m
  constant_stands Plain kind at m stands is = absurd (none-some m is)
  constant_stands (Goal e) kind at m stands is = one_stands (fault at) m stands is
  constant_stands Caret kind at m stands is = one_stands (fault at) m stands is
  constant_stands Grammar kind at m stands is = unless_stands (is_text kind) (fault at) m stands is

  called_stands : (called : Bool) (one m : Met) → MetStands one → (if called then Some one else no_met) ≡ Some m → MetStands m
  called_stands true one m stands is = one_stands one m stands is
  called_stands false one m stands is = absurd (none-some m is)

  atom_stands : (at : ℕ) (owner : List ℕ) (role : Role) (name : List ℕ) (m : Met) → IsOffset text at → atom_met at owner role name ≡ Some m → MetStands m
  atom_stands at owner role name m stands is =
      called_stands (calls_atom role.arg name) (call at owner name (added role.arg) (added role.arg) role.negated) m stands is

  named_stands : (owner : List ℕ) (role : Role) (tree : Tree) (found : Option (List ℕ)) (m : Met) → HasOffsets text tree
      → (goal_named owner role tree found).met ≡ Some m → MetStands m
  named_stands owner role tree (Some name) m stands is = absurd (none-some m is)
  named_stands owner role tree None m stands is = unless_stands (is_variable tree) (fault (start_of tree)) m (start_stands text tree stands) is

  taken_stands : (T : Rows) (w : Way) (at : ℕ) (owner : List ℕ) (role : Role) (name : List ℕ) (args : Trees) (m : Met) → IsOffset text at → HaveOffsets text args
      → (taken_by T w at owner role name (trees_in args)).met ≡ Some m → MetStands m
  taken_stands T Silent at owner role name args m here stand is = absurd (none-some m is)
  taken_stands T Behind at owner role name args m here stand is = absurd (none-some m is)
  taken_stands T Control at owner role name args m here stand is = absurd (none-some m is)
  taken_stands T Negation at owner role name args m here stand is = absurd (none-some m is)
  taken_stands T Qualified at owner role name none m here stand is = absurd (none-some m is)
  taken_stands T Qualified at owner role name (with_more tree trees) m here stand is = named_stands owner role tree (atom_name tree) m stand.0 is
  taken_stands T Calling at owner role name args m here stand is =
      one_stands (call at owner name (length (trees_in args) + added role.arg) (added role.arg) role.negated) m here is

  met_stands : (T : Rows) (owner : List ℕ) (role : Role) (tree : Tree) (m : Met) → HasOffsets text tree → met_at T owner role tree ≡ Some m → MetStands m
  met_stands T owner role (variable span) m stands is = absurd (none-some m is)
  met_stands T owner role (constant kind minus value span) m stands is = constant_stands role.arg kind span.from m stands is
  met_stands T owner role (atom name span) m stands is = atom_stands span.from owner role name m stands is
  met_stands T owner role (compound name args form span) m stands is =
      taken_stands T (way role.arg name (length (trees_in args))) span.from owner role name args m stands.0 stands.1 is
  met_stands T owner role (listed items span) m stands is = absurd (none-some m is)
  met_stands T owner role (with_tail items tail span) m stands is = absurd (none-some m is)
  met_stands T owner role (curly inner span) m stands is = absurd (none-some m is)
  met_stands T owner role (paren inner span) m stands is = absurd (none-some m is)

  argument_stands : (args : Trees) (i : ℕ) (tree : Tree) → HaveOffsets text args → slice_get (trees_in args) i ≡ Some tree → HasOffsets text tree
  argument_stands none i tree stand is = absurd (none-some tree is)
  argument_stands (with_more first args) zero tree stand is = subst (HasOffsets text) (same_Some first tree is) stand.0
  argument_stands (with_more first args) (suc i) tree stand is = argument_stands args i tree stand.1 is

  pub part_stands : (T : Rows) (owner : List ℕ) (role : Role) (tree : Tree) (q : Place) → HasOffsets text tree → IsPart T owner role tree q → HasOffsets text q.tree
  part_stands T owner role (variable span) q stands is = absurd is
  part_stands T owner role (constant kind minus value span) q stands is = absurd is
  part_stands T owner role (atom name span) q stands is = absurd is
  part_stands T owner role (compound name args form span) q stands is = argument_stands args is.i q.tree stands.1 is.argument
  part_stands T owner role (listed items span) q stands is = absurd is
  part_stands T owner role (with_tail items tail span) q stands is = absurd is
  part_stands T owner role (curly inner span) q stands is = subst (HasOffsets text) (ap (λ (p : Place). p.tree) (sym is)) stands.1
  part_stands T owner role (paren inner span) q stands is = subst (HasOffsets text) (ap (λ (p : Place). p.tree) (sym is)) stands.1

  pub goal_stands : (T : Rows) (p : Place) (m : Met) → HasOffsets text p.tree → IsMet T p m → MetStands m
  goal_stands T p m stands met = by_path met.stands.path p stands met.stands.leads
    where
      by_path : (path : List Place) (q : Place) → HasOffsets text q.tree → Leads T q path met.at → MetStands m
      by_path [] q here same =
          met_stands T q.module_ q.role q.tree m here (subst (λ (x : Place). met_at T x.module_ x.role x.tree ≡ Some m) (sym same) met.met)
      by_path (n ∷ path) q here leads = by_path path n (part_stands T q.module_ q.role q.tree n here leads.0) leads.1

  -- bodies of clauses

  right_if : (test : Bool) (left right l r : Tree) → HasOffsets text right → pair_if test left right ≡ Some (l, r) → HasOffsets text r
  right_if true left right l r stands is =
      let same : (left, right) ≡ (l, r) = same_Some (left, right) (l, r) is in
      subst (HasOffsets text) (ap (λ (pair : Tree × Tree). pair.1) same) stands
  right_if false left right l r stands is = absurd (none-some (l, r) is)

  right_at : (operator : List ℕ) (tree l r : Tree) → HasOffsets text tree → sides_at operator tree ≡ Some (l, r) → HasOffsets text r
  right_at operator (compound name (with_more left (with_more right none)) form span) l r stands is = right_if (bytes_eq name operator) left right l r stands.1.1.0 is
  right_at operator tree l r stands is = absurd (none-some (l, r) is)

  right_stands : (operator : List ℕ) (tree l r : Tree) → HasOffsets text tree → sides_of operator tree ≡ Some (l, r) → HasOffsets text r
  right_stands operator tree l r stands is = right_at operator (inside tree) l r (inside_stands text tree stands) is

  pub by_stands : (owner : List ℕ) (clause : Tree) (rule grammar : Option (Tree × Tree)) (body : Place) → HasOffsets text clause → sides_of (codes ":-") clause ≡ rule
      → sides_of (codes "-->") clause ≡ grammar → body_by owner rule grammar ≡ Some body → HasOffsets text body.tree
  by_stands owner clause (Some (left, right)) grammar body stands first second is =
      subst (HasOffsets text) (ap (λ (p : Place). p.tree) (same_Some (place owner goal_role right) body is)) (right_stands (codes ":-") clause left right stands first)
  by_stands owner clause None (Some (left, right)) body stands first second is =
      subst (HasOffsets text) (ap (λ (p : Place). p.tree) (same_Some (place owner grammar_role right) body is)) (right_stands (codes "-->") clause left right stands second)
  by_stands owner clause None None body stands first second is = absurd (none-some body is)

  clause_fault_stands : (T : Rows) (owner : List ℕ) (clause : Tree) (at : ℕ) → HasOffsets text clause → IsMetInClause T owner clause (fault at) → IsOffset text at
  clause_fault_stands T owner clause at stands met =
      goal_stands T met.body (fault at)
      (by_stands owner clause (sides_of (codes ":-") clause) (sides_of (codes "-->") clause) met.body stands refl refl met.is) met.met

  -- a goal of a file that isn't callable
  pub file_fault_stands : (T : Rows) (file : Facts) (at : ℕ) → ArePlacedIn text file → IsMetInFile T file (fault at) → IsOffset text at
  file_fault_stands T file at placed met =
      elim met [
        | inl among ↦
            let clauses : All (HasOffsets text) among.one.clauses =
            All-contains (λ (p : Predicate). All (HasOffsets text) p.clauses) file.defined among.one placed.of_clauses among.has in
            let clause = among.is in
            clause_fault_stands T file.module_ clause.one at (All-contains (HasOffsets text) among.one.clauses clause.one clauses clause.has) clause.is
        | inr goal ↦ goal_stands T (place file.module_ goal_role goal.one) (fault at) (All-contains (HasOffsets text) file.goals goal.one placed.of_goals goal.has) goal.is
      ]
