-- Plain trees that would say too little: each is told apart from its clause by what is met in it, or by what it defines.
use Rattle.std.specs.Prelude.{◌==◌, ◌&&◌, if◌then◌else◌}
use Rattle.std.specs.Str.{bytes_eq}
use Rattle.std.proofs.Common.{◌≡◌, ◌≢◌, ℕ, ◌+◌, Bool, true, false, List, [], ◌∷◌, Some, Result, Ok, Err, Contains, length, codes, inl, inr, refl, sym, ap, subst, arith}
use Rattle.list_laws.proofs.OneOrder.{nothing_in, first_or_rest}
use Rattle.prolog_terms.specs.declared.term.Span.{Span}
use Rattle.prolog_terms.specs.declared.term.Form.TheVariants.{Functional, Infix}
use Rattle.prolog_terms.specs.declared.term.ConstKind.TheVariants.{Integer}
use Rattle.prolog_terms.specs.Tree.{Tree, variable, constant, atom, compound, curly, trees_from}
use Rattle.module_table.specs.declared.goal_arg.GoalArg.TheVariants.{Plain, Goal, Grammar}
use Rattle.module_table.specs.Heads.{Owned}
use Rattle.module_table.specs.Said.{Refusal}
use Rattle.module_table.specs.Facts.{clause_head}
use Rattle.call_edges.specs.Calls.{IsMetInClause}
use Rattle.call_edges.specs.declared.role.Role.{Role}
use Rattle.call_edges.specs.Goals.{Met, call, fault, goal_role, Rows, as_declared, by_table, row}
use Rattle.kept_clauses.specs.Views.{IsSoundGoal}
use Rattle.call_edges.specs.Listed.{mets_in}
use Rattle.kept_clauses.specs.Plain.{PlainGoal, called, written, plain}
use Rattle.plain_clauses.proofs.PlainMets.{clause_mets, clause_mets_are}

abbrev at : ℕ → Span
at n = record { from = n; to = n + 1 }

abbrev with : ℕ → List ℕ → List Tree → Tree
with n own args = compound own (trees_from args) Functional (at n)

abbrev var : Tree
var = variable (at 90)

abbrev rule : Tree → Tree → Tree
rule head body = compound (codes ":-") (trees_from (head ∷ body ∷ [])) Infix (at 1)

abbrev p : Tree
p = atom (codes "p") (at 2)

abbrev user : List ℕ
user = codes "user"

-- `p` with a body of one goal, as a plain tree would have it
abbrev with_goal : PlainGoal → Tree
with_goal goal = written (record { span = at 1; name = codes "p"; arity = 0; body = Some (goal ∷ []) })

abbrev a_call : ℕ → List ℕ → ℕ → PlainGoal
a_call n own arity = called (record { at = n; name = own; arity = arity })

-- a call without added arguments, and one to which one is added, neither negated

abbrev a_met : ℕ → List ℕ → ℕ → Met
a_met n own arity = call n user own arity 0 false

abbrev extended : ℕ → List ℕ → Met
extended n own = call n user own 1 1 false

-- a program declares `each(1, ?)`, `t(0)` and `body(//)`
abbrev declaring : Rows
declaring owner own arity =
    if bytes_eq own (codes "each") && arity == 2 then as_declared (Goal 1 ∷ Plain ∷ [])
    else if bytes_eq own (codes "t") && arity == 1 then as_declared (Goal 0 ∷ [])
    else if bytes_eq own (codes "body") && arity == 1 then as_declared (Grammar ∷ [])
    else by_table (row own arity)

-- one thing alone is met in a clause
alone : (tree : Tree) (one other : Met) → clause_mets declaring user tree ≡ one ∷ [] → IsMetInClause declaring user tree other → one ≡ other
alone tree one other is met =
    let has = subst (λ mets. Contains mets other) is ((clause_mets_are declaring user tree other).0 met) in
    elim (first_or_rest one other [] has) [ inl same ↦ same | inr rest ↦ absurd (nothing_in other rest) ]

-- the other one is met in the clause
there : (tree : Tree) (one other : Met) → clause_mets declaring user tree ≡ one ∷ other ∷ [] → IsMetInClause declaring user tree other
there tree one other is =
    (clause_mets_are declaring user tree other).1 (subst (λ mets. Contains mets other) (sym is) (1, (omega arith), refl))

-- an atom as an argument isn't silent: `p :- each(show, L).` calls `show/1`

abbrev shown : Tree
shown = rule p (with 7 (codes "each") (atom (codes "show") (at 8) ∷ var ∷ []))

show_is_met : IsMetInClause declaring user shown (extended 8 (codes "show"))
show_is_met = there shown (a_met 7 (codes "each") 2) (extended 8 (codes "show")) refl

show_is_lost : IsMetInClause declaring user (with_goal (a_call 7 (codes "each") 2)) (extended 8 (codes "show")) → ⊥
show_is_lost met =
    let same : a_met 7 (codes "each") 2 ≡ extended 8 (codes "show") =
    alone (with_goal (a_call 7 (codes "each") 2)) (a_met 7 (codes "each") 2) (extended 8 (codes "show")) refl met in
    cc

-- so the plain tree has the goal as it stands
show_is_kept : clause_mets declaring user (plain shown) ≡ a_met 7 (codes "each") 2 ∷ extended 8 (codes "show") ∷ []
show_is_kept = refl

-- no test that lets an atom through is one of silent terms, whatever else it says
no_silent_atom : (quiet : Tree → Bool) (name : List ℕ) (span : Span) → quiet (atom name span) ≡ true
    → ((T : Rows) (owner : List ℕ) (role : Role) (tree : Tree) → quiet tree ≡ true → mets_in T owner role tree ≡ []) → ⊥
no_silent_atom quiet name span passes nothing =
    let none : call span.from user name 0 0 false ∷ [] ≡ [] = nothing declaring user goal_role (atom name span) passes in cc

-- nor is a number: `p :- t(3).` has a goal that isn't callable

abbrev numbered : Tree
numbered = rule p (with 7 (codes "t") (constant Integer false (Some 3) (at 8) ∷ []))

fault_is_met : IsMetInClause declaring user numbered (fault 8)
fault_is_met = there numbered (a_met 7 (codes "t") 1) (fault 8) refl

fault_is_lost : IsMetInClause declaring user (with_goal (a_call 7 (codes "t") 1)) (fault 8) → ⊥
fault_is_lost met =
    let same : a_met 7 (codes "t") 1 ≡ fault 8 = alone (with_goal (a_call 7 (codes "t") 1)) (a_met 7 (codes "t") 1) (fault 8) refl met in cc

fault_is_kept : clause_mets declaring user (plain numbered) ≡ a_met 7 (codes "t") 1 ∷ fault 8 ∷ []
fault_is_kept = refl

-- nor are curly brackets, within which a grammar body has goals: `p :- body({a}).`

abbrev curled : Tree
curled = rule p (with 7 (codes "body") (curly (atom (codes "a") (at 9)) (at 8) ∷ []))

inner_is_met : IsMetInClause declaring user curled (a_met 9 (codes "a") 0)
inner_is_met = there curled (a_met 7 (codes "body") 1) (a_met 9 (codes "a") 0) refl

inner_is_lost : IsMetInClause declaring user (with_goal (a_call 7 (codes "body") 1)) (a_met 9 (codes "a") 0) → ⊥
inner_is_lost met =
    let same : a_met 7 (codes "body") 1 ≡ a_met 9 (codes "a") 0 =
    alone (with_goal (a_call 7 (codes "body") 1)) (a_met 7 (codes "body") 1) (a_met 9 (codes "a") 0) refl met in
    cc

inner_is_kept : clause_mets declaring user (plain curled) ≡ a_met 7 (codes "body") 1 ∷ a_met 9 (codes "a") 0 ∷ []
inner_is_kept = refl

-- a call has the offset of its goal and not of its clause: `p :- q(X).`

moved_is_lost : IsMetInClause declaring user (with_goal (a_call 1 (codes "q") 1)) (a_met 7 (codes "q") 1) → ⊥
moved_is_lost met =
    let same : a_met 1 (codes "q") 1 ≡ a_met 7 (codes "q") 1 =
    alone (with_goal (a_call 1 (codes "q") 1)) (a_met 1 (codes "q") 1) (a_met 7 (codes "q") 1) refl met in
    cc

moved_is_kept : clause_mets declaring user (plain (rule p (with 7 (codes "q") (var ∷ [])))) ≡ a_met 7 (codes "q") 1 ∷ []
moved_is_kept = refl

-- a call of a reserved name with arguments is none as a term, so it isn't sound: `','(X, Y)` has two goals, both variables

abbrev joining : PlainGoal
joining = a_call 7 (codes ",") 2

nothing_is_met : clause_mets declaring user (with_goal joining) ≡ []
nothing_is_met = refl

call_is_lost : IsMetInClause declaring user (with_goal joining) (a_met 7 (codes ",") 2) → ⊥
call_is_lost met =
    let one = a_met 7 (codes ",") 2 in nothing_in one ((clause_mets_are declaring user (with_goal joining) one).0 met)

not_sound : IsSoundGoal joining → ⊥
not_sound sound = elim sound [ inl none ↦ absurd (omega (arith, none)) | inr free ↦ let both : false ≡ true = free in absurd (cc) ]

-- and as an atom it is sound: `','`
atom_is_sound : IsSoundGoal (a_call 7 (codes ",") 0)
atom_is_sound = inl refl

-- a goal of another module is no call of the name in this one: `p :- m:a.`

abbrev qualified : Tree
qualified = rule p (with 7 (codes ":") (atom (codes "m") (at 8) ∷ atom (codes "a") (at 9) ∷ []))

of_module_is_lost : IsMetInClause declaring user (with_goal (a_call 9 (codes "a") 0)) (call 9 (codes "m") (codes "a") 0 0 false) → ⊥
of_module_is_lost met =
    let same : a_met 9 (codes "a") 0 ≡ call 9 (codes "m") (codes "a") 0 0 false =
    alone (with_goal (a_call 9 (codes "a") 0)) (a_met 9 (codes "a") 0) (call 9 (codes "m") (codes "a") 0 0 false) refl met in
    cc

of_module_is_kept : clause_mets declaring user (plain qualified) ≡ call 9 (codes "m") (codes "a") 0 0 false ∷ []
of_module_is_kept = refl

-- a negated goal is no goal that isn't negated: `p :- \+ a.`

abbrev negating : Tree
negating = rule p (with 7 (codes "\\+") (atom (codes "a") (at 8) ∷ []))

negated_is_lost : IsMetInClause declaring user (with_goal (a_call 8 (codes "a") 0)) (call 8 user (codes "a") 0 0 true) → ⊥
negated_is_lost met =
    let same : a_met 8 (codes "a") 0 ≡ call 8 user (codes "a") 0 0 true =
    alone (with_goal (a_call 8 (codes "a") 0)) (a_met 8 (codes "a") 0) (call 8 user (codes "a") 0 0 true) refl met in
    cc

negated_is_kept : clause_mets declaring user (plain negating) ≡ call 8 user (codes "a") 0 0 true ∷ []
negated_is_kept = refl

-- a head of another module defines no predicate of this one: `m:p.`

abbrev elsewhere : Tree
elsewhere = with 1 (codes ":") (atom (codes "m") (at 1) ∷ p ∷ [])

head_is_kept : clause_head user (plain elsewhere) ≡ Ok (record { module_ = codes "m"; name = codes "p"; arity = 0 })
head_is_kept = refl

abbrev module_told : Result Owned Refusal → List ℕ
module_told (Ok own) = own.module_
module_told (Err refusal) = []

not_four : (n : ℕ) → n ≡ 1 → n ≡ 4 → ⊥
not_four n one four = omega arith

head_is_lost : clause_head user p ≢ clause_head user elsewhere
head_is_lost same = not_four (length (module_told (clause_head user elsewhere))) refl (sym (ap (λ told. length (module_told told)) same))
