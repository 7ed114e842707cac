-- What small files say, by their definition.
use Rattle.std.proofs.Common.{◌≡◌, ℕ, List, [], ◌∷◌, Some, None, Ok, Err, false, true, codes, refl}
use Rattle.prolog_terms.specs.declared.term.Span.{Span}
use Rattle.prolog_terms.specs.declared.term.Form.TheVariants.{Functional, Prefix, Infix}
use Rattle.prolog_terms.specs.declared.term.ConstKind.TheVariants as const
use Rattle.prolog_terms.specs.Tree.{Tree, variable, constant, atom, compound, listed, tailed, paren, more, none}
use Rattle.clause_text.specs.declared.cause.Cause.{Cause}
use Rattle.clause_text.specs.declared.cause.Cause.TheVariants.{LateModule, BadIndicator, BadSpec, ControlHead, BadHead, NotInProfile}
use Rattle.module_table.specs.declared.goal_arg.GoalArg.{GoalArg}
use Rattle.module_table.specs.declared.goal_arg.GoalArg.TheVariants.{Plain, Goal, Caret, Grammar}
use Rattle.module_table.specs.declared.load.LoadKind.TheVariants.{UseAll}
use Rattle.module_table.specs.Defined.{clauses_for}
use Rattle.module_table.specs.declared.mark.Property.{Property}
use Rattle.module_table.specs.declared.mark.Property.TheVariants.{Dynamic, Multifile}
use Rattle.module_table.specs.Said.{Said, Part, declares, loads, defines, takes, marks, goal}
use Rattle.module_table.specs.Facts.{file_said}

abbrev at : ℕ → Span
at n = record { from = n; to = n }

abbrev one : List ℕ → Tree → ℕ → Tree
one name a from = compound name (more a none) Functional (at from)

abbrev two : List ℕ → Tree → Tree → ℕ → Tree
two name a b from = compound name (more a (more b none)) Infix (at from)

abbrev directive : Tree → Tree
directive term = compound (codes ":-") (more term none) Prefix (at 0)

abbrev number : ℕ → ℕ → Tree
number n from = constant const.Integer false (Some n) (at from)

abbrev p : Tree
p = atom (codes "p") (at 0)

abbrev says : List Tree → Said
says trees = file_said (codes "d/f.pl") trees

abbrev refusal : Cause → ℕ → Said
refusal cause from = Err (record { cause = cause; offset = from })

abbrev marked_in : Property → List ℕ → List ℕ → ℕ → Part
marked_in property owner name arity = marks (record { property = property; module_ = owner; name = name; arity = arity })

abbrev is_dynamic : List ℕ → ℕ → Part
is_dynamic name arity = marked_in Dynamic (codes "user") name arity

-- `p.`
fact : says (p ∷ []) ≡ Ok (defines (record { module_ = codes "user"; name = codes "p"; arity = 0; clause = Some p }) ∷ [])
fact = refl

-- `p(X) --> q.` has two arguments more
abbrev rule : Tree
rule = two (codes "-->") (one (codes "p") (variable (at 2)) 0) (atom (codes "q") (at 9)) 0

grammar_rule : says (rule ∷ []) ≡ Ok (defines (record { module_ = codes "user"; name = codes "p"; arity = 3; clause = Some rule }) ∷ [])
grammar_rule = refl

-- `p, q.`
comma_is_no_head : says (two (codes ",") p (atom (codes "q") (at 3)) 0 ∷ []) ≡ refusal ControlHead 0
comma_is_no_head = refl

-- `(3).`
number_is_no_head : says (paren (number 3 1) (at 0) ∷ []) ≡ refusal BadHead 1
number_is_no_head = refl

-- `:- module(m, []).` alone, and behind `p.`
abbrev module_m : Tree
module_m = directive (two (codes "module") (atom (codes "m") (at 10)) (atom (codes "[]") (at 13)) 3)

module_first : says (module_m ∷ []) ≡ Ok (declares (record { name = codes "m"; from = 3; exports = [] }) ∷ [])
module_first = refl

module_late : says (p ∷ module_m ∷ []) ≡ refusal LateModule 3
module_late = refl

-- `:- dynamic p/1, q//2.`
dynamic_two : says (directive (one (codes "dynamic") (two (codes ",") (two (codes "/") p (number 1 13) 11) (two (codes "//") (atom (codes "q") (at 16)) (number 2 19) 16) 11) 3) ∷ [])
    ≡ Ok (is_dynamic (codes "p") 1 ∷ is_dynamic (codes "q") 4 ∷ [])
dynamic_two = refl

-- `:- dynamic p.`
dynamic_name : says (directive (one (codes "dynamic") (atom (codes "p") (at 11)) 3) ∷ []) ≡ refusal BadIndicator 11
dynamic_name = refl

-- `:- dynamic p/"1".`, though the string has a value
string_is_no_arity : says (directive (one (codes "dynamic") (two (codes "/") p (constant const.Str false (Some 1) (at 13)) 11) 3) ∷ []) ≡ refusal BadIndicator 11
string_is_no_arity = refl

-- `:- include(x).`
include : says (directive (one (codes "include") (atom (codes "x") (at 11)) 3) ∷ []) ≡ refusal NotInProfile 3
include = refl

-- `:- use_module(b), foo.`
load_then_goal : says (directive (two (codes ",") (one (codes "use_module") (atom (codes "b") (at 14)) 3) (atom (codes "foo") (at 18)) 3) ∷ [])
    ≡ Ok (loads (record { file = codes "d/b.pl"; kind = UseAll; items = []; from = 14 }) ∷ goal (atom (codes "foo") (at 18)) ∷ [])
load_then_goal = refl

-- `:- use_module(library(lists)).`
system_file : says (directive (one (codes "use_module") (one (codes "library") (atom (codes "lists") (at 22)) 14) 3) ∷ []) ≡ Ok []
system_file = refl

-- `:- ensure_loaded([b]).`
list_is_no_file : says (directive (one (codes "ensure_loaded") (listed (more (atom (codes "b") (at 18)) none) (at 17)) 3) ∷ []) ≡ refusal BadSpec 17
list_is_no_file = refl

-- the clauses of one predicate, in order
abbrev q : Tree
q = atom (codes "q") (at 3)

clauses_in_order : clauses_for (codes "user") (codes "p") 0
    (record { module_ = codes "user"; name = codes "p"; arity = 0; clause = Some p } ∷ record { module_ = codes "user"; name = codes "q"; arity = 0; clause = Some q } ∷ record { module_ = codes "user"; name = codes "p"; arity = 0; clause = Some q } ∷ [])
    ≡ p ∷ q ∷ []
clauses_in_order = refl

-- `user:hook(X) :- q(X).` in a file of the module `f`
abbrev module_f : Tree
module_f = directive (two (codes "module") (atom (codes "f") (at 10)) (atom (codes "[]") (at 13)) 3)

abbrev hook : Tree
hook = two (codes ":-") (two (codes ":") (atom (codes "user") (at 20)) (one (codes "hook") (variable (at 30)) 25) 20) (one (codes "q") (variable (at 38)) 36) 20

head_elsewhere : says (module_f ∷ hook ∷ p ∷ [])
    ≡ Ok (declares (record { name = codes "f"; from = 3; exports = [] })
    ∷ defines (record { module_ = codes "user"; name = codes "hook"; arity = 1; clause = Some hook })
    ∷ defines (record { module_ = codes "f"; name = codes "p"; arity = 0; clause = Some p }) ∷ [])
head_elsewhere = refl

-- `a:b:p.` is of `b`, and so is `a:(b:p).`
abbrev of_b : Tree
of_b = two (codes ":") (atom (codes "a") (at 0)) (two (codes ":") (atom (codes "b") (at 2)) (atom (codes "p") (at 4)) 2) 0

innermost_counts : says (of_b ∷ []) ≡ Ok (defines (record { module_ = codes "b"; name = codes "p"; arity = 0; clause = Some of_b }) ∷ [])
innermost_counts = refl

-- `X:p.`
variable_is_no_module : says (two (codes ":") (variable (at 0)) (atom (codes "p") (at 2)) 0 ∷ []) ≡ refusal BadHead 0
variable_is_no_module = refl

-- `m:3.`, at the number
number_in_a_module : says (two (codes ":") (atom (codes "m") (at 0)) (number 3 2) 0 ∷ []) ≡ refusal BadHead 2
number_in_a_module = refl

-- `m:(p :- q).`
rule_in_a_module : says (two (codes ":") (atom (codes "m") (at 0)) (paren (two (codes ":-") (atom (codes "p") (at 3)) (atom (codes "q") (at 8)) 3) (at 2)) 0 ∷ [])
    ≡ refusal ControlHead 3
rule_in_a_module = refl

-- `m:(a, [x]) --> b.`
abbrev pushed_in : Tree
pushed_in = two (codes ",") (atom (codes "a") (at 3)) (listed (more (atom (codes "x") (at 7)) none) (at 6)) 3

pushback_in_a_module : says (two (codes "-->") (two (codes ":") (atom (codes "m") (at 0)) (paren pushed_in (at 2)) 0) (atom (codes "b") (at 15)) 0 ∷ []) ≡ refusal ControlHead 3
pushback_in_a_module = refl

-- `:- multifile user:hook/1, m:[a/0, n:b//1].`, where `user:hook/1` is `(user:hook)/1`
abbrev hook_indicator : Tree
hook_indicator = two (codes "/") (two (codes ":") (atom (codes "user") (at 13)) (atom (codes "hook") (at 18)) 13) (number 1 23) 13

abbrev list_in_m : Tree
list_in_m = two (codes ":") (atom (codes "m") (at 26)) (listed (more (two (codes "/") (atom (codes "a") (at 29)) (number 0 31) 29)
    (more (two (codes "//") (two (codes ":") (atom (codes "n") (at 34)) (atom (codes "b") (at 36)) 34) (number 1 39) 34) none)) (at 28)) 26

multifile_elsewhere : says (directive (one (codes "multifile") (two (codes ",") hook_indicator list_in_m 13) 3) ∷ [])
    ≡ Ok (marked_in Multifile (codes "user") (codes "hook") 1 ∷ marked_in Multifile (codes "m") (codes "a") 0 ∷ marked_in Multifile (codes "n") (codes "b") 3 ∷ [])
multifile_elsewhere = refl

-- `:- dynamic a:b:c/1.` is `(a:(b:c))/1`
dynamic_deep : says (directive (one (codes "dynamic") (two (codes "/") (two (codes ":") (atom (codes "a") (at 11)) (two (codes ":") (atom (codes "b") (at 13)) (atom (codes "c") (at 15)) 13) 11)
    (number 1 17) 11) 3) ∷ []) ≡ refusal BadIndicator 11
dynamic_deep = refl

-- `:- dynamic X:[p/0].`
dynamic_of_variable : says (directive (one (codes "dynamic") (two (codes ":") (variable (at 11)) (listed (more (two (codes "/") p (number 0 16) 14) none) (at 13)) 11) 3) ∷ []) ≡ refusal BadIndicator 11
dynamic_of_variable = refl

-- declarations of goal arguments

abbrev meta_predicate : Tree → Tree
meta_predicate declared = directive (one (codes "meta_predicate") declared 3)

abbrev takes_goals : List ℕ → List ℕ → List GoalArg → ℕ → Part
takes_goals owner name args from = takes (record { module_ = owner; name = name; args = args; from = from })

-- `each(1, ?)`
abbrev each : Tree
each = two (codes "each") (number 1 23) (atom (codes "?") (at 26)) 18

-- `:- meta_predicate each(1, ?), m:[n:each(1, ?), each(1, ?)].`
abbrev each_in_m : Tree
each_in_m = two (codes ":") (atom (codes "m") (at 30)) (listed (more (two (codes ":") (atom (codes "n") (at 33)) each 33) (more each none)) (at 32)) 30

declared_innermost : says (meta_predicate (two (codes ",") each each_in_m 18) ∷ [])
    ≡ Ok (takes_goals (codes "user") (codes "each") (Goal 1 ∷ Plain ∷ []) 18 ∷ takes_goals (codes "n") (codes "each") (Goal 1 ∷ Plain ∷ []) 18
    ∷ takes_goals (codes "m") (codes "each") (Goal 1 ∷ Plain ∷ []) 18 ∷ [])
declared_innermost = refl

-- `:- meta_predicate p((9), 10, -1, ^, //, "0").`
declared_each_way : says (meta_predicate (compound (codes "p") (more (paren (number 9 21) (at 20)) (more (number 10 25) (more (constant const.Integer true (Some 1) (at 29))
    (more (atom (codes "^") (at 33)) (more (atom (codes "//") (at 36)) (more (constant const.Str false (Some 0) (at 40)) none)))))) Functional (at 18)) ∷ [])
    ≡ Ok (takes_goals (codes "user") (codes "p") (Goal 9 ∷ Plain ∷ Plain ∷ Caret ∷ Grammar ∷ Plain ∷ []) 18 ∷ [])
declared_each_way = refl

-- `:- meta_predicate each.`, `:- meta_predicate X:each(1, ?).` and `:- meta_predicate [each(1, ?)|T].`
name_declares_nothing : says (meta_predicate (atom (codes "each") (at 18)) ∷ []) ≡ Ok []
name_declares_nothing = refl

variable_declares_nothing : says (meta_predicate (two (codes ":") (variable (at 18)) each 18) ∷ []) ≡ Ok []
variable_declares_nothing = refl

tail_declares_nothing : says (meta_predicate (tailed (more each none) (variable (at 31)) (at 18)) ∷ []) ≡ Ok []
tail_declares_nothing = refl

-- `:- meta_predicate each(1, ?).` in a file of the module `f`
declared_in_f : says (module_f ∷ meta_predicate each ∷ [])
    ≡ Ok (declares (record { name = codes "f"; from = 3; exports = [] }) ∷ takes_goals (codes "f") (codes "each") (Goal 1 ∷ Plain ∷ []) 18 ∷ [])
declared_in_f = refl
