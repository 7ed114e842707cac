-- Plain forms and plain trees of clauses, worked out by hand.
use Rattle.std.proofs.Common.{◌≡◌, ℕ, ◌+◌, List, [], ◌∷◌, Option, Some, None, true, false, codes, refl}
use Rattle.prolog_terms.specs.declared.term.Span.{Span}
use Rattle.prolog_terms.specs.declared.term.Form.TheVariants.{Functional, Infix, Prefix}
use Rattle.prolog_terms.specs.declared.term.ConstKind.TheVariants.{Integer}
use Rattle.prolog_terms.specs.Tree.{Tree, variable, constant, atom, compound, listed, tailed, curly, paren, trees_from}
use Rattle.kept_clauses.specs.Plain.{fits, is_plain_name, silent, PlainGoal, called, whole, PlainClause, clause_span, plain_clause, plain, span_at}

-- terms that start at an offset

abbrev at : ℕ → Span
at n = record { from = n; to = n + 1 }

abbrev var : Tree
var = variable (at 90)

abbrev number : ℕ → Tree
number n = constant Integer false (Some 3) (at n)

abbrev name : ℕ → List ℕ → Tree
name n own = atom own (at n)

abbrev with : ℕ → List ℕ → List Tree → Tree
with n own args = compound own (trees_from args) Functional (at n)

abbrev round : Tree → Tree
round tree = paren tree (at 80)

abbrev list : List Tree → Tree
list items = listed (trees_from items) (at 81)

abbrev infix_term : ℕ → List ℕ → Tree → Tree → Tree
infix_term n own left right = compound own (trees_from (left ∷ right ∷ [])) Infix (at n)

abbrev rule : Tree → Tree → Tree
rule head body = infix_term 1 (codes ":-") head body

abbrev and_then : Tree → Tree → Tree
and_then left right = infix_term 70 (codes ",") left right

abbrev p : Tree
p = with 2 (codes "p") (var ∷ [])

-- goals and plain forms

abbrev a_call : ℕ → List ℕ → ℕ → PlainGoal
a_call n own arity = called (record { at = n; name = own; arity = arity })

abbrev defines : ℕ → List ℕ → ℕ → Option (List PlainGoal) → Option PlainClause
defines n own arity body = Some (record { span = at n; name = own; arity = arity; body = body })

-- the goals of `p(X) :- body`
abbrev has_goals : Tree → List PlainGoal → Type 0
has_goals body goals = plain_clause (rule p body) ≡ defines 1 (codes "p") 1 (Some goals)

-- trees as plain trees have them within, where no span is kept

abbrev any : Tree
any = variable (span_at 0)

abbrev plain_name : ℕ → List ℕ → Tree
plain_name n own = atom own (span_at n)

abbrev plain_term : ℕ → List ℕ → List Tree → Tree
plain_term n own args = compound own (trees_from args) Functional (span_at n)

abbrev plain_and : Tree → Tree → Tree
plain_and left right = compound (codes ",") (trees_from (left ∷ right ∷ [])) Infix (span_at 0)

-- names: none of those with a meaning of their own, nor any with more than 63 arguments, nor at an offset from 8388608 on

a_free_name : is_plain_name 5 (codes "append") 3 ≡ true
a_free_name = refl

no_control_construct : is_plain_name 5 (codes "->") 2 ≡ false
no_control_construct = refl

no_module : is_plain_name 5 (codes ":") 2 ≡ false
no_module = refl

many_arguments : is_plain_name 5 (codes "p") 63 ≡ true
many_arguments = refl

too_many_arguments : is_plain_name 5 (codes "p") 64 ≡ false
too_many_arguments = refl

the_last_offset : is_plain_name 8388607 (codes "p") 63 ≡ true
the_last_offset = refl

past_the_last_offset : is_plain_name 8388608 (codes "p") 0 ≡ false
past_the_last_offset = refl

-- a reserved name fits too: `!` is a call as an atom
any_name_fits : fits 8388607 0 ≡ true
any_name_fits = refl

-- silent terms: `X`, `[a]`, `[a|b]`, `([a])`, and none of `a`, `3`, `f(X)`, `{a}`

a_variable : silent var ≡ true
a_variable = refl

a_list : silent (list (name 5 (codes "a") ∷ [])) ≡ true
a_list = refl

a_list_with_a_tail : silent (tailed (trees_from (name 5 (codes "a") ∷ [])) (name 6 (codes "b")) (at 4)) ≡ true
a_list_with_a_tail = refl

a_list_in_brackets : silent (round (list (name 5 (codes "a") ∷ []))) ≡ true
a_list_in_brackets = refl

no_atom : silent (name 5 (codes "a")) ≡ false
no_atom = refl

no_number : silent (number 5) ≡ false
no_number = refl

no_compound : silent (with 5 (codes "f") (var ∷ [])) ≡ false
no_compound = refl

no_curly_brackets : silent (curly (name 5 (codes "a")) (at 4)) ≡ false
no_curly_brackets = refl

-- facts: `p(X).`, `a.`, `p(f(X), 3).`

a_fact : plain_clause p ≡ defines 2 (codes "p") 1 None
a_fact = refl

an_atom_as_a_fact : plain_clause (name 1 (codes "a")) ≡ defines 1 (codes "a") 0 None
an_atom_as_a_fact = refl

arguments_of_a_fact : plain (with 3 (codes "p") (with 4 (codes "f") (var ∷ []) ∷ number 5 ∷ [])) ≡ with 3 (codes "p") (any ∷ any ∷ [])
arguments_of_a_fact = refl

-- `p(X) :- q(X, Y), r.`
a_rule : plain (rule p (and_then (with 7 (codes "q") (var ∷ var ∷ [])) (name 9 (codes "r"))))
    ≡ rule (plain_term 0 (codes "p") (any ∷ [])) (plain_and (plain_term 7 (codes "q") (any ∷ any ∷ [])) (plain_name 9 (codes "r")))
a_rule = refl

-- `p(X) :- q([a], [a|T]).`
lists_as_arguments : has_goals
    (with 7 (codes "q") (list (name 8 (codes "a") ∷ []) ∷ tailed (trees_from (name 9 (codes "a") ∷ [])) var (at 10) ∷ [])) (a_call 7 (codes "q") 2 ∷ [])
lists_as_arguments = refl

-- `p(X) :- !, a.`
a_cut : has_goals (and_then (name 7 (codes "!")) (name 8 (codes "a"))) (a_call 7 (codes "!") 0 ∷ a_call 8 (codes "a") 0 ∷ [])
a_cut = refl

-- `p(X) :- call(G), findall(X, G, L).`
goals_that_take_goals : has_goals (and_then (with 7 (codes "call") (var ∷ [])) (with 8 (codes "findall") (var ∷ var ∷ var ∷ [])))
    (a_call 7 (codes "call") 1 ∷ a_call 8 (codes "findall") 3 ∷ [])
goals_that_take_goals = refl

-- `p(X) :- q(X), ( a ; b -> d ).`: control constructs of two goals are passed through
control_constructs : has_goals
    (and_then (with 7 (codes "q") (var ∷ []))
    (round (infix_term 20 (codes ";") (name 8 (codes "a")) (infix_term 21 (codes "->") (name 9 (codes "b")) (name 10 (codes "d"))))))
    (a_call 7 (codes "q") 1 ∷ a_call 8 (codes "a") 0 ∷ a_call 9 (codes "b") 0 ∷ a_call 10 (codes "d") 0 ∷ [])
control_constructs = refl

-- `p(X) :- Y.`, and as a plain tree; `p(X) :- [a], {b}.`

no_goals : has_goals var []
no_goals = refl

written_without_goals : plain (rule p var) ≡ rule (plain_term 0 (codes "p") (any ∷ [])) any
written_without_goals = refl

no_goals_either : has_goals (and_then (list (name 7 (codes "a") ∷ [])) (curly (name 8 (codes "b")) (at 9))) []
no_goals_either = refl

-- goals that keep their trees: `\+ a`, `q(f(X))`, `q(a)`, `m:a`, `3`, `;(a, b, d)`, `findall(X, q(X), L)`

a_negation : has_goals (compound (codes "\\+") (trees_from (name 7 (codes "a") ∷ [])) Prefix (at 6))
    (whole (compound (codes "\\+") (trees_from (name 7 (codes "a") ∷ [])) Prefix (at 6)) ∷ [])
a_negation = refl

a_compound_argument : has_goals (with 7 (codes "q") (with 8 (codes "f") (var ∷ []) ∷ [])) (whole (with 7 (codes "q") (with 8 (codes "f") (var ∷ []) ∷ [])) ∷ [])
a_compound_argument = refl

an_atom_argument : has_goals (with 7 (codes "q") (name 8 (codes "a") ∷ [])) (whole (with 7 (codes "q") (name 8 (codes "a") ∷ [])) ∷ [])
an_atom_argument = refl

a_goal_of_a_module : has_goals (infix_term 7 (codes ":") (name 8 (codes "m")) (name 9 (codes "a"))) (whole (infix_term 7 (codes ":") (name 8 (codes "m")) (name 9 (codes "a"))) ∷ [])
a_goal_of_a_module = refl

a_number_as_a_goal : has_goals (number 7) (whole (number 7) ∷ [])
a_number_as_a_goal = refl

a_semicolon_of_three : has_goals (with 7 (codes ";") (var ∷ var ∷ var ∷ [])) (whole (with 7 (codes ";") (var ∷ var ∷ var ∷ [])) ∷ [])
a_semicolon_of_three = refl

a_goal_within : has_goals (with 7 (codes "findall") (var ∷ with 8 (codes "q") (var ∷ []) ∷ var ∷ []))
    (whole (with 7 (codes "findall") (var ∷ with 8 (codes "q") (var ∷ []) ∷ var ∷ [])) ∷ [])
a_goal_within = refl

-- and goals past the last offset: `a`, `q(X)`

a_late_atom : has_goals (name 8388608 (codes "a")) (whole (name 8388608 (codes "a")) ∷ [])
a_late_atom = refl

a_late_call : has_goals (with 8388608 (codes "q") (var ∷ [])) (whole (with 8388608 (codes "q") (var ∷ [])) ∷ [])
a_late_call = refl

-- only such goals of a clause do: `p(X) :- a, q(3), r(X).`
one_of_three : plain (rule p (and_then (name 7 (codes "a")) (and_then (with 8 (codes "q") (number 9 ∷ [])) (with 10 (codes "r") (var ∷ [])))))
    ≡ rule (plain_term 0 (codes "p") (any ∷ []))
    (plain_and (plain_name 7 (codes "a")) (plain_and (with 8 (codes "q") (number 9 ∷ [])) (plain_term 10 (codes "r") (any ∷ []))))
one_of_three = refl

-- clauses in brackets have a plain form, with the span inside them: `(p(X)).`, `(p(X) :- a).`

a_fact_in_brackets : plain (round p) ≡ with 2 (codes "p") (any ∷ [])
a_fact_in_brackets = refl

span_in_brackets : clause_span (round (round p)) ≡ at 2
span_in_brackets = refl

a_rule_in_brackets : plain (round (rule (round p) (round (name 7 (codes "a"))))) ≡ rule (plain_term 0 (codes "p") (any ∷ [])) (plain_name 7 (codes "a"))
a_rule_in_brackets = refl

-- clauses that keep their trees: `:- a.`, `?- a.`, `a --> b.`, `m:p(X) :- a.`, `m:p(X).`, `X :- a.`, `! :- a.`, `3.`, `[a].`, and a clause past the last offset

a_directive : plain_clause (compound (codes ":-") (trees_from (name 2 (codes "a") ∷ [])) Prefix (at 1)) ≡ None
a_directive = refl

a_query : plain_clause (compound (codes "?-") (trees_from (name 2 (codes "a") ∷ [])) Prefix (at 1)) ≡ None
a_query = refl

a_grammar_rule : plain_clause (infix_term 1 (codes "-->") (name 2 (codes "a")) (name 3 (codes "b"))) ≡ None
a_grammar_rule = refl

a_head_of_a_module : plain_clause (rule (infix_term 2 (codes ":") (name 3 (codes "m")) p) (name 7 (codes "a"))) ≡ None
a_head_of_a_module = refl

a_fact_of_a_module : plain_clause (infix_term 2 (codes ":") (name 3 (codes "m")) p) ≡ None
a_fact_of_a_module = refl

a_variable_as_a_head : plain_clause (rule var (name 7 (codes "a"))) ≡ None
a_variable_as_a_head = refl

a_cut_as_a_head : plain_clause (rule (name 2 (codes "!")) (name 7 (codes "a"))) ≡ None
a_cut_as_a_head = refl

a_number_as_a_clause : plain_clause (number 1) ≡ None
a_number_as_a_clause = refl

a_list_as_a_clause : plain_clause (list (name 5 (codes "a") ∷ [])) ≡ None
a_list_as_a_clause = refl

a_late_clause : plain_clause (name 8388608 (codes "a")) ≡ None
a_late_clause = refl
