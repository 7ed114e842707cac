-- What is met in bodies, on cases worked out by hand.
use Rattle.std.specs.Str.{bytes_eq}
use Rattle.std.specs.Prelude.{◌==◌, ◌&&◌, if◌then◌else◌}
use Rattle.std.specs.declared.cmp.Ordering.TheVariants.{Less, Greater}
use Rattle.std.proofs.Common.{◌≡◌, ℕ, ◌+◌, List, [], ◌∷◌, Option, Some, None, true, false, codes, refl}
use Rattle.prolog_terms.specs.declared.term.Span.{Span}
use Rattle.prolog_terms.specs.declared.term.Form.TheVariants.{Functional}
use Rattle.prolog_terms.specs.declared.term.ConstKind.TheVariants.{Integer, Str, BackStr, Float}
use Rattle.prolog_terms.specs.Tree.{Tree, variable, constant, atom, compound, listed, tailed, curly, paren, trees_from}
use Rattle.module_table.specs.declared.goal_arg.GoalArg.TheVariants.{Plain, Goal, Caret, Grammar}
use Rattle.call_edges.specs.Goals.{Met, Place, call, fault, body_role, goal_role, grammar_role, place, row, Rows, plain_rows, by_table, as_declared, IsPart, IsMet}
use Rattle.call_edges.specs.Listed.{mets_in}
use Rattle.import_rules.specs.Names.{pred_name}
use Rattle.call_edges.specs.CallPlaces.{CallAt, call_cmp}
use Rattle.call_edges.specs.Calls.{body_of, IsMetInClause}
use Rattle.call_edges.specs.KeptCalls.{has_call}
use Rattle.call_edges.specs.PlacedSeen.{call_to}

-- terms that stand at an offset

abbrev at : ℕ → Span
at n = record { from = n; to = n + 1 }

abbrev var : Tree
var = variable (at 90)

abbrev number : ℕ → Tree
number n = constant Integer false (Some 3) (at n)

abbrev text : Tree
text = constant Str false None (at 80)

abbrev name : List ℕ → Tree
name own = atom own (at 1)

abbrev with : List ℕ → List Tree → Tree
with own args = compound own (trees_from args) Functional (at 2)

abbrev round : Tree → Tree
round tree = paren tree (at 3)

abbrev a : Tree
a = name (codes "a")

abbrev b : Tree
b = name (codes "b")

abbrev d : Tree
d = name (codes "d")

-- what is met in a goal, and in a grammar body, of `user`

abbrev goals : Tree → List Met
goals tree = mets_in plain_rows (codes "user") goal_role tree

abbrev grammar : Tree → List Met
grammar tree = mets_in plain_rows (codes "user") grammar_role tree

-- a call by a compound, and one by an atom

abbrev calls : List ℕ → ℕ → Met
calls own arity = call 2 (codes "user") own arity 0 false

abbrev alone : List ℕ → ℕ → Met
alone own arity = call 1 (codes "user") own arity 0 false

-- the same where so many arguments are added

abbrev calls_with : List ℕ → ℕ → ℕ → Met
calls_with own arity more = call 2 (codes "user") own arity more false

abbrev alone_with : List ℕ → ℕ → Met
alone_with own more = call 1 (codes "user") own more more false

-- and where they are negated

abbrev calls_negated : List ℕ → ℕ → Met
calls_negated own arity = call 2 (codes "user") own arity 0 true

abbrev alone_negated : List ℕ → ℕ → Met
alone_negated own more = call 1 (codes "user") own more more true

-- atoms, compounds and terms that call nothing

an_atom : goals a ≡ alone (codes "a") 0 ∷ []
an_atom = refl

a_compound : goals (with (codes "p") (a ∷ b ∷ [])) ≡ calls (codes "p") 2 ∷ []
a_compound = refl

a_variable : goals var ≡ []
a_variable = refl

a_list : goals (listed (trees_from (a ∷ [])) (at 4)) ≡ []
a_list = refl

a_list_with_a_tail : goals (tailed (trees_from (a ∷ [])) b (at 4)) ≡ []
a_list_with_a_tail = refl

curly_brackets : goals (curly a (at 4)) ≡ []
curly_brackets = refl

empty_brackets : goals (name (codes "[]")) ≡ alone (codes "[]") 0 ∷ []
empty_brackets = refl

-- constants aren't callable, also in brackets, where they themselves stand

a_number : goals (number 7) ≡ fault 7 ∷ []
a_number = refl

a_number_in_brackets : goals (round (round (number 7))) ≡ fault 7 ∷ []
a_number_in_brackets = refl

a_text : goals text ≡ fault 80 ∷ []
a_text = refl

-- control constructs

joined_goals : goals (with (codes ",") (a ∷ with (codes ";") (with (codes "->") (b ∷ d ∷ []) ∷ with (codes "|") (a ∷ b ∷ []) ∷ []) ∷ []))
    ≡ alone (codes "a") 0 ∷ alone (codes "b") 0 ∷ alone (codes "d") 0 ∷ alone (codes "a") 0 ∷ alone (codes "b") 0 ∷ []
joined_goals = refl

negated_goal : goals (with (codes "\\+") (round a ∷ [])) ≡ alone_negated (codes "a") 0 ∷ []
negated_goal = refl

-- all within is negated, also what a negation within it negates, and nothing behind it
all_negated : goals (with (codes ",") (with (codes "\\+") (with (codes ";") (a ∷ with (codes "\\+") (b ∷ []) ∷ []) ∷ []) ∷ d ∷ []))
    ≡ alone_negated (codes "a") 0 ∷ alone_negated (codes "b") 0 ∷ alone (codes "d") 0 ∷ []
all_negated = refl

negated_call : goals (with (codes "\\+") (with (codes "call") (a ∷ var ∷ []) ∷ [])) ≡ calls_negated (codes "call") 2 ∷ alone_negated (codes "a") 1 ∷ []
negated_call = refl

negated_in_a_module : goals (with (codes ":") (name (codes "m") ∷ with (codes "\\+") (a ∷ []) ∷ [])) ≡ call 1 (codes "m") (codes "a") 0 0 true ∷ []
negated_in_a_module = refl

-- `not` is a predicate, which takes a goal
goal_of_not : goals (with (codes "not") (a ∷ [])) ≡ calls (codes "not") 1 ∷ alone (codes "a") 0 ∷ []
goal_of_not = refl

-- with an argument added, `\+` is a predicate too
negation_called : goals (with (codes "call") (with (codes "\\+") (a ∷ []) ∷ var ∷ [])) ≡ calls (codes "call") 2 ∷ calls_with (codes "\\+") 2 1 ∷ []
negation_called = refl

a_comma_of_three : goals (with (codes ",") (a ∷ b ∷ d ∷ [])) ≡ calls (codes ",") 3 ∷ []
a_comma_of_three = refl

-- goals with added arguments

call_with_one : goals (with (codes "call") (a ∷ [])) ≡ calls (codes "call") 1 ∷ alone (codes "a") 0 ∷ []
call_with_one = refl

call_with_three : goals (with (codes "call") (with (codes "p") (a ∷ []) ∷ b ∷ d ∷ [])) ≡ calls (codes "call") 3 ∷ calls_with (codes "p") 3 2 ∷ []
call_with_three = refl

call_of_a_comma : goals (with (codes "call") (round (with (codes ",") (a ∷ b ∷ [])) ∷ d ∷ [])) ≡ calls (codes "call") 2 ∷ calls_with (codes ",") 3 1 ∷ []
call_of_a_comma = refl

call_of_a_number : goals (with (codes "call") (number 9 ∷ a ∷ [])) ≡ calls (codes "call") 2 ∷ fault 9 ∷ []
call_of_a_number = refl

maplist_over_a_list : goals (with (codes "maplist") (a ∷ var ∷ var ∷ [])) ≡ calls (codes "maplist") 3 ∷ alone_with (codes "a") 2 ∷ []
maplist_over_a_list = refl

call_of_a_maplist : goals (with (codes "call") (with (codes "maplist") (a ∷ []) ∷ var ∷ [])) ≡ calls (codes "call") 2 ∷ calls_with (codes "maplist") 2 1 ∷ alone_with (codes "a") 1 ∷ []
call_of_a_maplist = refl

-- the first argument of `maplist` isn't written there
call_of_the_name : goals (with (codes "call") (name (codes "maplist") ∷ a ∷ var ∷ [])) ≡ calls (codes "call") 3 ∷ alone_with (codes "maplist") 2 ∷ []
call_of_the_name = refl

-- other predicates that take goals

find_all : goals (with (codes "findall") (a ∷ b ∷ d ∷ [])) ≡ calls (codes "findall") 3 ∷ alone (codes "b") 0 ∷ []
find_all = refl

find_all_with_a_tail : goals (with (codes "findall") (a ∷ b ∷ d ∷ var ∷ [])) ≡ calls (codes "findall") 4 ∷ alone (codes "b") 0 ∷ []
find_all_with_a_tail = refl

bag_of : goals (with (codes "bagof") (var ∷ with (codes "^") (var ∷ round (with (codes "^") (var ∷ with (codes "p") (var ∷ []) ∷ [])) ∷ []) ∷ var ∷ []))
    ≡ calls (codes "bagof") 3 ∷ calls (codes "p") 1 ∷ []
bag_of = refl

set_of_a_comma : goals (with (codes "setof") (var ∷ round (with (codes "^") (var ∷ round (with (codes ",") (a ∷ b ∷ [])) ∷ [])) ∷ var ∷ []))
    ≡ calls (codes "setof") 3 ∷ alone (codes "a") 0 ∷ alone (codes "b") 0 ∷ []
set_of_a_comma = refl

-- behind a goal `^` is a predicate
set_of_another_module : goals (with (codes "setof") (var ∷ with (codes ":") (name (codes "m") ∷ with (codes "^") (var ∷ a ∷ []) ∷ []) ∷ var ∷ []))
    ≡ calls (codes "setof") 3 ∷ call 2 (codes "m") (codes "^") 2 0 false ∷ []
set_of_another_module = refl

for_all : goals (with (codes "forall") (a ∷ b ∷ [])) ≡ calls (codes "forall") 2 ∷ alone (codes "a") 0 ∷ alone (codes "b") 0 ∷ []
for_all = refl

catch_goals : goals (with (codes "catch") (a ∷ b ∷ d ∷ [])) ≡ calls (codes "catch") 3 ∷ alone (codes "a") 0 ∷ alone (codes "d") 0 ∷ []
catch_goals = refl

phrase_of_two : goals (with (codes "phrase") (a ∷ var ∷ [])) ≡ calls (codes "phrase") 2 ∷ alone_with (codes "a") 2 ∷ []
phrase_of_two = refl

phrase_of_three : goals (with (codes "phrase") (curly a (at 4) ∷ var ∷ var ∷ [])) ≡ calls (codes "phrase") 3 ∷ alone (codes "a") 0 ∷ []
phrase_of_three = refl

initial_goal : goals (with (codes "initialization") (a ∷ [])) ≡ calls (codes "initialization") 1 ∷ alone (codes "a") 0 ∷ []
initial_goal = refl

initial_goal_when : goals (with (codes "initialization") (a ∷ a ∷ [])) ≡ calls (codes "initialization") 2 ∷ alone (codes "a") 0 ∷ []
initial_goal_when = refl

-- goals of other modules

goal_of_a_module : goals (with (codes ":") (name (codes "m") ∷ with (codes ",") (a ∷ with (codes "call") (b ∷ var ∷ []) ∷ []) ∷ []))
    ≡ call 1 (codes "m") (codes "a") 0 0 false ∷ call 2 (codes "m") (codes "call") 2 0 false ∷ call 1 (codes "m") (codes "b") 1 1 false ∷ []
goal_of_a_module = refl

goal_of_a_module_in_brackets : goals (with (codes ":") (round (name (codes "m")) ∷ round a ∷ [])) ≡ call 1 (codes "m") (codes "a") 0 0 false ∷ []
goal_of_a_module_in_brackets = refl

goal_of_a_variable : goals (with (codes ":") (round var ∷ number 7 ∷ [])) ≡ []
goal_of_a_variable = refl

goal_of_a_number : goals (with (codes ":") (round (number 5) ∷ number 7 ∷ [])) ≡ fault 5 ∷ []
goal_of_a_number = refl

added_to_a_module : goals (with (codes "call") (with (codes ":") (name (codes "m") ∷ a ∷ []) ∷ var ∷ [])) ≡ calls (codes "call") 2 ∷ call 1 (codes "m") (codes "a") 1 1 false ∷ []
added_to_a_module = refl

-- grammar bodies

silent_parts : grammar (with (codes ",") (text ∷ with (codes ",") (name (codes "[]") ∷ with (codes ";") (name (codes "{}") ∷ name (codes "!") ∷ []) ∷ []) ∷ [])) ≡ []
silent_parts = refl

terminals : grammar (with (codes "|") (listed (trees_from (a ∷ [])) (at 4) ∷ constant BackStr false None (at 5) ∷ [])) ≡ []
terminals = refl

a_grammar_number : grammar (round (number 6)) ≡ fault 6 ∷ []
a_grammar_number = refl

a_grammar_float : grammar (constant Float true None (at 8)) ≡ fault 8 ∷ []
a_grammar_float = refl

two_added : grammar (with (codes "->") (a ∷ with (codes "p") (var ∷ []) ∷ [])) ≡ alone_with (codes "a") 2 ∷ calls_with (codes "p") 3 2 ∷ []
two_added = refl

negated_body : grammar (with (codes "\\+") (a ∷ [])) ≡ alone_negated (codes "a") 2 ∷ []
negated_body = refl

goal_in_a_body : grammar (curly (with (codes ",") (a ∷ number 6 ∷ [])) (at 4)) ≡ alone (codes "a") 0 ∷ fault 6 ∷ []
goal_in_a_body = refl

body_of_a_module : grammar (with (codes ":") (name (codes "m") ∷ with (codes ",") (a ∷ text ∷ []) ∷ [])) ≡ call 1 (codes "m") (codes "a") 2 2 false ∷ []
body_of_a_module = refl

call_in_a_body : grammar (with (codes "call") (a ∷ b ∷ [])) ≡ calls_with (codes "call") 4 2 ∷ alone_with (codes "a") 3 ∷ []
call_in_a_body = refl

phrase_in_a_body : grammar (with (codes "phrase") (text ∷ [])) ≡ calls_with (codes "phrase") 3 2 ∷ []
phrase_in_a_body = refl

-- places by themselves: a part of a goal, and no part of a variable

second_side : IsPart plain_rows (codes "user") goal_role (with (codes ",") (a ∷ b ∷ [])) (place (codes "user") goal_role b)
second_side = record { i = 1; argument = refl; in_module = refl; stands = refl }

plain_argument : IsPart plain_rows (codes "user") goal_role (with (codes "p") (a ∷ [])) (place (codes "user") (body_role Plain) a)
plain_argument = record { i = 0; argument = refl; in_module = refl; stands = refl }

met_behind_a_caret : IsMet plain_rows (place (codes "user") (body_role Caret) (with (codes "^") (var ∷ a ∷ []))) (alone (codes "a") 0)
met_behind_a_caret = record {
  at = place (codes "user") (body_role Caret) a;
  stands = record { path = place (codes "user") (body_role Caret) a ∷ []; leads = (record { i = 1; argument = refl; in_module = refl; stands = refl }, refl) };
  met = refl;
}

no_part_of_a_variable : (q : Place) → IsPart plain_rows (codes "user") goal_role var q → ⊥
no_part_of_a_variable q is = is

-- bodies of clauses

body_of_a_rule : body_of (codes "user") (round (with (codes ":-") (a ∷ b ∷ []))) ≡ Some (place (codes "user") goal_role b)
body_of_a_rule = refl

-- what is pushed back stands in the head
body_of_a_grammar_rule : body_of (codes "user") (with (codes "-->") (with (codes ",") (a ∷ text ∷ []) ∷ b ∷ [])) ≡ Some (place (codes "user") grammar_role b)
body_of_a_grammar_rule = refl

no_body_of_a_fact : body_of (codes "user") (with (codes "p") (a ∷ b ∷ [])) ≡ None
no_body_of_a_fact = refl

number_as_a_body : IsMetInClause plain_rows (codes "user") (with (codes ":-") (a ∷ round (number 5) ∷ [])) (fault 5)
number_as_a_body = record {
  body = place (codes "user") goal_role (round (number 5));
  is = refl;
  met = record {
    at = place (codes "user") goal_role (number 5);
    stands = record { path = place (codes "user") goal_role (number 5) ∷ []; leads = (refl, refl) };
    met = refl;
  };
}

-- `p :- maplist(q, [a]), setof(X, Y^r(X, Y), L), M:s, m:s.`
four_goals : goals
    (with (codes ",")
    (with (codes "maplist") (name (codes "q") ∷ listed (trees_from (a ∷ [])) (at 4) ∷ [])
    ∷ with (codes ",")
    (with (codes "setof") (var ∷ with (codes "^") (var ∷ with (codes "r") (var ∷ var ∷ []) ∷ []) ∷ var ∷ [])
    ∷ with (codes ",") (with (codes ":") (var ∷ name (codes "s") ∷ []) ∷ with (codes ":") (name (codes "m") ∷ name (codes "s") ∷ []) ∷ []) ∷ []) ∷ []))
    ≡ calls (codes "maplist") 2 ∷ alone_with (codes "q") 1 ∷ calls (codes "setof") 3 ∷ calls (codes "r") 2 ∷ call 1 (codes "m") (codes "s") 0 0 false ∷ []
four_goals = refl

-- `greeting --> [hello], name, { log(x) }.`
greeting : grammar
    (with (codes ",")
    (listed (trees_from (name (codes "hello") ∷ [])) (at 4) ∷ with (codes ",") (name (codes "name") ∷ curly (with (codes "log") (name (codes "x") ∷ [])) (at 5) ∷ []) ∷ []))
    ≡ alone_with (codes "name") 2 ∷ calls (codes "log") 1 ∷ []
greeting = refl

-- arguments that are declared: `each(1, ?)`, `t(0)`, `set(^)`, `body(//)`, and `call(0, ?)`, which the table knows too

abbrev declaring : Rows
declaring owner own arity =
    if bytes_eq own (codes "each") && arity == 2 then as_declared (Goal 1 ∷ Plain ∷ [])
    else if bytes_eq own (codes "t") && arity == 1 then as_declared (Goal 0 ∷ [])
    else if bytes_eq own (codes "set") && arity == 1 then as_declared (Caret ∷ [])
    else if bytes_eq own (codes "body") && arity == 1 then as_declared (Grammar ∷ [])
    else if bytes_eq own (codes "call") && arity == 2 then as_declared (Goal 0 ∷ Plain ∷ [])
    else by_table (row own arity)

abbrev declared_goals : Tree → List Met
declared_goals tree = mets_in declaring (codes "user") goal_role tree

-- `p(L) :- each(show, L).`
each_shown : declared_goals (with (codes "each") (name (codes "show") ∷ var ∷ [])) ≡ calls (codes "each") 2 ∷ alone_with (codes "show") 1 ∷ []
each_shown = refl

-- `p :- t(3).`
number_as_declared_goal : declared_goals (with (codes "t") (number 7 ∷ [])) ≡ calls (codes "t") 1 ∷ fault 7 ∷ []
number_as_declared_goal = refl

-- `p :- m:each(show, L).`
each_of_a_module : declared_goals (with (codes ":") (name (codes "m") ∷ with (codes "each") (name (codes "show") ∷ var ∷ []) ∷ []))
    ≡ call 2 (codes "m") (codes "each") 2 0 false ∷ call 1 (codes "m") (codes "show") 1 1 false ∷ []
each_of_a_module = refl

-- `p :- maplist(each(show), L).`: the first argument of `each/2` is written
each_called : declared_goals (with (codes "maplist") (with (codes "each") (name (codes "show") ∷ []) ∷ var ∷ []))
    ≡ calls (codes "maplist") 2 ∷ calls_with (codes "each") 2 1 ∷ alone_with (codes "show") 1 ∷ []
each_called = refl

behind_declared_carets : declared_goals (with (codes "set") (with (codes "^") (number 5 ∷ round (with (codes "^") (var ∷ with (codes ",") (a ∷ b ∷ []) ∷ [])) ∷ []) ∷ []))
    ≡ calls (codes "set") 1 ∷ alone (codes "a") 0 ∷ alone (codes "b") 0 ∷ []
behind_declared_carets = refl

declared_body : declared_goals (with (codes "body") (with (codes ",") (a ∷ curly b (at 4) ∷ []) ∷ [])) ≡ calls (codes "body") 1 ∷ alone_with (codes "a") 2 ∷ alone (codes "b") 0 ∷ []
declared_body = refl

-- the table isn't used
call_as_declared : declared_goals (with (codes "call") (a ∷ b ∷ [])) ≡ calls (codes "call") 2 ∷ alone (codes "a") 0 ∷ []
call_as_declared = refl

-- calls with the places of their goals

abbrev placed : ℕ → ℕ → ℕ → List ℕ → Option ℕ → CallAt
placed file offset caller own means = record {
  file = file;
  offset = offset;
  caller = caller;
  callee = pred_name (codes "user") own 0;
  added = 0;
  negated = false;
  means = means;
}

a_call_placed : call_to (Some 4) 2 0 (call 7 (codes "user") (codes "q") 0 0 false) ≡ Some (placed 2 7 0 (codes "q") (Some 4))
a_call_placed = refl

a_fault_is_no_call : call_to None 2 0 (fault 7) ≡ None
a_fault_is_no_call = refl

-- by file, offset, caller, name, how many arguments are added, and whether it is negated, in this order
by_file_first : call_cmp (placed 1 9 9 (codes "b") None) (placed 2 3 0 (codes "a") None) ≡ Less
by_file_first = refl

then_by_offset : call_cmp (placed 1 3 9 (codes "b") None) (placed 1 9 0 (codes "a") None) ≡ Less
then_by_offset = refl

then_by_caller : call_cmp (placed 1 3 0 (codes "b") None) (placed 1 3 9 (codes "a") None) ≡ Less
then_by_caller = refl

then_by_name : call_cmp (placed 1 3 0 (codes "b") None) (placed 1 3 0 (codes "a") None) ≡ Greater
then_by_name = refl

then_by_added : call_cmp (placed 1 3 0 (codes "a") None) (record (placed 1 3 0 (codes "a") None) { added = 1 }) ≡ Less
then_by_added = refl

negated_last : call_cmp (record (placed 1 3 0 (codes "a") None) { negated = true }) (placed 1 3 0 (codes "a") None) ≡ Greater
negated_last = refl

-- a list has a call if one of its calls is the same in all parts
a_call_there : has_call (placed 1 3 0 (codes "a") None ∷ placed 1 9 0 (codes "b") (Some 2) ∷ []) (placed 1 9 0 (codes "b") (Some 2)) ≡ true
a_call_there = refl

of_another_callee : has_call (placed 1 9 0 (codes "b") (Some 2) ∷ []) (placed 1 9 0 (codes "b") None) ≡ false
of_another_callee = refl

negated_only_there : has_call (placed 1 9 0 (codes "b") None ∷ []) (record (placed 1 9 0 (codes "b") None) { negated = true }) ≡ false
negated_only_there = refl

at_another_place : has_call (placed 1 9 0 (codes "b") (Some 2) ∷ []) (placed 1 8 0 (codes "b") (Some 2)) ≡ false
at_another_place = refl
