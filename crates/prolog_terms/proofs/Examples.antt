-- What some words are by those that follow them, and what some trees are.
use Rattle.std.proofs.Common.{◌≡◌, ℕ, ◌+◌, true, false, List, [], ◌∷◌, Some, None, refl, codes, arith}
use Rattle.prolog_tokens.specs.declared.token.Kind.{Kind}
use Rattle.prolog_tokens.specs.declared.token.Kind.TheVariants.{Name, Quoted, Integer, OpenRound, CloseRound, OpenSquare, CloseSquare, Comma, Bar, End}
use Rattle.prolog_ops.specs.Table.{opening}
use Rattle.prolog_terms.specs.declared.term.Span.{Span}
use Rattle.prolog_terms.specs.declared.term.Form.TheVariants.{Functional, Infix}
use Rattle.prolog_terms.specs.Grammar.{Parse, GroupStart, square, leaf, bare, group, tailed as with_tail, prefixed, infixed, one, more as more_parts, IsAboveSpine, IsClause, parse_depth}
use Rattle.prolog_terms.specs.Tree.{Tree, atom, compound, listed, tailed, paren, none, more, depth}
use Rattle.prolog_terms.specs.Views.{start_of, sides_of, joined, name_and_arity, name_and_args, atom_name}
use Rattle.prolog_terms.specs.Weight.{weight}
use Rattle.prolog_terms.specs.Words.{Word, Table, table_of, is_atom, is_prefix, is_functor, is_negative}

abbrev at : ℕ → Span
at from = record { from = from; to = from + 1 }

-- a word with layout before it, or directly behind the one before
abbrev apart : Kind → List ℕ → Word
apart kind text = record { kind = kind; text = text; value = None; after_layout = true; span = at 0 }

abbrev close_by : Kind → List ℕ → Word
close_by kind text = record { kind = kind; text = text; value = None; after_layout = false; span = at 0 }

abbrev T : Table
T = table_of opening

abbrev minus : Word
minus = apart Name (codes "-")

-- `- x`: a prefix operator
before_a_name : is_prefix T minus (apart Name (codes "x") ∷ []) ≡ true
before_a_name = refl

-- `- = x`: an atom, since an infix operator follows that is no prefix operator
before_an_operator : is_atom T minus (apart Name (codes "=") ∷ apart Name (codes "x") ∷ []) ≡ true
before_an_operator = refl

-- `- =(x)`: a prefix operator again
before_a_functor : is_prefix T minus (apart Name (codes "=") ∷ close_by OpenRound [] ∷ apart Name (codes "x") ∷ []) ≡ true
before_a_functor = refl

-- `-)`: an atom, since no term begins there
before_a_bracket : is_atom T minus (close_by CloseRound [] ∷ []) ≡ true
before_a_bracket = refl

-- `-(`: a functor, and no prefix operator
before_its_bracket : is_functor minus (close_by OpenRound [] ∷ []) ≡ true
before_its_bracket = refl

no_operator : is_prefix T minus (close_by OpenRound [] ∷ []) ≡ false
no_operator = refl

-- `-1` is a negative number, but neither `- 1` nor `'-'1`
negative : is_negative minus (close_by Integer [] ∷ []) ≡ true
negative = refl

spaced : is_negative minus (apart Integer [] ∷ []) ≡ false
spaced = refl

between_quotes : is_negative (apart Quoted (codes "-")) (close_by Integer [] ∷ []) ≡ false
between_quotes = refl

-- a Quoted comma is no operator, and the Comma is one
quoted_comma : T.infix_ (apart Quoted (codes ",")) ≡ None
quoted_comma = refl

comma : T.infix_ (apart Comma []) ≡ Some (record { priority = 1000; left = 999; right = 1000 })
comma = refl

-- `a = b` is a clause, and its depth is 2

abbrev end : Word
end = close_by End []

abbrev equals : Word
equals = apart Name (codes "=")

abbrev equation : Parse
equation = infixed (bare (apart Name (codes "a"))) equals (bare (apart Name (codes "b")))

equation_is_a_clause : IsClause T equation end
equation_is_a_clause = record { kept = (refl, refl, refl, omega arith, omega arith, tt); within = omega arith; ends = refl }

equation_depth : parse_depth equation ≡ 2
equation_depth = refl

leaf_depth : parse_depth (leaf (apart Integer [])) ≡ 1
leaf_depth = refl

-- `[a, a]` is no deeper than `[a]`, and a tail counts
abbrev opening_square : GroupStart
opening_square = square (apart OpenSquare [])

abbrev a_word : Parse
a_word = bare (apart Name (codes "a"))

list_depth : parse_depth (group opening_square (more_parts (one a_word) (close_by Comma []) a_word) (close_by CloseSquare [])) ≡ 2
list_depth = refl

tail_depth : parse_depth (with_tail (apart OpenSquare []) (one a_word) (close_by Bar []) equation (close_by CloseSquare [])) ≡ 3
tail_depth = refl

-- `a = b = c` is none: neither side takes an equation
equation_on_the_left : IsClause T (infixed equation equals (bare (apart Name (codes "c")))) end → ⊥
equation_on_the_left clause = omega (arith, clause.kept.3)

equation_on_the_right : IsClause T (infixed (bare (apart Name (codes "c"))) equals equation) end → ⊥
equation_on_the_right clause = omega (arith, clause.kept.4)

-- `- a + b`: the sum of `- a` and `b`, since a right side goes as far as it can
sum_in_a_minus : IsAboveSpine T 500 (prefixed minus (bare (apart Name (codes "a"))))
sum_in_a_minus = (omega arith, tt)

-- `\+ a, b`: no tree whose `\+` takes less than it can, as `(\+ a) = b`
operand_too_short : IsAboveSpine T 700 (prefixed (apart Name (codes "\\+")) (bare (apart Name (codes "a")))) → ⊥
operand_too_short above = omega (arith, above.0)

-- no word but an End ends a clause
no_end : IsClause T equation (close_by CloseRound []) → ⊥
no_end clause = let two : CloseRound ≡ End = clause.ends in cc

-- depths of trees

abbrev a : Tree
a = atom (codes "a") (at 0)

abbrev f : Tree → Tree → Tree
f left right = compound (codes "f") (more left (more right none)) Functional (at 0)

flat_list : depth (listed (more a (more a (more a none))) (at 0)) ≡ 2
flat_list = refl

deep_argument : depth (f a (f a a)) ≡ 3
deep_argument = refl

bracket : depth (paren a (at 0)) ≡ 2
bracket = refl

-- brackets are passed through

abbrev b : Tree
b = atom (codes "b") (at 2)

abbrev joins : Tree → Tree → Tree
joins left right = compound (codes ",") (more left (more right none)) Infix (at 0)

starts_inside : start_of (paren b (at 0)) ≡ 2
starts_inside = refl

bracketed_sides : sides_of (codes ",") (paren (paren (joins a b) (at 0)) (at 0)) ≡ Some (a, b)
bracketed_sides = refl

another_name : sides_of (codes ";") (joins a b) ≡ None
another_name = refl

bracketed_on_the_left : joined (joins (paren (joins a b) (at 0)) (f a b)) ≡ a ∷ b ∷ f a b ∷ []
bracketed_on_the_left = refl

atom_named : name_and_arity (paren a (at 0)) ≡ Some (record { name = codes "a"; arity = 0 })
atom_named = refl

compound_named : name_and_arity (f a b) ≡ Some (record { name = codes "f"; arity = 2 })
compound_named = refl

list_without_name : name_and_arity (listed (more a none) (at 0)) ≡ None
list_without_name = refl

-- an atom has no arguments

atom_parted : name_and_args (paren a (at 0)) ≡ Some (record { name = codes "a"; args = none })
atom_parted = refl

compound_parted : name_and_args (paren (f a b) (at 0)) ≡ Some (record { name = codes "f"; args = more a (more b none) })
compound_parted = refl

list_not_parted : name_and_args (listed (more a none) (at 0)) ≡ None
list_not_parted = refl

no_atom : atom_name (f a b) ≡ None
no_atom = refl

-- `f(a, [a, a|a])` weighs 5: two arguments, two items and a tail
weight_with_a_tail : weight (f a (tailed (more a (more a none)) a (at 0))) ≡ 5
weight_with_a_tail = refl

weight_of_brackets : weight (paren a (at 0)) ≡ 1
weight_of_brackets = refl
