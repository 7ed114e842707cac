-- The words of a clause, and the operators among them.
use Rattle.std.specs.Prelude.{ℕ, ◌-◌, Bool, true, false, not, ◌&&◌, ◌||◌, List, [], ◌∷◌, Option, Some, None, is_some, option_map, codes, if◌then◌else◌}
use Rattle.std.specs.Str.{bytes_eq}
use Rattle.prolog_tokens.specs.declared.token.Kind.{Kind}
use Rattle.prolog_tokens.specs.declared.token.Kind.TheVariants.{Name, Quoted, Variable, Integer, Float, Str, BackStr, OpenRound, OpenSquare}
use Rattle.prolog_tokens.specs.declared.token.Kind.TheVariants.{OpenCurly, Comma, Bar}
use Rattle.prolog_names.specs.Numbers.{has_name}
use Rattle.prolog_ops.specs.Table.{Ops, Prefix, Infix, Postfix}
use Rattle.prolog_ops.specs.declared.op.Op.{Op}
use Rattle.prolog_ops.specs.declared.op.OpKind.{OpKind}
use Rattle.prolog_ops.specs.declared.op.OpKind.TheVariants.{Xfx, Xfy, Yfx, Fy, Fx, Xf, Yf}
pub use Rattle.prolog_terms.specs.declared.operator_sides.Sides.{Sides}
use Rattle.prolog_terms.specs.declared.term.Span.{Span}

-- a token as terms see it: the text is the name of a Name or Quoted token, and empty for any other
pub record Word : Type 0 where
  pub kind : Kind
  pub after_layout : Bool
  pub span : Span
  pub value : Option ℕ
  pub text : List ℕ

abbrev pub is_name : Kind → Bool
is_name kind = has_name kind

abbrev pub is_unquoted : Kind → Bool
is_unquoted Name = true
is_unquoted _ = false

abbrev pub is_number : Kind → Bool
is_number Integer = true
is_number Float = true
is_number _ = false

-- a variable or a constant
abbrev pub is_leaf : Kind → Bool
is_leaf Variable = true
is_leaf Integer = true
is_leaf Float = true
is_leaf Str = true
is_leaf BackStr = true
is_leaf _ = false

abbrev pub is_open_round : Kind → Bool
is_open_round OpenRound = true
is_open_round _ = false

-- the kinds that can begin a term
abbrev pub begins_term : Kind → Bool
begins_term Name = true
begins_term Quoted = true
begins_term Variable = true
begins_term Integer = true
begins_term Float = true
begins_term Str = true
begins_term BackStr = true
begins_term OpenRound = true
begins_term OpenSquare = true
begins_term OpenCurly = true
begins_term _ = false

-- the unquoted name `-`
abbrev pub is_minus : Word → Bool
is_minus w = is_unquoted w.kind && bytes_eq w.text (codes "-")

-- an `x` side takes a lesser priority than the operator's, and a `y` side its own too
abbrev pub left_side : OpKind → ℕ → ℕ
left_side Xfx p = p - 1
left_side Xfy p = p - 1
left_side Yfx p = p
left_side Fy p = 0
left_side Fx p = 0
left_side Xf p = p - 1
left_side Yf p = p

abbrev pub right_side : OpKind → ℕ → ℕ
right_side Xfx p = p - 1
right_side Xfy p = p
right_side Yfx p = p - 1
right_side Fy p = p
right_side Fx p = p - 1
right_side Xf p = 0
right_side Yf p = 0

abbrev pub sides : Op → Sides
sides op = record { priority = op.priority; left = left_side op.kind op.priority; right = right_side op.kind op.priority }

-- which words are operators at each place
pub record Table : Type 0 where
  pub prefix : Word → Option Sides
  pub infix_ : Word → Option Sides
  pub postfix : Word → Option Sides

-- the operator of a word: a name is looked up as it is, but a name `,` or `|` isn't the operator of the Comma or Bar
abbrev pub kind_operator : (List ℕ → Option Op) → Kind → List ℕ → Option Op
kind_operator ops Name text = if bytes_eq text (codes ",") || bytes_eq text (codes "|") then None else ops text
kind_operator ops Quoted text = if bytes_eq text (codes ",") || bytes_eq text (codes "|") then None else ops text
kind_operator ops Comma text = ops (codes ",")
kind_operator ops Bar text = ops (codes "|")
kind_operator ops _ text = None

abbrev pub operator : (List ℕ → Option Op) → Word → Option Sides
operator ops w = option_map sides (kind_operator ops w.kind w.text)

-- the operator of a Name or Quoted token
abbrev pub named_operator : (List ℕ → Option Op) → List ℕ → Option Sides
named_operator ops text = option_map sides (kind_operator ops Name text)

abbrev pub table_of : Ops → Table
table_of ops = record { prefix = operator (ops Prefix); infix_ = operator (ops Infix); postfix = operator (ops Postfix) }

-- the sides of a word that is an operator
abbrev pub sides_of : Option Sides → Sides
sides_of (Some s) = s
sides_of None = record { priority = 0; left = 0; right = 0 }

-- what the next words say of a name

-- the next word is `(` with no layout before it
abbrev pub opens : List Word → Bool
opens [] = false
opens (w ∷ after) = is_open_round w.kind && not w.after_layout

-- the next word is a number with no layout before it
abbrev pub number_next : List Word → Bool
number_next [] = false
number_next (w ∷ after) = is_number w.kind && not w.after_layout

abbrev pub term_next : List Word → Bool
term_next [] = false
term_next (w ∷ after) = begins_term w.kind

-- the next word is a name that is an infix operator, no prefix operator, and not directly followed by `(`
abbrev pub infix_next : Table → List Word → Bool
infix_next T [] = false
infix_next T (w ∷ after) = is_name w.kind && is_some (T.infix_ w) && not (is_some (T.prefix w)) && not (opens after)

-- a prefix operator before these words is an atom: no term can begin there, or an infix operator does
abbrev pub atom_rule : Table → List Word → Bool
atom_rule T after = not (term_next after) || infix_next T after

-- what a name in an operand's place is, by the words after it

abbrev pub is_functor : Word → List Word → Bool
is_functor w after = is_name w.kind && opens after

-- the minus of a negative number
abbrev pub is_negative : Word → List Word → Bool
is_negative w after = is_minus w && number_next after

abbrev pub is_atom : Table → Word → List Word → Bool
is_atom T w after =
    is_name w.kind && not (opens after) && not (is_negative w after) && (not (is_some (T.prefix w)) || atom_rule T after)

abbrev pub is_prefix : Table → Word → List Word → Bool
is_prefix T w after =
    is_name w.kind && is_some (T.prefix w) && not (opens after) && not (is_negative w after) && not (atom_rule T after)
