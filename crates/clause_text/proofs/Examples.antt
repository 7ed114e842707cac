-- Clauses as words, operator items of some and what they do, where terms start, and stretches of tokens.
use Rattle.std.proofs.Common.{◌≡◌, ℕ, ◌+◌, ◌*◌, List, [], ◌∷◌, Some, Err, true, false, refl, inl, inr, codes, arith}
use Rattle.std.proofs.lemmas.Str.{IsUtf8-nil}
use Rattle.prolog_tokens.specs.declared.token.Kind.{Kind}
use Rattle.prolog_tokens.specs.declared.token.Kind.TheVariants.{Name, End}
use Rattle.prolog_tokens.specs.declared.token.Token.{Token}
use Rattle.prolog_ops.specs.Table.{opening}
use Rattle.prolog_terms.specs.declared.term.Span.{Span}
use Rattle.prolog_terms.specs.declared.term.Form.TheVariants.{Functional, Prefix, Infix}
use Rattle.prolog_terms.specs.declared.term.ConstKind.TheVariants.{Integer}
use Rattle.kept_clauses.specs.Words.{Kept}
use Rattle.prolog_terms.specs.Tree.{Tree, variable, constant, atom, compound, listed, tailed, paren, more, none}
use Rattle.clause_text.specs.declared.cause.Cause.TheVariants.{BadPriority, BadKind, BadName, FixedOp, InfixAndPostfix}
use Rattle.clause_text.specs.declared.fault.TextFault.TheVariants.{At}
use Rattle.clause_text.specs.Items.{Item, items_of, item_on, has_some}
use Rattle.std.specs.Arc.{arc_with_value}
use Rattle.clause_text.specs.declared.text_clauses.Clause.{Clause}
use Rattle.clause_text.specs.Clauses.{clause_trees, total_weight}
use Rattle.clause_text.specs.Offsets.{HasOffsets}
use Rattle.clause_text.specs.Pieces.{IsBehindClause, AreStretches}

abbrev at : ℕ → Span
at from = record { from = from; to = from + 1 }

abbrev number : ℕ → ℕ → Tree
number value from = constant Integer false (Some value) (at from)

abbrev op : Tree → Tree → Tree → Tree
op priority kind names = compound (codes "op") (more priority (more kind (more names none))) Functional (at 3)

abbrev one_item : Tree → Tree → Tree → Item
one_item priority kind names = record { priority = priority; kind = kind; names = names }

abbrev word : List ℕ → ℕ → Tree
word name from = atom name (at from)

-- `p. q(X) :- p.` as words, whose names are the second and the third of a list: the heads of a fact and of a rule, a call, and the ends of both
abbrev named : ℕ → ℕ → ℕ → ℕ → ℕ
named bits number from arity = ((number * 8388608 + from) * 64 + arity) * 8 + bits

abbrev both_clauses : Kept
both_clauses = (named 2 1 0 0 ∷ (1 * 8 + 6) ∷ named 4 2 3 1 ∷ named 0 1 11 0 ∷ (12 * 8 + 6) ∷ [], [])

-- one of them from its head on, whatever points at them
abbrev begins_at : Clause → ℕ → Clause
begins_at any word = record { list = arc_with_value any.list both_clauses; at = word }

clauses_there : (any : Clause) → clause_trees ([] ∷ codes "p" ∷ codes "q" ∷ []) (begins_at any 0 ∷ begins_at any 2 ∷ [])
    ≡ atom (codes "p") (record { from = 0; to = 1 })
    ∷ compound (codes ":-")
    (more (compound (codes "q") (more (variable (record { from = 0; to = 0 })) none) Functional (record { from = 0; to = 0 }))
    (more (atom (codes "p") (record { from = 11; to = 11 })) none)) Infix (record { from = 3; to = 12 }) ∷ []
clauses_there any = refl

-- `:- op(700, xfx, eq)`, and `?-` and brackets alike
law_1 : items_of (compound (codes ":-") (more (op (number 700 6) (word (codes "xfx") 11) (word (codes "eq") 16)) none) Prefix (at 0))
    ≡ one_item (number 700 6) (word (codes "xfx") 11) (word (codes "eq") 16) ∷ []
law_1 = refl

law_2 : items_of (paren (compound (codes "?-") (more (paren (op (number 700 6) (word (codes "xfx") 11) (word (codes "eq") 16)) (at 2)) none) Prefix (at 1)) (at 0))
    ≡ one_item (number 700 6) (word (codes "xfx") 11) (word (codes "eq") 16) ∷ []
law_2 = refl

-- a fact has none
law_3 : items_of (op (number 700 6) (word (codes "xfx") 11) (word (codes "eq") 16)) ≡ []
law_3 = refl

-- `:- p, module(m, [q, (op(1, xfx, eq))|T])`: under a comma, in a list with a tail and in brackets
law_4 : items_of (compound (codes ":-") (more (compound (codes ",") (more (word (codes "p") 3) (more (compound (codes "module") (more (word (codes "m") 13)
    (more (tailed (more (word (codes "q") 17) (more (paren (op (number 1 24) (word (codes "xfx") 27) (word (codes "eq") 32)) (at 20)) none)) (variable (at 37)) (at 16)) none)) Functional (at 6)) none))
    Infix (at 3)) none) Prefix (at 0))
    ≡ one_item (number 1 24) (word (codes "xfx") 27) (word (codes "eq") 32) ∷ []
law_4 = refl

-- a priority over 1,200, then another kind, then no name, then a name that is fixed, then one that is infix
law_5 : item_on (one_item (paren (number 1201 7) (at 6)) (word (codes "k") 13) (variable (at 16))) opening ≡ Err (At BadPriority 7)
law_5 = refl

law_6 : item_on (one_item (number 1200 6) (word (codes "k") 12) (variable (at 15))) opening ≡ Err (At BadKind 12)
law_6 = refl

law_7 : item_on (one_item (number 700 6) (word (codes "xf") 11) (listed (more (word (codes "[]") 16) (more (variable (at 20)) none)) (at 15))) opening ≡ Err (At BadName 15)
law_7 = refl

law_8 : item_on (one_item (number 700 6) (word (codes "xf") 11) (word (codes "[]") 15)) opening ≡ Err (At FixedOp 15)
law_8 = refl

law_9 : item_on (one_item (number 700 6) (word (codes "xf") 11) (word (codes "is") 15)) opening ≡ Err (At InfixAndPostfix 15)
law_9 = refl

-- `p. q(r, [s, t]).`: the four terms within the second clause, and two for each clause
weights : total_weight (word (codes "p") 0 ∷ compound (codes "q") (more (word (codes "r") 5) (more (listed (more (word (codes "s") 9) (more (word (codes "t") 12) none)) (at 8)) none)) Functional (at 3) ∷ []) ≡ 8
weights = refl

-- a term that starts in the text, and some that start or have a part behind its end
starts_first : HasOffsets (codes "p") (word (codes "p") 0)
starts_first = record { within = omega arith; utf8 = IsUtf8-nil }

part_at_the_start : HasOffsets (codes "p") (paren (word (codes "p") 0) (at 0))
part_at_the_start = (record { within = omega arith; utf8 = IsUtf8-nil }, record { within = omega arith; utf8 = IsUtf8-nil })

starts_behind : HasOffsets (codes "p") (word (codes "p") 2) → ⊥
starts_behind starts = omega (arith, starts.within)

part_behind : HasOffsets (codes "p") (paren (word (codes "p") 2) (at 0)) → ⊥
part_behind starts = omega (arith, starts.1.within)

-- `op(1, xfx, eq)` without `:-` has no items, and a directive with it has some
no_item : has_some (items_of (op (number 1 3) (word (codes "xfx") 6) (word (codes "eq") 11))) ≡ false
no_item = refl

some_item : has_some (items_of (compound (codes ":-") (more (op (number 1 6) (word (codes "xfx") 9) (word (codes "eq") 14)) none) Prefix (at 0))) ≡ true
some_item = refl

-- the tokens of `p. q.`, as two stretches or as one, and none ends behind `p`
abbrev token_of : Kind → ℕ → Token
token_of kind start = record { kind = kind; after_layout = false; start = start; end = start + 1 }

abbrev tokens_there : List Token
tokens_there = token_of Name 0 ∷ token_of End 1 ∷ token_of Name 3 ∷ token_of End 4 ∷ []

behind_first : IsBehindClause tokens_there 2
behind_first = record { within = omega arith; stops = inl refl }

behind_last : IsBehindClause tokens_there 4
behind_last = record { within = omega arith; stops = inl refl }

behind_none : IsBehindClause tokens_there 1 → ⊥
behind_none behind = elim behind.stops [
  | inl stops ↦ let both : Some Name ≡ Some End = stops in cc
  | inr last ↦ let both : 1 ≡ 4 = last in cc
]

two_stretches : AreStretches tokens_there 0 (record { from = 0; to = 2 } ∷ record { from = 2; to = 4 } ∷ []) 4
two_stretches = (refl, record { some = omega arith; ends = behind_first }, (refl, record { some = omega arith; ends = behind_last }, refl))

one_stretch : AreStretches tokens_there 0 (record { from = 0; to = 4 } ∷ []) 4
one_stretch = (refl, record { some = omega arith; ends = behind_last }, refl)
