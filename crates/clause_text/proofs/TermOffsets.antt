-- Each term of a clause starts at an offset of its text.
use Rattle.std.proofs.Common.{ℕ, List, [], ◌∷◌, ◌++◌, Option, sym, ap, subst, arith}
use Rattle.std.specs.Str.{IsUtf8}
use Rattle.std.proofs.lemmas.Str.{IsUtf8-take}
use Rattle.prolog_tokens.specs.declared.token.Kind.{Kind}
use Rattle.prolog_tokens.specs.declared.token.Kind.TheVariants.{Integer, Float, Str, BackStr, OpenCurly}
use Rattle.prolog_tokens.specs.declared.token.Token.{Token}
use Rattle.prolog_tokens.specs.Cut.{IsTokenOf}
use Rattle.prolog_tokens.specs.Places.{IsOffset}
use Rattle.prolog_tokens.proofs.Names.{token_from}
use Rattle.prolog_tokens.proofs.OneToken.{token_some, token_within}
use Rattle.prolog_ops.specs.Table.{Ops}
use Rattle.prolog_terms.specs.declared.term.Span.{Span}
use Rattle.prolog_terms.specs.Tree.{Tree, Trees, variable, constant, atom, compound, listed, tailed as with_tail, curly, paren, none, more as with_more, span_of}
use Rattle.prolog_terms.specs.Views.{inside, start_of}
use Rattle.prolog_terms.specs.Words.{table_of}
use Rattle.prolog_terms.specs.Words.{Word}
use Rattle.prolog_terms.specs.Grammar.{Parse, Parts, call, square, leaf, negative, bare, pair, group, tailed, wrapped, prefixed, infixed, postfixed, one, more, yield, parts_yield}
use Rattle.prolog_terms.specs.Clause.{AreWords, IsClauseOf, leaf_tree, negative_tree, wrapped_tree, trees_more, tree_from, trees_of, from_of}
use Rattle.prolog_terms.proofs.TokenWords.{AreSpelled}
use Rattle.clause_text.specs.Offsets.{HasOffsets, HaveOffsets}

token_offset : (text : List ℕ) (t : Token) → IsUtf8 text → IsTokenOf text t → IsOffset text t.start
token_offset text t utf8 spelled = record {
  within = omega (arith, token_some text t.start t.end t.kind spelled.spells, token_within text t.start t.end t.kind spelled.spells);
  utf8 = IsUtf8-take text t.start utf8 (token_from text t.start t.end t.kind spelled.spells);
}

-- each of the words starts at an offset
abbrev WordsStand : List ℕ → List Word → Type 0
WordsStand text [] = Unit {0}
WordsStand text (w ∷ ws) = IsOffset text w.span.from × WordsStand text ws

words_stand : (text : List ℕ) (ts : List Token) (ws : List Word) → IsUtf8 text → AreSpelled text ts → AreWords text ts ws → WordsStand text ws
words_stand text [] [] utf8 spelled are = tt
words_stand text [] (w ∷ ws) utf8 spelled are = absurd are
words_stand text (t ∷ ts) [] utf8 spelled are = absurd are
words_stand text (t ∷ ts) (w ∷ ws) utf8 spelled are = (
  subst (IsOffset text) (sym (ap (λ (span : Span). span.from) are.0.span)) (token_offset text t utf8 spelled.0),
  words_stand text ts ws utf8 spelled.1 are.1,
)

front : (text : List ℕ) (us vs : List Word) → WordsStand text (us ++ vs) → WordsStand text us
front text [] vs stand = tt
front text (u ∷ us) vs stand = (stand.0, front text us vs stand.1)

behind : (text : List ℕ) (us vs : List Word) → WordsStand text (us ++ vs) → WordsStand text vs
behind text [] vs stand = stand
behind text (u ∷ us) vs stand = behind text us vs stand.1

stand_more : (text : List ℕ) (trees : Trees) (last : Tree) → HaveOffsets text trees → HasOffsets text last → HaveOffsets text (trees_more trees last)
stand_more text none last all stands = (stands, tt)
stand_more text (with_more tree trees) last all stands = (all.0, stand_more text trees last all.1 stands)

leaf_stands : (text : List ℕ) (k : Kind) (value : Option ℕ) (span : Span) → IsOffset text span.from → HasOffsets text (leaf_tree k value span)
leaf_stands text Integer value span at = at
leaf_stands text Float value span at = at
leaf_stands text Str value span at = at
leaf_stands text BackStr value span at = at
leaf_stands text k value span at = at

negative_stands : (text : List ℕ) (k : Kind) (value : Option ℕ) (span : Span) → IsOffset text span.from → HasOffsets text (negative_tree k value span)
negative_stands text Integer value span at = at
negative_stands text k value span at = at

wrapped_stands : (text : List ℕ) (k : Kind) (inner : Tree) (span : Span) → IsOffset text span.from → HasOffsets text inner → HasOffsets text (wrapped_tree k inner span)
wrapped_stands text OpenCurly inner span at stands = (at, stands)
wrapped_stands text k inner span at stands = (at, stands)

-- the first word of a tree
from_stands : (text : List ℕ) (t : Parse) → WordsStand text (yield t) → IsOffset text (from_of t)
from_stands text (leaf w) stand = stand.0
from_stands text (negative w n) stand = stand.0
from_stands text (bare w) stand = stand.0
from_stands text (pair o c) stand = stand.0
from_stands text (group (call f o) xs c) stand = stand.0
from_stands text (group (square o) xs c) stand = stand.0
from_stands text (tailed o xs b t c) stand = stand.0
from_stands text (wrapped o t c) stand = stand.0
from_stands text (prefixed w r) stand = stand.0
from_stands text (infixed l w r) stand = from_stands text l (front text (yield l) (w ∷ yield r) stand)
from_stands text (postfixed l w) stand = from_stands text l (front text (yield l) (w ∷ []) stand)

mutual
  tree_stands : (text : List ℕ) (t : Parse) → WordsStand text (yield t) → HasOffsets text (tree_from t)
  tree_stands text (leaf w) stand = leaf_stands text w.kind w.value w.span stand.0
  tree_stands text (negative w d) stand = negative_stands text d.kind d.value _ stand.0
  tree_stands text (bare w) stand = stand.0
  tree_stands text (pair o c) stand = stand.0
  tree_stands text (group (call f o) xs c) stand = (stand.0, parts_stand text xs (front text (parts_yield xs) (c ∷ []) stand.1.1))
  tree_stands text (group (square o) xs c) stand = (stand.0, parts_stand text xs (front text (parts_yield xs) (c ∷ []) stand.1))
  tree_stands text (tailed o xs b t c) stand = (
    stand.0,
    parts_stand text xs (front text (parts_yield xs) (b ∷ (yield t ++ c ∷ [])) stand.1),
    tree_stands text t (front text (yield t) (c ∷ []) (behind text (parts_yield xs) (b ∷ (yield t ++ c ∷ [])) stand.1).1),
  )
  tree_stands text (wrapped o t c) stand = wrapped_stands text o.kind (tree_from t) _ stand.0 (tree_stands text t (front text (yield t) (c ∷ []) stand.1))
  tree_stands text (prefixed w r) stand = (stand.0, (tree_stands text r stand.1, tt))
  tree_stands text (infixed l w r) stand = (
    from_stands text (infixed l w r) stand,
    (tree_stands text l (front text (yield l) (w ∷ yield r) stand), (tree_stands text r (behind text (yield l) (w ∷ yield r) stand).1, tt)),
  )
  tree_stands text (postfixed l w) stand = (from_stands text (postfixed l w) stand, (tree_stands text l (front text (yield l) (w ∷ []) stand), tt))

  parts_stand : (text : List ℕ) (xs : Parts) → WordsStand text (parts_yield xs) → HaveOffsets text (trees_of xs)
  parts_stand text (one t) stand = (tree_stands text t stand, tt)
  parts_stand text (more xs w t) stand =
      stand_more text (trees_of xs) (tree_from t) (parts_stand text xs (front text (parts_yield xs) (w ∷ yield t) stand))
      (tree_stands text t (behind text (parts_yield xs) (w ∷ yield t) stand).1)

pub clause_stands : (table : Ops) (text : List ℕ) (ts : List Token) (tree : Tree) → IsUtf8 text → AreSpelled text ts → IsClauseOf (table_of table) text ts tree → HasOffsets text tree
clause_stands table text ts tree utf8 spelled clause =
    let reads = clause.reads in
    let stand : WordsStand text (yield reads.parse ++ reads.end ∷ []) = subst (WordsStand text) reads.yields (words_stand text ts clause.words utf8 spelled clause.are) in
    subst (HasOffsets text) (sym reads.is) (tree_stands text reads.parse (front text (yield reads.parse) (reads.end ∷ []) stand))

-- the parts of a term that operator items are read from

pub inside_stands : (text : List ℕ) (tree : Tree) → HasOffsets text tree → HasOffsets text (inside tree)
inside_stands text (variable span) stands = stands
inside_stands text (constant kind minus value span) stands = stands
inside_stands text (atom name span) stands = stands
inside_stands text (compound name args form span) stands = stands
inside_stands text (listed items span) stands = stands
inside_stands text (with_tail items tail span) stands = stands
inside_stands text (curly inner span) stands = stands
inside_stands text (paren inner span) stands = inside_stands text inner stands.1

pub span_stands : (text : List ℕ) (tree : Tree) → HasOffsets text tree → IsOffset text (span_of tree).from
span_stands text (variable span) stands = stands
span_stands text (constant kind minus value span) stands = stands
span_stands text (atom name span) stands = stands
span_stands text (compound name args form span) stands = stands.0
span_stands text (listed items span) stands = stands.0
span_stands text (with_tail items tail span) stands = stands.0
span_stands text (curly inner span) stands = stands.0
span_stands text (paren inner span) stands = stands.0

pub start_stands : (text : List ℕ) (tree : Tree) → HasOffsets text tree → IsOffset text (start_of tree)
start_stands text tree stands = span_stands text (inside tree) (inside_stands text tree stands)
