-- What the tokens of a text read as: the clause that is lawful under a table of operators.
use Rattle.prolog_terms.specs.declared.reader.TheConstants.{DEEPEST}
use Rattle.std.specs.Prelude.{◌≡◌, ℕ, ◌+◌, ◌<◌, ◌≤◌, ◌≢◌, List, [], ◌∷◌, ◌++◌, Option, Some, None, true, false, length, slice_get, codes, ⊤}
use Rattle.prolog_tokens.specs.declared.token.Kind.{Kind}
use Rattle.prolog_tokens.specs.declared.token.Kind.TheVariants.{Integer, Float, Str, BackStr, OpenCurly, Comma, Bar, End}
use Rattle.prolog_tokens.specs.declared.token.Token.{Token}
use Rattle.prolog_tokens.specs.Cut.{IsCut}
use Rattle.prolog_tokens.specs.Values.{IsNameText, IsIntegerValue}
use Rattle.prolog_tokens.specs.declared.limits.TheConstants.{MOST_BYTES}
use Rattle.prolog_names.specs.Numbers.{AreNumbered}
use Rattle.prolog_terms.specs.declared.term.Span.{Span}
use Rattle.prolog_terms.specs.declared.term.Form.TheVariants.{Functional, Prefix, Infix, Postfix}
use Rattle.prolog_terms.specs.declared.term.ConstKind.TheVariants as const
use Rattle.prolog_terms.specs.Tree.{Tree, Trees, variable, constant, atom, compound, listed, tailed as with_tail, curly, paren, none, more as with_more}
use Rattle.prolog_terms.specs.declared.read_fault.ReadFault.{ReadFault}
use Rattle.prolog_terms.specs.declared.read_fault.ReadFault.TheVariants.{Stuck, TooDeep, NoEnd, NoMemory}
use Rattle.prolog_terms.specs.Words.{Word, Table, is_name}
use Rattle.prolog_terms.specs.Grammar.{Parse, Parts, GroupStart, call, square, leaf, negative, bare, pair, group, tailed, wrapped, prefixed, infixed}
use Rattle.prolog_terms.specs.Grammar.{postfixed, one, more, yield, parse_depth, IsClause}
use Rattle.prolog_terms.specs.StuckPlace.{IsStuckAt, IsTooDeepAt, HasNoEnd}

-- the word is the token of the text as terms see it
pub record IsWordOf (text : List ℕ) (token : Token) (w : Word) : Type 0 where
  pub kind : w.kind ≡ token.kind
  pub named : is_name token.kind ≡ true → IsNameText text token w.text
  pub unnamed : is_name token.kind ≡ false → w.text ≡ []
  pub value : IsIntegerValue text token w.value
  pub layout : w.after_layout ≡ token.after_layout
  pub span : w.span ≡ record { from = token.start; to = token.end }

-- one word for each token
abbrev pub AreWords : List ℕ → List Token → List Word → Type 0
AreWords text [] [] = ⊤
AreWords text [] (w ∷ ws) = ⊥
AreWords text (t ∷ ts) [] = ⊥
AreWords text (t ∷ ts) (w ∷ ws) = IsWordOf text t w × AreWords text ts ws

-- from the beginning of one span to the end of another
abbrev pub joined_span : Span → Span → Span
joined_span a b = record { from = a.from; to = b.to }

-- the name of an infix operator: that of a Comma is `,`, and that of a Bar `|`
abbrev pub infix_text : Kind → List ℕ → List ℕ
infix_text Comma text = codes ","
infix_text Bar text = codes "|"
infix_text _ text = text

-- the name of an empty pair of brackets
abbrev pub pair_text : Kind → List ℕ
pair_text OpenCurly = codes "{}"
pair_text _ = codes "[]"

-- a variable or a constant; those of the other kinds don't stand alone
abbrev pub leaf_tree : Kind → Option ℕ → Span → Tree
leaf_tree Integer value span = constant const.Integer false value span
leaf_tree Float value span = constant const.Float false None span
leaf_tree Str value span = constant const.Str false None span
leaf_tree BackStr value span = constant const.BackStr false None span
leaf_tree _ value span = variable span

-- a number behind its minus
abbrev pub negative_tree : Kind → Option ℕ → Span → Tree
negative_tree Integer value span = constant const.Integer true value span
negative_tree _ value span = constant const.Float true None span

-- a term in brackets
abbrev pub wrapped_tree : Kind → Tree → Span → Tree
wrapped_tree OpenCurly inner span = curly inner span
wrapped_tree _ inner span = paren inner span

-- a functional term or a list
abbrev pub group_tree : GroupStart → Trees → Span → Tree
group_tree (call f o) parts close = compound f.text parts Functional (joined_span f.span close)
group_tree (square o) parts close = listed parts (joined_span o.span close)

-- trees with one more behind them
abbrev pub trees_more : Trees → Tree → Trees
trees_more none last = with_more last none
trees_more (with_more tree trees) last = with_more tree (trees_more trees last)

-- where the words of a tree stand, from the first to the last
abbrev pub from_of : Parse → ℕ
from_of (leaf w) = w.span.from
from_of (negative w n) = w.span.from
from_of (bare w) = w.span.from
from_of (pair o c) = o.span.from
from_of (group (call f o) xs c) = f.span.from
from_of (group (square o) xs c) = o.span.from
from_of (tailed o xs b t c) = o.span.from
from_of (wrapped o t c) = o.span.from
from_of (prefixed w r) = w.span.from
from_of (infixed l w r) = from_of l
from_of (postfixed l w) = from_of l

abbrev pub to_of : Parse → ℕ
to_of (leaf w) = w.span.to
to_of (negative w n) = n.span.to
to_of (bare w) = w.span.to
to_of (pair o c) = c.span.to
to_of (group g xs c) = c.span.to
to_of (tailed o xs b t c) = c.span.to
to_of (wrapped o t c) = c.span.to
to_of (prefixed w r) = to_of r
to_of (infixed l w r) = to_of r
to_of (postfixed l w) = w.span.to

abbrev pub span_between : ℕ → ℕ → Span
span_between from to = record { from = from; to = to }

-- the tree without its words
abbrev mutual
  pub tree_from : Parse → Tree
  tree_from (leaf w) = leaf_tree w.kind w.value w.span
  tree_from (negative w n) = negative_tree n.kind n.value (joined_span w.span n.span)
  tree_from (bare w) = atom w.text w.span
  tree_from (pair o c) = atom (pair_text o.kind) (joined_span o.span c.span)
  tree_from (group g xs c) = group_tree g (trees_of xs) c.span
  tree_from (tailed o xs b t c) = with_tail (trees_of xs) (tree_from t) (joined_span o.span c.span)
  tree_from (wrapped o t c) = wrapped_tree o.kind (tree_from t) (joined_span o.span c.span)
  tree_from (prefixed w r) = compound w.text (with_more (tree_from r) none) Prefix (span_between w.span.from (to_of r))
  tree_from (infixed l w r) =
      compound (infix_text w.kind w.text) (with_more (tree_from l) (with_more (tree_from r) none)) Infix (span_between (from_of l) (to_of r))
  tree_from (postfixed l w) = compound w.text (with_more (tree_from l) none) Postfix (span_between (from_of l) w.span.to)

  pub trees_of : Parts → Trees
  trees_of (one t) = with_more (tree_from t) none
  trees_of (more xs w t) = trees_more (trees_of xs) (tree_from t)

-- the words are the clause and its End, and it isn't too deep
pub record IsWordsClause (T : Table) (words : List Word) (tree : Tree) : Type 0 where
  pub parse : Parse
  pub end : Word
  pub clause : IsClause T parse end
  pub yields : words ≡ yield parse ++ end ∷ []
  pub shallow : parse_depth parse ≤ DEEPEST
  pub is : tree ≡ tree_from parse

-- the tokens of the text are the clause and its End
pub record IsClauseOf (T : Table) (text : List ℕ) (tokens : List Token) (tree : Tree) : Type 0 where
  pub words : List Word
  pub are : AreWords text tokens words
  pub reads : IsWordsClause T words tree

-- at the offset a token of the text starts at whose word this is true
pub record StandsAt (text : List ℕ) (tokens : List Token) (at : ℕ) (P : List Word → ℕ → Type 0) : Type 0 where
  pub words : List Word
  pub are : AreWords text tokens words
  pub place : ℕ
  pub token : Token
  pub stands : slice_get tokens place ≡ Some token
  pub starts : at ≡ token.start
  pub is : P words place

-- why the tokens aren't a clause: at a token no clause goes on; only deeper ones do; the End is missing
abbrev pub IsReadFault : Table → List ℕ → List Token → ReadFault → Type 0
IsReadFault T text tokens (Stuck at) = StandsAt text tokens at (IsStuckAt T)
IsReadFault T text tokens (TooDeep at) = StandsAt text tokens at (IsTooDeepAt T)
IsReadFault T text tokens (NoEnd at) = (at ≡ length text) × ((words : List Word) × AreWords text tokens words × HasNoEnd T words)
IsReadFault T text tokens NoMemory = ⊥

-- the tokens are a part of those of the text
pub record ArePart (text : List ℕ) (ts : List Token) : Type 0 where
  pub before : List Token
  pub after : List Token
  pub cut : IsCut text (before ++ (ts ++ after))

-- the tokens are some, and none but the last is an End
pub record IsOneClause (tokens : List Token) : Type 0 where
  pub some : 0 < length tokens
  pub one_end : (k : ℕ) (token : Token) → k + 1 < length tokens → slice_get tokens k ≡ Some token → token.kind ≢ End

-- the tokens are those of one clause of a text that isn't too long, each with the number of its name
pub record AreClauseTokens (text : List ℕ) (names : List (List ℕ)) (tokens : List Token) (numbers : List ℕ) : Type 0 where
  pub small : length text ≤ MOST_BYTES
  pub part : ArePart text tokens
  pub clause : IsOneClause tokens
  pub numbered : AreNumbered text names tokens numbers

-- it is the clause that the tokens are, and they are no other one
pub record IsOnlyClauseOf (T : Table) (text : List ℕ) (tokens : List Token) (tree : Tree) : Type 0 where
  pub is : IsClauseOf T text tokens tree
  pub only : (other : Tree) → IsClauseOf T text tokens other → other ≡ tree

-- it is why the tokens aren't a clause; they have no other fault, and are none
pub record IsOnlyReadFault (T : Table) (text : List ℕ) (tokens : List Token) (fault : ReadFault) : Type 0 where
  pub is : IsReadFault T text tokens fault
  pub only : (other : ReadFault) → IsReadFault T text tokens other → other ≡ fault
  pub none : (tree : Tree) → IsClauseOf T text tokens tree → ⊥
