-- Terms as data, as they are written.
use Rattle.std.specs.Prelude.{ℕ, suc, max, List, [], ◌∷◌, Option, Bool}
use Rattle.prolog_terms.specs.declared.term.Span.{Span}
use Rattle.prolog_terms.specs.declared.term.Form.{Form}
use Rattle.prolog_terms.specs.declared.term.ConstKind.{ConstKind}

mutual
  pub data Tree : Type 0 where
    variable : Span → Tree
    constant : ConstKind → Bool → Option ℕ → Span → Tree
    atom : List ℕ → Span → Tree
    compound : List ℕ → Trees → Form → Span → Tree
    listed : Trees → Span → Tree
    tailed : Trees → Tree → Span → Tree
    curly : Tree → Span → Tree
    paren : Tree → Span → Tree

  pub data Trees : Type 0 where
    none : Trees
    more : Tree → Trees → Trees

abbrev pub trees_from : List Tree → Trees
trees_from [] = none
trees_from (t ∷ ts) = more t (trees_from ts)

-- how many trees there are
abbrev pub count : Trees → ℕ
count none = 0
count (more t ts) = suc (count ts)

abbrev pub span_of : Tree → Span
span_of (variable span) = span
span_of (constant kind minus value span) = span
span_of (atom name span) = span
span_of (compound name args form span) = span
span_of (listed items span) = span
span_of (tailed items tail span) = span
span_of (curly inner span) = span
span_of (paren inner span) = span

-- a variable, a constant and an atom have depth 1; every other form is one deeper than its deepest part
abbrev mutual
  pub depth : Tree → ℕ
  depth (variable span) = 1
  depth (constant kind minus value span) = 1
  depth (atom name span) = 1
  depth (compound name args form span) = suc (deepest args)
  depth (listed items span) = suc (deepest items)
  depth (tailed items tail span) = suc (max (deepest items) (depth tail))
  depth (curly inner span) = suc (depth inner)
  depth (paren inner span) = suc (depth inner)

  pub deepest : Trees → ℕ
  deepest none = 0
  deepest (more t ts) = max (depth t) (deepest ts)
