-- A tree is as deep as the clause that it stands for.
use Rattle.std.proofs.Common.{◌≡◌, ℕ, ◌+◌, ◌≤◌, List, Option, max, ap, refl, arith}
use Rattle.prolog_tokens.specs.declared.token.Kind.{Kind}
use Rattle.prolog_tokens.specs.declared.token.Kind.TheVariants.{Integer, Float, Str, BackStr, OpenCurly}
use Rattle.prolog_tokens.specs.declared.token.Token.{Token}
use Rattle.prolog_terms.specs.declared.term.Span.{Span}
use Rattle.prolog_terms.specs.Tree.{Tree, Trees, more as with_more, none, depth, deepest}
use Rattle.prolog_terms.specs.Words.{Table}
use Rattle.prolog_terms.specs.Grammar.{Parse, Parts, call, square, leaf, negative, bare, pair, group, tailed, wrapped, prefixed, infixed, postfixed, one, more, parse_depth, parts_depth}
use Rattle.prolog_terms.specs.Clause.{IsClauseOf, leaf_tree, negative_tree, wrapped_tree, trees_more, tree_from, trees_of}

leaf_depth : (k : Kind) (value : Option ℕ) (span : Span) → depth (leaf_tree k value span) ≡ 1
leaf_depth Integer value span = refl
leaf_depth Float value span = refl
leaf_depth Str value span = refl
leaf_depth BackStr value span = refl
leaf_depth k value span = refl

negative_depth : (k : Kind) (value : Option ℕ) (span : Span) → depth (negative_tree k value span) ≡ 1
negative_depth Integer value span = refl
negative_depth k value span = refl

wrapped_depth : (k : Kind) (inner : Tree) (span : Span) → depth (wrapped_tree k inner span) ≡ depth inner + 1
wrapped_depth OpenCurly inner span = omega arith
wrapped_depth k inner span = omega arith

deepest_more : (trees : Trees) (last : Tree) → deepest (trees_more trees last) ≡ max (deepest trees) (depth last)
deepest_more none last = omega arith
deepest_more (with_more tree trees) last = omega (arith, deepest_more trees last)

mutual
  pub tree_depth : (t : Parse) → depth (tree_from t) ≡ parse_depth t
  tree_depth (leaf w) = leaf_depth w.kind w.value w.span
  tree_depth (negative w n) = negative_depth n.kind n.value (record { from = w.span.from; to = n.span.to })
  tree_depth (bare w) = refl
  tree_depth (pair o c) = refl
  tree_depth (group (call f o) xs c) = omega (arith, trees_depth xs)
  tree_depth (group (square o) xs c) = omega (arith, trees_depth xs)
  tree_depth (tailed o xs b t c) = omega (arith, trees_depth xs, tree_depth t)
  tree_depth (wrapped o t c) = omega (arith, tree_depth t, wrapped_depth o.kind (tree_from t) (record { from = o.span.from; to = c.span.to }))
  tree_depth (prefixed w r) = omega (arith, tree_depth r)
  tree_depth (infixed l w r) = omega (arith, tree_depth l, tree_depth r)
  tree_depth (postfixed l w) = omega (arith, tree_depth l)

  pub trees_depth : (xs : Parts) → deepest (trees_of xs) ≡ parts_depth xs
  trees_depth (one t) = omega (arith, tree_depth t)
  trees_depth (more xs w t) = omega (arith, deepest_more (trees_of xs) (tree_from t), trees_depth xs, tree_depth t)

pub clause_depth : (T : Table) (text : List ℕ) (ts : List Token) (tree : Tree) → IsClauseOf T text ts tree → depth tree ≤ 1000
clause_depth T text ts tree clause = let reads = clause.reads in omega (arith, reads.shallow, tree_depth reads.parse, ap depth reads.is)
