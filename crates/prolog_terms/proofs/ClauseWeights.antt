-- A clause has a word for each part, one more, and its End.
use Rattle.std.proofs.Common.{◌≡◌, ℕ, ◌+◌, ◌≤◌, List, [], ◌∷◌, ◌++◌, Option, length, ap, ◌∙◌, length-append, refl, arith}
use Rattle.prolog_tokens.specs.declared.token.Kind.{Kind}
use Rattle.prolog_tokens.specs.declared.token.Kind.TheVariants.{Integer, Float, Str, BackStr, OpenCurly}
use Rattle.prolog_tokens.specs.declared.token.Token.{Token}
use Rattle.prolog_terms.specs.declared.term.Span.{Span}
use Rattle.prolog_terms.specs.Tree.{Tree, Trees, more as with_more, none}
use Rattle.prolog_terms.specs.Words.{Table}
use Rattle.prolog_terms.specs.Grammar.{Parse, Parts, call, square, leaf, negative, bare, pair, group, tailed, wrapped, prefixed, infixed, postfixed, one, more, yield, parts_yield}
use Rattle.prolog_terms.specs.Clause.{IsClauseOf, leaf_tree, negative_tree, wrapped_tree, trees_more, tree_from, trees_of}
use Rattle.prolog_terms.specs.Weight.{weight, weights}
use Rattle.prolog_terms.proofs.TokenWords.{words_count}

leaf_weight : (k : Kind) (value : Option ℕ) (span : Span) → weight (leaf_tree k value span) ≡ 0
leaf_weight Integer value span = refl
leaf_weight Float value span = refl
leaf_weight Str value span = refl
leaf_weight BackStr value span = refl
leaf_weight k value span = refl

negative_weight : (k : Kind) (value : Option ℕ) (span : Span) → weight (negative_tree k value span) ≡ 0
negative_weight Integer value span = refl
negative_weight k value span = refl

wrapped_weight : (k : Kind) (inner : Tree) (span : Span) → weight (wrapped_tree k inner span) ≡ weight inner + 1
wrapped_weight OpenCurly inner span = omega arith
wrapped_weight k inner span = omega arith

weights_more : (trees : Trees) (last : Tree) → weights (trees_more trees last) ≡ weights trees + (weight last + 1)
weights_more none last = omega arith
weights_more (with_more tree trees) last = omega (arith, weights_more trees last)

mutual
  -- a tree has a word for each part and one more
  pub weight_words : (t : Parse) → weight (tree_from t) + 1 ≤ length (yield t)
  weight_words (leaf w) = omega (arith, leaf_weight w.kind w.value w.span)
  weight_words (negative w n) = omega (arith, negative_weight n.kind n.value (record { from = w.span.from; to = n.span.to }))
  weight_words (bare w) = omega arith
  weight_words (pair o c) = omega arith
  weight_words (group (call f o) xs c) = omega (arith, weights_words xs, length-append (parts_yield xs) (c ∷ []))
  weight_words (group (square o) xs c) = omega (arith, weights_words xs, length-append (parts_yield xs) (c ∷ []))
  weight_words (tailed o xs b t c) =
      omega (arith, weights_words xs, weight_words t, length-append (parts_yield xs) (b ∷ (yield t ++ c ∷ [])), length-append (yield t) (c ∷ []))
  weight_words (wrapped o t c) =
      omega (arith, weight_words t, wrapped_weight o.kind (tree_from t) (record { from = o.span.from; to = c.span.to }), length-append (yield t) (c ∷ []))
  weight_words (prefixed w r) = omega (arith, weight_words r)
  weight_words (infixed l w r) = omega (arith, weight_words l, weight_words r, length-append (yield l) (w ∷ yield r))
  weight_words (postfixed l w) = omega (arith, weight_words l, length-append (yield l) (w ∷ []))

  -- and parts have a word for each
  pub weights_words : (xs : Parts) → weights (trees_of xs) ≤ length (parts_yield xs)
  weights_words (one t) = omega (arith, weight_words t)
  weights_words (more xs w t) =
      omega (arith, weights_more (trees_of xs) (tree_from t), weights_words xs, weight_words t, length-append (parts_yield xs) (w ∷ yield t))

pub clause_weight : (T : Table) (text : List ℕ) (ts : List Token) (tree : Tree) → IsClauseOf T text ts tree → weight tree + 2 ≤ length ts
clause_weight T text ts tree clause =
    let reads = clause.reads in
    let count : length ts ≡ length (yield reads.parse) + 1 =
    words_count text ts clause.words clause.are ∙ (ap length reads.yields ∙ length-append (yield reads.parse) (reads.end ∷ [])) in
    omega (arith, count, weight_words reads.parse, ap weight reads.is)
