-- The arities that a list of roots names fit 32 bits, since the integers of a text do.
use Rattle.std.proofs.Common.{◌≡◌, ◌++◌, ◌∷◌, [], ◌^◌, ◌<◌, ℕ, Bool, true, false, List, All, Option, Some, None, map, codes, if◌then◌else◌, refl, sym, subst, arith}
use Rattle.std.specs.Option.{IfSome}
use Rattle.std.specs.Str.{bytes_eq}
use Rattle.std.proofs.lemmas.List.Elements.{All-cons, All-nil}
use Rattle.prolog_tokens.specs.declared.token.Kind.{Kind}
use Rattle.prolog_tokens.specs.declared.token.Kind.TheVariants as kind
use Rattle.prolog_tokens.specs.declared.token.Token.{Token}
use Rattle.prolog_tokens.specs.Values.{IsIntegerValue}
use Rattle.prolog_terms.specs.declared.term.ConstKind.TheVariants as const
use Rattle.prolog_terms.specs.declared.term.Span.{Span}
use Rattle.prolog_terms.specs.Clause.{AreWords, leaf_tree, negative_tree, tree_from, trees_more, trees_of, wrapped_tree}
use Rattle.prolog_terms.specs.Grammar.{Parse, Parts, call, square, leaf, negative, bare, pair, group, tailed as with_tail, wrapped, prefixed, infixed, postfixed, one, more as and_part, yield, parts_yield}
use Rattle.prolog_terms.specs.Tree.{Tree, Trees, variable, constant, atom, compound, listed, tailed, curly, paren, none, more}
use Rattle.prolog_terms.specs.Views.{atom_name, inside, joined, sides_at, sides_of}
use Rattle.prolog_terms.specs.Words.{Word}
use Rattle.import_rules.specs.declared.names.PredName.{PredName}
use Rattle.group_words.specs.RootList.{IsRootList, all_there, arity_at, list_text, named, named_by, named_predicate, with_sides}

abbrev Fits : Option ℕ → Type 0
Fits value = IfSome value (λ n. n < 2 ^ 32)

-- the constants outside of lists have values that fit
abbrev mutual
  IsSmall : Tree → Type 0
  IsSmall (variable span) = Unit {0}
  IsSmall (constant kind minus value span) = Fits value
  IsSmall (atom name span) = Unit {0}
  IsSmall (compound name args form span) = AreSmall args
  IsSmall (listed items span) = Unit {0}
  IsSmall (tailed items tail span) = Unit {0}
  IsSmall (curly inner span) = IsSmall inner
  IsSmall (paren inner span) = IsSmall inner

  AreSmall : Trees → Type 0
  AreSmall none = Unit {0}
  AreSmall (more tree trees) = IsSmall tree × AreSmall trees

-- words

abbrev WordsFit : List Word → Type 0
WordsFit [] = Unit {0}
WordsFit (w ∷ ws) = Fits w.value × WordsFit ws

fit_before : (us vs : List Word) → WordsFit (us ++ vs) → WordsFit us
fit_before [] vs fit = tt
fit_before (u ∷ us) vs fit = (fit.0, fit_before us vs fit.1)

fit_behind : (us vs : List Word) → WordsFit (us ++ vs) → WordsFit vs
fit_behind [] vs fit = fit
fit_behind (u ∷ us) vs fit = fit_behind us vs fit.1

value_fits : (text : List ℕ) (token : Token) (value : Option ℕ) → IsIntegerValue text token value → Fits value
value_fits text token None is = tt
value_fits text token (Some n) is = omega (arith, is.1)

words_fit : (text : List ℕ) (tokens : List Token) (words : List Word) → AreWords text tokens words → WordsFit words
words_fit text [] [] are = tt
words_fit text [] (w ∷ ws) are = absurd are
words_fit text (t ∷ ts) [] are = absurd are
words_fit text (t ∷ ts) (w ∷ ws) are = (value_fits text t w.value are.0.value, words_fit text ts ws are.1)

-- trees of words

leaf_small : (k : Kind) (value : Option ℕ) (span : Span) → Fits value → IsSmall (leaf_tree k value span)
leaf_small kind.Integer value span fits = fits
leaf_small _ value span fits = tt

negative_small : (k : Kind) (value : Option ℕ) (span : Span) → Fits value → IsSmall (negative_tree k value span)
negative_small kind.Integer value span fits = fits
negative_small _ value span fits = tt

wrapped_small : (k : Kind) (inner : Tree) (span : Span) → IsSmall inner → IsSmall (wrapped_tree k inner span)
wrapped_small kind.OpenCurly inner span small = small
wrapped_small _ inner span small = small

more_small : (trees : Trees) (last : Tree) → AreSmall trees → IsSmall last → AreSmall (trees_more trees last)
more_small none last small is = (is, tt)
more_small (more tree trees) last small is = (small.0, more_small trees last small.1 is)

mutual
  small_tree : (t : Parse) → WordsFit (yield t) → IsSmall (tree_from t)
  small_tree (leaf w) fit = leaf_small w.kind w.value w.span fit.0
  small_tree (negative w n) fit = negative_small n.kind n.value _ fit.1.0
  small_tree (bare w) fit = tt
  small_tree (pair o c) fit = tt
  small_tree (group (call f o) xs c) fit = small_trees xs (fit_before (parts_yield xs) (c ∷ []) fit.1.1)
  small_tree (group (square o) xs c) fit = tt
  small_tree (with_tail o xs b t c) fit = tt
  small_tree (wrapped o t c) fit = wrapped_small o.kind (tree_from t) _ (small_tree t (fit_before (yield t) (c ∷ []) fit.1))
  small_tree (prefixed w r) fit = (small_tree r fit.1, tt)
  small_tree (infixed l w r) fit = (small_tree l (fit_before (yield l) (w ∷ yield r) fit), (small_tree r (fit_behind (yield l) (w ∷ yield r) fit).1, tt))
  small_tree (postfixed l w) fit = (small_tree l (fit_before (yield l) (w ∷ []) fit), tt)

  small_trees : (xs : Parts) → WordsFit (parts_yield xs) → AreSmall (trees_of xs)
  small_trees (one t) fit = (small_tree t fit, tt)
  small_trees (and_part xs w t) fit =
      more_small (trees_of xs) (tree_from t) (small_trees xs (fit_before (parts_yield xs) (w ∷ yield t) fit)) (small_tree t (fit_behind (parts_yield xs) (w ∷ yield t) fit).1)

-- what a small tree names

inside_small : (tree : Tree) → IsSmall tree → IsSmall (inside tree)
inside_small (variable span) small = small
inside_small (constant kind minus value span) small = small
inside_small (atom name span) small = small
inside_small (compound name args form span) small = small
inside_small (listed items span) small = small
inside_small (tailed items tail span) small = small
inside_small (curly inner span) small = small
inside_small (paren inner span) small = inside_small inner small

abbrev BothSmall : Option (Tree × Tree) → Type 0
BothSmall sides = IfSome sides (λ both. IsSmall both.0 × IsSmall both.1)

sides_small_at : (name : List ℕ) (tree : Tree) → IsSmall tree → BothSmall (sides_at name tree)
sides_small_at name (variable span) small = tt
sides_small_at name (constant kind minus value span) small = tt
sides_small_at name (atom own span) small = tt
sides_small_at name (compound own none form span) small = tt
sides_small_at name (compound own (more left none) form span) small = tt
sides_small_at name (compound own (more left (more right none)) form span) small = go (bytes_eq own name)
  where
    go : (same : Bool) → BothSmall (if same then Some (left, right) else None)
    go true = (small.0, small.1.0)
    go false = tt
sides_small_at name (compound own (more left (more right (more third trees))) form span) small = tt
sides_small_at name (listed items span) small = tt
sides_small_at name (tailed items tail span) small = tt
sides_small_at name (curly inner span) small = tt
sides_small_at name (paren inner span) small = tt

arity_small_at : (tree : Tree) → IsSmall tree → Fits (arity_at tree)
arity_small_at (constant const.Integer false value span) small = small
arity_small_at (constant const.Integer true value span) small = tt
arity_small_at (constant const.Float minus value span) small = tt
arity_small_at (constant const.Str minus value span) small = tt
arity_small_at (constant const.BackStr minus value span) small = tt
arity_small_at (variable span) small = tt
arity_small_at (atom name span) small = tt
arity_small_at (compound name args form span) small = tt
arity_small_at (listed items span) small = tt
arity_small_at (tailed items tail span) small = tt
arity_small_at (curly inner span) small = tt
arity_small_at (paren inner span) small = tt

abbrev IsNamedSmall : Option PredName → Type 0
IsNamedSmall found = IfSome found (λ root. root.arity < 2 ^ 32)

named_small : (own name : Option (List ℕ)) (arity : Option ℕ) → Fits arity → IsNamedSmall (named own name arity)
named_small None name arity fits = tt
named_small (Some own) None arity fits = tt
named_small (Some own) (Some name) None fits = tt
named_small (Some own) (Some name) (Some arity) fits = fits

with_small : (sides : Option (Tree × Tree)) (left right : Tree) → IsSmall right → IsNamedSmall (with_sides sides left right)
with_small (Some sides) left right small = named_small (atom_name sides.0) (atom_name sides.1) (arity_at (inside right)) (arity_small_at (inside right) (inside_small right small))
with_small None left right small = named_small (Some (codes "user")) (atom_name left) (arity_at (inside right)) (arity_small_at (inside right) (inside_small right small))

named_by_small : (sides : Option (Tree × Tree)) → BothSmall sides → IsNamedSmall (named_by sides)
named_by_small None small = tt
named_by_small (Some sides) small = with_small (sides_of (codes ":") sides.0) sides.0 sides.1 small.1

-- the terms that commas join
abbrev EachSmall : List Tree → Type 0
EachSmall [] = Unit {0}
EachSmall (tree ∷ trees) = IsSmall tree × EachSmall trees

both_small : (xs ys : List Tree) → EachSmall xs → EachSmall ys → EachSmall (xs ++ ys)
both_small [] ys x y = y
both_small (tree ∷ xs) ys x y = (x.0, both_small xs ys x.1 y)

joined_small : (tree : Tree) → IsSmall tree → EachSmall (joined tree)
joined_small (variable span) small = (small, tt)
joined_small (constant kind minus value span) small = (small, tt)
joined_small (atom name span) small = (small, tt)
joined_small (compound name none form span) small = (small, tt)
joined_small (compound name (more left none) form span) small = (small, tt)
joined_small (compound name (more left (more right none)) form span) small = go (bytes_eq name (codes ",")) (joined_small left small.0) (joined_small right small.1.0)
  where
    go : (comma : Bool) → EachSmall (joined left) → EachSmall (joined right)
        → EachSmall (if comma then joined left ++ joined right else compound name (more left (more right none)) form span ∷ [])
    go true x y = both_small (joined left) (joined right) x y
    go false x y = (small, tt)
joined_small (compound name (more left (more right (more third trees))) form span) small = (small, tt)
joined_small (listed items span) small = (small, tt)
joined_small (tailed items tail span) small = (small, tt)
joined_small (curly inner span) small = (small, tt)
joined_small (paren inner span) small = joined_small inner small

abbrev AritiesFit : List PredName → Type 0
AritiesFit roots = All (λ root. root.arity < 2 ^ 32) roots

put_small : (root : PredName) → root.arity < 2 ^ 32 → (others : Option (List PredName)) → ((xs : List PredName) → others ≡ Some xs → AritiesFit xs)
    → (roots : List PredName) → elim others [ Some xs ↦ Some (root ∷ xs) | None ↦ None ] ≡ Some roots → AritiesFit roots
put_small root fits None later roots e = let both : None ≡ Some roots = e in cc
put_small root fits (Some xs) later roots e =
    let same : root ∷ xs ≡ roots = let both : Some (root ∷ xs) ≡ Some roots = e in cc in
    subst AritiesFit same (All-cons (λ root. root.arity < 2 ^ 32) root xs fits (later xs refl))

roots_small : (trees : List Tree) → EachSmall trees → (roots : List PredName) → all_there (map named_predicate trees) ≡ Some roots → AritiesFit roots
roots_small [] small roots are =
    let same : [] ≡ roots = let both : Some [] ≡ Some roots = are in cc in subst AritiesFit same (All-nil (λ root. root.arity < 2 ^ 32))
roots_small (tree ∷ trees) small roots are =
    go (named_predicate tree) (named_by_small (sides_of (codes "/") tree) (sides_small_at (codes "/") (inside tree) (inside_small tree small.0))) (roots_small trees small.1) are
  where
    go : (first : Option PredName) → IsNamedSmall first → ((xs : List PredName) → all_there (map named_predicate trees) ≡ Some xs → AritiesFit xs)
        → all_there (first ∷ map named_predicate trees) ≡ Some roots → AritiesFit roots
    go None fits later e = let both : None ≡ Some roots = e in cc
    go (Some root) fits later e = put_small root fits (all_there (map named_predicate trees)) later roots e

-- what a list of roots names
pub arities_fit : (text : List ℕ) (roots : List PredName) → IsRootList text roots → All (λ root. root.arity < 2 ^ 32) roots
arities_fit text roots is =
    let clause = is.list.clause in
    let fit : WordsFit clause.words = words_fit (list_text text) is.list.tokens clause.words clause.are in
    let parts : WordsFit (yield clause.reads.parse ++ clause.reads.end ∷ []) = subst WordsFit clause.reads.yields fit in
    let small : IsSmall is.tree = subst IsSmall (sym clause.reads.is) (small_tree clause.reads.parse (fit_before (yield clause.reads.parse) (clause.reads.end ∷ []) parts)) in
    roots_small (joined is.tree) (joined_small is.tree small) roots is.are
