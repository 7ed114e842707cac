-- What a term of a `meta_predicate` declares, by its sides, its arguments and its items.
use Rattle.std.proofs.Common.{◌≡◌, ℕ, zero, suc, ◌+◌, ◌<◌, ◌≤◌, List, [], ◌∷◌, ◌++◌, Some, None, length, map, take, get_or, slice_get, option_map, codes, refl, ap, sym, ◌∙◌, arith, append_assoc, append-nil}
use Rattle.std.specs.Str.{bytes_eq}
use Rattle.std.proofs.lemmas.List.{map_more}
use Rattle.std.proofs.lemmas.Option.{same_Some, slice_get-map, slice_get_read}
use Rattle.prolog_terms.specs.declared.term.Term.{Term}
use Rattle.prolog_terms.specs.Tree.{Tree, Trees, depth, deepest, variable, constant, atom, compound, listed, tailed, curly, paren, more as with_more, none, trees_from}
use Rattle.prolog_terms.specs.Terms.{tree_of}
use Rattle.prolog_terms.specs.Views.{inside, trees_in, sides_of, atom_name}
use Rattle.prolog_terms.proofs.ViewLemmas.{of_sides, of_none}
use Rattle.module_table.specs.Metas.{Declaration, taking, takes_of, all_takes}

-- what a term declares that is no comma, no `M:S` and has no brackets round it
abbrev pub shallow_takes : List ℕ → Tree → List Declaration
shallow_takes owner (compound name args form span) = taking owner name args span.from
shallow_takes owner (listed items span) = all_takes owner items
shallow_takes owner tree = []

module _ (owner : List ℕ) where
  abbrev both : Tree → Tree → List Declaration
  both a b = takes_of owner a ++ takes_of owner b

  abbrev named : Tree → Tree → List Declaration
  named a b = elim (atom_name a) [ Some own ↦ takes_of own b | None ↦ [] ]

  pub takes_comma : (tree l r : Tree) → sides_of (codes ",") tree ≡ Some (l, r) → takes_of owner tree ≡ takes_of owner l ++ takes_of owner r
  takes_comma (compound name (with_more left (with_more right none)) form span) l r is =
      of_sides both _ (bytes_eq name (codes ",")) left right l r is
  takes_comma (paren inner span) l r is = takes_comma inner l r is
  takes_comma tree l r is = let no : None ≡ Some (l, r) = is in absurd (cc)

  pub takes_named : (tree l r : Tree) → sides_of (codes ",") tree ≡ None → sides_of (codes ":") tree ≡ Some (l, r)
      → takes_of owner tree ≡ elim (atom_name l) [ Some own ↦ takes_of own r | None ↦ [] ]
  takes_named (compound name (with_more left (with_more right none)) form span) l r plain is =
      of_none both _ (bytes_eq name (codes ",")) left right plain ∙ of_sides named _ (bytes_eq name (codes ":")) left right l r is
  takes_named (paren inner span) l r plain is = takes_named inner l r plain is
  takes_named tree l r plain is = let no : None ≡ Some (l, r) = is in absurd (cc)

  pub takes_alone : (tree : Tree) → sides_of (codes ",") tree ≡ None → sides_of (codes ":") tree ≡ None → takes_of owner tree ≡ shallow_takes owner (inside tree)
  takes_alone (compound name none form span) plain own = refl
  takes_alone (compound name (with_more a none) form span) plain own = refl
  takes_alone (compound name (with_more left (with_more right none)) form span) plain own =
      of_none both _ (bytes_eq name (codes ",")) left right plain ∙ of_none named _ (bytes_eq name (codes ":")) left right own
  takes_alone (compound name (with_more a (with_more b (with_more c rest))) form span) plain own = refl
  takes_alone (paren inner span) plain own = takes_alone inner plain own
  takes_alone (listed items span) plain own = refl
  takes_alone (tailed items tail span) plain own = refl
  takes_alone (atom name span) plain own = refl
  takes_alone (variable span) plain own = refl
  takes_alone (constant kind minus value span) plain own = refl
  takes_alone (curly inner span) plain own = refl

  all_more : (trees : List Tree) (tree : Tree) → all_takes owner (trees_from (trees ++ tree ∷ [])) ≡ all_takes owner (trees_from trees) ++ takes_of owner tree
  all_more [] tree = append-nil (takes_of owner tree)
  all_more (first ∷ trees) tree =
      ap (λ ts. takes_of owner first ++ ts) (all_more trees tree) ∙ sym (append_assoc (takes_of owner first) (all_takes owner (trees_from trees)) (takes_of owner tree))

  -- one more item of a list
  pub items_more : (terms : List Term) (at : ℕ) (term : Term) (old mid new : List Declaration) → at < length terms → term ≡ get_or terms at term
      → mid ≡ old ++ all_takes owner (trees_from (map tree_of (take at terms))) → new ≡ mid ++ takes_of owner (tree_of term)
      → new ≡ old ++ all_takes owner (trees_from (map tree_of (take (at + 1) terms)))
  items_more terms at term old mid new below is so_far adds =
      let before = map tree_of (take at terms) in
      let parts : map tree_of (take (at + 1) terms) ≡ before ++ tree_of term ∷ [] = map_more tree_of terms at term below ∙ ap (λ x. before ++ tree_of x ∷ []) (sym is) in
      adds
      ∙ (ap (λ ts. ts ++ takes_of owner (tree_of term)) so_far
      ∙ (append_assoc old (all_takes owner (trees_from before)) (takes_of owner (tree_of term))
      ∙ ap (λ ts. old ++ ts) (sym (ap (λ ts. all_takes owner (trees_from ts)) parts ∙ all_more before (tree_of term)))))

-- brackets make a term deeper, and items their list

pub inside_depth : (tree : Tree) → depth (inside tree) ≤ depth tree
inside_depth (paren inner span) = omega (arith, inside_depth inner)
inside_depth (variable span) = omega arith
inside_depth (constant kind minus value span) = omega arith
inside_depth (atom name span) = omega arith
inside_depth (compound name args form span) = omega arith
inside_depth (listed items span) = omega arith
inside_depth (tailed items tail span) = omega arith
inside_depth (curly inner span) = omega arith

pub deepest_one : (args : List Tree) (i : ℕ) (tree : Tree) → slice_get args i ≡ Some tree → depth tree ≤ deepest (trees_from args)
deepest_one [] i tree is = let both : None ≡ Some tree = is in absurd (cc)
deepest_one (first ∷ args) zero tree is = omega (arith, ap depth (same_Some first tree is))
deepest_one (first ∷ args) (suc i) tree is = omega (arith, deepest_one args i tree is)

pub read_seen : (terms : List Term) (i : ℕ) (found : Term) → i < length terms → found ≡ get_or terms i found → slice_get (map tree_of terms) i ≡ Some (tree_of found)
read_seen terms i found lt is = slice_get-map tree_of terms i ∙ ap (option_map tree_of) (slice_get_read terms (length terms) i found refl lt is)

-- trees from their list are the trees
pub trees_again : (trees : Trees) → trees_from (trees_in trees) ≡ trees
trees_again none = refl
trees_again (with_more tree trees) = ap (with_more tree) (trees_again trees)

-- what is kept where the term inside all brackets declares nothing
pub nothing_more : (owner : List ℕ) (tree bare : Tree) (old : List Declaration) → None ≡ sides_of (codes ",") tree → None ≡ sides_of (codes ":") tree → bare ≡ inside tree
    → shallow_takes owner bare ≡ [] → old ≡ old ++ takes_of owner tree
nothing_more owner tree bare old plain own is silent =
    let all : takes_of owner tree ≡ [] = takes_alone owner tree (sym plain) (sym own) ∙ (ap (shallow_takes owner) (sym is) ∙ silent) in
    sym (ap (λ ts. old ++ ts) all ∙ append-nil old)
