-- What terms are, with the brackets round them passed through, by their parts.
use Rattle.std.proofs.Common.{◌≡◌, ℕ, zero, suc, ◌+◌, ◌<◌, ◌≤◌, Bool, true, false, not, List, [], ◌∷◌, ◌++◌, Option, Some, None, length, get_or, codes, refl, arith, if◌then◌else◌, ap, sym, ◌∙◌}
use Rattle.std.specs.Str.{bytes_eq}
use Rattle.prolog_terms.specs.declared.term.Span.{Span}
use Rattle.prolog_terms.specs.declared.term.Form.{Form}
use Rattle.prolog_terms.specs.Tree.{Tree, Trees, variable, constant, atom, compound, listed, tailed, curly, paren, more, none, trees_from, count, depth}
use Rattle.prolog_terms.specs.Views.{inside, trees_in, sides_of, joined, Named, named_at, name_and_arity}
use Rattle.prolog_terms.specs.Weight.{weight, weights}

-- tests and answers

pub is_true : (test : Bool) → false ≡ not test → test ≡ true
is_true true is = refl
is_true false is = let both : false ≡ true = is in absurd (cc)

pub some_once : {X : Type 0} {x y : X} → Some x ≡ Some y → x ≡ y
some_once is = cc

pub some_none : {X : Type 0} (x : X) → Some x ≡ None → ⊥
some_none x is = cc

-- inside brackets there are no more brackets
pub inside_once : (tree : Tree) → inside (inside tree) ≡ inside tree
inside_once (variable span) = refl
inside_once (constant kind minus value span) = refl
inside_once (atom name span) = refl
inside_once (compound name args form span) = refl
inside_once (listed items span) = refl
inside_once (tailed items tail span) = refl
inside_once (curly inner span) = refl
inside_once (paren inner span) = inside_once inner

-- two sides, where a test holds

abbrev pub pair_if : Bool → Tree → Tree → Option (Tree × Tree)
pair_if test left right = if test then Some (left, right) else None

-- and what the test makes of them
module _ {A : Type 0} (both : Tree → Tree → A) (alone : A) where
  pub of_sides : (test : Bool) (left right l r : Tree) → pair_if test left right ≡ Some (l, r) → (if test then both left right else alone) ≡ both l r
  of_sides true left right l r is =
      let same : (left, right) ≡ (l, r) = some_once is in
      ap (λ t. both t right) (ap (λ (pair : Tree × Tree). pair.0) same) ∙ ap (both l) (ap (λ (pair : Tree × Tree). pair.1) same)
  of_sides false left right l r is = absurd (some_none (l, r) (sym is))

  pub of_none : (test : Bool) (left right : Tree) → pair_if test left right ≡ None → (if test then both left right else alone) ≡ alone
  of_none true left right is = absurd (some_none (left, right) is)
  of_none false left right is = refl

-- the sides of a term are less deep
pub record AreBelow (tree left right : Tree) : Type 0 where
  pub left_below : depth left < depth tree
  pub right_below : depth right < depth tree

below_if : (test : Bool) (left right l r : Tree) (name : List ℕ) (form : Form) (span : Span) → pair_if test left right ≡ Some (l, r)
    → AreBelow (compound name (more left (more right none)) form span) l r
below_if true left right l r name form span is =
    let both : (left, right) ≡ (l, r) = some_once is in
    let first : left ≡ l = ap (λ (pair : Tree × Tree). pair.0) both in
    let second : right ≡ r = ap (λ (pair : Tree × Tree). pair.1) both in
    record { left_below = omega (arith, ap depth first); right_below = omega (arith, ap depth second) }
below_if false left right l r name form span is = absurd (some_none (l, r) (sym is))

pub sides_below : (operator : List ℕ) (tree l r : Tree) → sides_of operator tree ≡ Some (l, r) → AreBelow tree l r
sides_below operator (compound name (more left (more right none)) form span) l r is = below_if (bytes_eq name operator) left right l r name form span is
sides_below operator (paren inner span) l r is =
    let below = sides_below operator inner l r is in record { left_below = omega (arith, below.left_below); right_below = omega (arith, below.right_below) }
sides_below operator tree l r is = absurd (some_none (l, r) (sym is))

-- a comma joins what its sides join, and any other term is alone

pub joined_sides : (tree l r : Tree) → sides_of (codes ",") tree ≡ Some (l, r) → joined tree ≡ joined l ++ joined r
joined_sides (compound name (more left (more right none)) form span) l r is =
    of_sides (λ a b. joined a ++ joined b) (compound name (more left (more right none)) form span ∷ []) (bytes_eq name (codes ",")) left right l r is
joined_sides (paren inner span) l r is = joined_sides inner l r is
joined_sides tree l r is = absurd (some_none (l, r) (sym is))

pub joined_alone : (tree : Tree) → sides_of (codes ",") tree ≡ None → joined tree ≡ inside tree ∷ []
joined_alone (compound name (more left (more right none)) form span) is =
    of_none (λ a b. joined a ++ joined b) (compound name (more left (more right none)) form span ∷ []) (bytes_eq name (codes ",")) left right is
joined_alone (paren inner span) is = joined_alone inner is
joined_alone tree is = refl

-- weights

pub inside_weight : (tree : Tree) → weight (inside tree) ≤ weight tree
inside_weight (variable span) = omega arith
inside_weight (constant kind minus value span) = omega arith
inside_weight (atom name span) = omega arith
inside_weight (compound name args form span) = omega arith
inside_weight (listed items span) = omega arith
inside_weight (tailed items tail span) = omega arith
inside_weight (curly inner span) = omega arith
inside_weight (paren inner span) = omega (arith, inside_weight inner)

-- each side weighs less, and both together
weight_if : (test : Bool) (left right l r : Tree) → pair_if test left right ≡ Some (l, r) → weight l + weight r ≡ weight left + weight right
weight_if true left right l r is =
    let both : (left, right) ≡ (l, r) = some_once is in
    omega (arith, ap (λ (pair : Tree × Tree). weight pair.0) both, ap (λ (pair : Tree × Tree). weight pair.1) both)
weight_if false left right l r is = absurd (some_none (l, r) (sym is))

pub sides_weight : (operator : List ℕ) (tree l r : Tree) → sides_of operator tree ≡ Some (l, r) → weight l + weight r + 2 ≤ weight tree
sides_weight operator (compound name (more left (more right none)) form span) l r is = omega (arith, weight_if (bytes_eq name operator) left right l r is)
sides_weight operator (paren inner span) l r is = omega (arith, sides_weight operator inner l r is)
sides_weight operator tree l r is = absurd (some_none (l, r) (sym is))

pub items_count : (trees : Trees) → length (trees_in trees) ≤ weights trees
items_count none = omega arith
items_count (more tree trees) = omega (arith, items_count trees)

pub count_weight : (trees : Trees) → count trees ≤ weights trees
count_weight none = omega arith
count_weight (more tree trees) = omega (arith, count_weight trees)

-- one of them weighs less
pub part_weight : (trees : List Tree) (at : ℕ) (tree : Tree) → at < length trees → tree ≡ get_or trees at tree → weight tree + 1 ≤ weights (trees_from trees)
part_weight [] at tree lt is = absurd (omega (arith, lt))
part_weight (first ∷ trees) zero tree lt is = omega (arith, ap weight is)
part_weight (first ∷ trees) (suc at) tree lt is = omega (arith, part_weight trees at tree (omega (arith, lt)) is)

-- a predicate that a term names has no more arguments than the term weighs
arity_at_weight : (tree : Tree) (named : Named) → named_at tree ≡ Some named → named.arity ≤ weight tree
arity_at_weight (atom name span) named is = let same : record { name = name; arity = 0 } ≡ named = some_once is in omega (arith, ap (λ (n : Named). n.arity) same)
arity_at_weight (compound name args form span) named is =
    let same : record { name = name; arity = count args } ≡ named = some_once is in omega (arith, count_weight args, ap (λ (n : Named). n.arity) same)
arity_at_weight tree named is = absurd (some_none named (sym is))

pub arity_weight : (tree : Tree) (named : Named) → name_and_arity tree ≡ Some named → named.arity ≤ weight tree
arity_weight tree named is = omega (arith, arity_at_weight (inside tree) named is, inside_weight tree)
