-- What `dynamic` and `multifile` declare of a term, by what the term is.
use Rattle.std.proofs.Common.{◌≡◌, ℕ, zero, suc, ◌<◌, ◌≤◌, Bool, true, false, ◌&&◌, List, [], Option, Some, None, codes, length, get_or, refl, ap, subst, ◌∙◌, arith, if◌then◌else◌}
use Rattle.std.specs.Str.{bytes_eq}
use Rattle.prolog_terms.specs.Tree.{Tree, Trees, variable, constant, atom, compound, listed, tailed, curly, paren, more as with_more, none, depth, deepest}
use Rattle.prolog_terms.specs.Views.{trees_in, sides_of, atom_name}
use Rattle.prolog_terms.proofs.ViewLemmas.{some_once, pair_if, of_sides, of_none}
use Rattle.clause_text.specs.declared.cause.Cause.TheVariants.{BadIndicator}
use Rattle.module_table.specs.declared.dynamic.Standing.{Standing}
use Rattle.module_table.specs.declared.dynamic.Standing.TheVariants.{Whole, Joint, Item}
use Rattle.module_table.specs.declared.mark.Property.{Property}
use Rattle.module_table.specs.Said.{Said, refused, in_turn, each_said}
use Rattle.module_table.specs.Indicators.{list_of}
use Rattle.module_table.specs.Dynamic.{bare_said, is_joint, joint_sides, whole_items, dynamic_at, each_dynamic}

module _ (property : Property) where
  -- the sides of a comma

  pub dynamic_joint : (at : Standing) (owner : List ℕ) (tree l r : Tree) → joint_sides at tree ≡ Some (l, r)
      → dynamic_at property at owner tree ≡ in_turn (dynamic_at property Joint owner l) (dynamic_at property Joint owner r)
  dynamic_joint Whole owner (compound name (with_more left (with_more right none)) form span) l r is =
      of_sides (λ a b. in_turn (dynamic_at property Joint owner a) (dynamic_at property Joint owner b)) _ (bytes_eq name (codes ",")) left right l r is
  dynamic_joint Joint owner (compound name (with_more left (with_more right none)) form span) l r is =
      of_sides (λ a b. in_turn (dynamic_at property Joint owner a) (dynamic_at property Joint owner b)) _ (bytes_eq name (codes ",")) left right l r is
  dynamic_joint Item owner tree l r is = let both : None ≡ Some (l, r) = is in absurd (cc)
  dynamic_joint at owner (paren inner span) l r is = dynamic_joint at owner inner l r is
  dynamic_joint Whole owner tree l r is = let both : None ≡ Some (l, r) = is in absurd (cc)
  dynamic_joint Joint owner tree l r is = let both : None ≡ Some (l, r) = is in absurd (cc)

  -- no comma

  no_comma : (joint comma : Bool) (left right : Tree) → (if joint then pair_if comma left right else None) ≡ None → (joint && comma) ≡ false
  no_comma true true left right is = let both : Some (left, right) ≡ None = is in absurd (cc)
  no_comma true false left right is = refl
  no_comma false comma left right is = refl

  passed : {X : Type 0} (test : Bool) (a b : X) → test ≡ false → (if test then a else b) ≡ b
  passed test a b is = ap (λ t. if t then a else b) is

  abbrev in_module : Tree → Tree → Tree → Said
  in_module tree left right = elim (atom_name left) [ Some own ↦ dynamic_at property Whole own right | None ↦ refused BadIndicator tree ]

  pub dynamic_colon : (at : Standing) (owner : List ℕ) (tree l r : Tree) → joint_sides at tree ≡ None → sides_of (codes ":") tree ≡ Some (l, r)
      → dynamic_at property at owner tree ≡ in_module tree l r
  dynamic_colon at owner (compound name (with_more left (with_more right none)) form span) l r alone is =
      let tree = compound name (with_more left (with_more right none)) form span in
      passed (is_joint at && bytes_eq name (codes ",")) _ _ (no_comma (is_joint at) (bytes_eq name (codes ",")) left right alone)
      ∙ of_sides (in_module tree) (bare_said property owner tree) (bytes_eq name (codes ":")) left right l r is
  dynamic_colon at owner (paren inner span) l r alone is = dynamic_colon at owner inner l r alone is
  dynamic_colon at owner tree l r alone is = let both : None ≡ Some (l, r) = is in absurd (cc)

  pub dynamic_within : (at : Standing) (owner : List ℕ) (tree l r : Tree) (own : List ℕ) → joint_sides at tree ≡ None → sides_of (codes ":") tree ≡ Some (l, r)
      → atom_name l ≡ Some own → dynamic_at property at owner tree ≡ dynamic_at property Whole own r
  dynamic_within at owner tree l r own alone is named =
      dynamic_colon at owner tree l r alone is ∙ ap (λ found. elim found [ Some inner ↦ dynamic_at property Whole inner r | None ↦ refused BadIndicator tree ]) named

  pub dynamic_nameless : (at : Standing) (owner : List ℕ) (tree l r : Tree) → joint_sides at tree ≡ None → sides_of (codes ":") tree ≡ Some (l, r)
      → atom_name l ≡ None → dynamic_at property at owner tree ≡ refused BadIndicator tree
  dynamic_nameless at owner tree l r alone is named =
      dynamic_colon at owner tree l r alone is ∙ ap (λ found. elim found [ Some inner ↦ dynamic_at property Whole inner r | None ↦ refused BadIndicator tree ]) named

  -- a list

  each_as_list : (owner : List ℕ) (trees : Trees) → each_dynamic property owner trees ≡ each_said (dynamic_at property Item owner) (trees_in trees)
  each_as_list owner none = refl
  each_as_list owner (with_more tree trees) = ap (in_turn (dynamic_at property Item owner tree)) (each_as_list owner trees)

  empty_said : (owner : List ℕ) (test : Bool) (items : List Tree) (other : Said) → (if test then Some [] else None) ≡ Some items
      → (if test then each_dynamic property owner none else other) ≡ each_said (dynamic_at property Item owner) items
  empty_said owner true items other is = ap (each_said (dynamic_at property Item owner)) (some_once is)
  empty_said owner false items other is = let both : None ≡ Some items = is in absurd (cc)

  pub dynamic_list : (at : Standing) (owner : List ℕ) (tree : Tree) (items : List Tree) → whole_items at tree ≡ Some items
      → dynamic_at property at owner tree ≡ each_said (dynamic_at property Item owner) items
  dynamic_list Joint owner tree items is = let both : None ≡ Some items = is in absurd (cc)
  dynamic_list Item owner tree items is = let both : None ≡ Some items = is in absurd (cc)
  dynamic_list Whole owner (listed own span) items is = each_as_list owner own ∙ ap (each_said (dynamic_at property Item owner)) (some_once is)
  dynamic_list Whole owner (atom name span) items is = empty_said owner (bytes_eq name (codes "[]")) items (refused BadIndicator (atom name span)) is
  dynamic_list Whole owner (paren inner span) items is = dynamic_list Whole owner inner items is
  dynamic_list Whole owner tree items is = let both : None ≡ Some items = is in absurd (cc)

  -- anything else

  abbrev some_list : List Tree → Option (List Tree)
  some_list items = Some items

  pub dynamic_alone : (at : Standing) (owner : List ℕ) (tree : Tree) → joint_sides at tree ≡ None → sides_of (codes ":") tree ≡ None → whole_items at tree ≡ None
      → dynamic_at property at owner tree ≡ bare_said property owner tree
  dynamic_alone at owner (compound name (with_more left (with_more right none)) form span) alone plain bare =
      let tree = compound name (with_more left (with_more right none)) form span in
      passed (is_joint at && bytes_eq name (codes ",")) _ _ (no_comma (is_joint at) (bytes_eq name (codes ",")) left right alone)
      ∙ of_none (in_module tree) (bare_said property owner tree) (bytes_eq name (codes ":")) left right plain
  dynamic_alone at owner (compound name none form span) alone plain bare = refl
  dynamic_alone at owner (compound name (with_more a none) form span) alone plain bare = refl
  dynamic_alone at owner (compound name (with_more a (with_more b (with_more c others))) form span) alone plain bare = refl
  dynamic_alone Whole owner (listed items span) alone plain bare = let both : Some (trees_in items) ≡ None = bare in absurd (cc)
  dynamic_alone Joint owner (listed items span) alone plain bare = refl
  dynamic_alone Item owner (listed items span) alone plain bare = refl
  dynamic_alone Whole owner (atom name span) alone plain bare = not_empty (bytes_eq name (codes "[]")) bare
    where
      not_empty : (test : Bool) → (if test then some_list [] else None) ≡ None → (if test then each_dynamic property owner none else refused BadIndicator (atom name span)) ≡ refused BadIndicator (atom name span)
      not_empty true is = let both : some_list [] ≡ None = is in absurd (cc)
      not_empty false is = refl
  dynamic_alone Joint owner (atom name span) alone plain bare = refl
  dynamic_alone Item owner (atom name span) alone plain bare = refl
  dynamic_alone at owner (paren inner span) alone plain bare = dynamic_alone at owner inner alone plain bare
  dynamic_alone at owner (variable span) alone plain bare = refl
  dynamic_alone at owner (constant kind minus value span) alone plain bare = refl
  dynamic_alone at owner (tailed items tail span) alone plain bare = refl
  dynamic_alone at owner (curly inner span) alone plain bare = refl

-- the items of a list are less deep

in_deepest : (trees : Trees) (i : ℕ) (d : Tree) → i < length (trees_in trees) → depth (get_or (trees_in trees) i d) ≤ deepest trees
in_deepest none i d below = absurd (omega (arith, below))
in_deepest (with_more tree trees) zero d below = omega arith
in_deepest (with_more tree trees) (suc i) d below = omega (arith, in_deepest trees i d (omega (arith, below)))

pub items_below : (tree : Tree) (items : List Tree) → list_of tree ≡ Some items → (i : ℕ) (d : Tree) → i < length items → depth (get_or items i d) < depth tree
items_below (listed own span) items is i d below =
    let same : trees_in own ≡ items = some_once is in
    subst (λ its. i < length its → depth (get_or its i d) < depth (listed own span)) same (λ within. omega (arith, in_deepest own i d within)) below
items_below (atom name span) items is i d below = no_items (bytes_eq name (codes "[]")) is
  where
    no_items : (test : Bool) → (if test then Some [] else None) ≡ Some items → depth (get_or items i d) < depth (atom name span)
    no_items true same = absurd (omega (arith, ap length (some_once {x = []} {y = items} same), below))
    no_items false same = let both : None ≡ Some items = same in absurd (cc)
items_below (paren inner span) items is i d below = omega (arith, items_below inner items is i d below)
items_below tree items is i d below = let both : None ≡ Some items = is in absurd (cc)

pub whole_list : (at : Standing) (tree : Tree) (items : List Tree) → whole_items at tree ≡ Some items → list_of tree ≡ Some items
whole_list Whole tree items is = is
whole_list Joint tree items is = let both : None ≡ Some items = is in absurd (cc)
whole_list Item tree items is = let both : None ≡ Some items = is in absurd (cc)

pub joint_pair : (at : Standing) (tree l r : Tree) → joint_sides at tree ≡ Some (l, r) → sides_of (codes ",") tree ≡ Some (l, r)
joint_pair Whole tree l r is = is
joint_pair Joint tree l r is = is
joint_pair Item tree l r is = let both : None ≡ Some (l, r) = is in absurd (cc)
