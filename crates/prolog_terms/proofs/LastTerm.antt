-- The nodes of the last term, by the size of its last node, are a term by themselves.
use Rattle.std.proofs.Common.{◌≡◌, fold, ℕ, zero, suc, ◌+◌, ◌-◌, ◌<◌, ◌≤◌, List, [], ◌∷◌, ◌++◌, Some, length, take, drop, get_or, replicate, slice_get, ap, sym, refl, subst, ◌∙◌, arith, append_assoc, length-append}
use Rattle.std.specs.Prelude.{slice_range}
use Rattle.std.proofs.Math.Seq.{take-append-add}
use Rattle.std.proofs.lemmas.List.{append-nil, append_cancel_left, append_cancel_right, get_or_append_left, get_or-append-add, length-replicate, take-append-drop, take-append-le, take_more}
use Rattle.std.proofs.lemmas.List.Folds.{drop_split}
use Rattle.std.proofs.lemmas.List.Sums.{fold-append}
use Rattle.std.proofs.lemmas.Option.{slice_get_within, get_or_from_slice_get, slice_get-get_or}
use Rattle.prolog_terms.specs.declared.node.Node.{Node}
use Rattle.prolog_terms.specs.declared.node.TheConstants.{MANY}
use Rattle.prolog_terms.specs.declared.node.Shape.{Shape}
use Rattle.prolog_terms.specs.declared.node.Shape.TheVariants as shape
use Rattle.prolog_terms.specs.declared.term.Span.{Span}
use Rattle.prolog_terms.specs.Tree.{Tree, Trees, none, more}
use Rattle.prolog_terms.specs.Weight.{weight, weights}
use Rattle.prolog_terms.specs.Forest.{last_of, before_last, parts_of, without, taken, node_tree, step, forest}
use Rattle.prolog_terms.specs.Sized.{IsSized, AreWhole, AreTerms}
use Rattle.prolog_terms.specs.Terms.{root_tree, tree_in}
use Rattle.prolog_terms.proofs.SizedNodes.{forest_push}
use Rattle.prolog_terms.proofs.WholeNodes.{behind_front, first_left, forest_join, last_before, length_without, no_terms, whole_push, count_push}

-- how many nodes the trees have
abbrev nodes_in : List Tree → ℕ
nodes_in [] = 0
nodes_in (tree ∷ trees) = suc (weight tree + nodes_in trees)

nodes_join : (trees before : List Tree) → nodes_in (trees ++ before) ≡ nodes_in trees + nodes_in before
nodes_join [] before = omega arith
nodes_join (tree ∷ trees) before = omega (arith, nodes_join trees before)

some_tree : (trees : List Tree) → 0 < nodes_in trees → 1 ≤ length trees
some_tree [] some = let never : ⊥ = omega (arith, some) in absurd never
some_tree (tree ∷ trees) some = omega arith

nodes_of_parts : (n : ℕ) (trees : List Tree) (behind : Trees) → n ≤ length trees
    → weights (parts_of n trees behind) + nodes_in (without n trees) ≡ nodes_in trees + weights behind
nodes_of_parts zero trees behind enough = omega arith
nodes_of_parts (suc n) [] behind enough = let never : ⊥ = omega (arith, enough) in absurd never
nodes_of_parts (suc n) (tree ∷ trees) behind enough = nodes_of_parts n trees (more tree behind) (omega (arith, enough)) ∙ omega arith

-- a node of which no part is missing adds one
nodes_of_tree : (names : List (List ℕ)) (shape : Shape) (span : Span) (trees : List Tree) → taken shape ≤ length trees
    → weight (node_tree names shape span trees) + nodes_in (without (taken shape) trees) ≡ nodes_in trees
nodes_of_tree names shape.Var span trees enough = omega arith
nodes_of_tree names (shape.Const kind minus value) span trees enough = omega arith
nodes_of_tree names (shape.Atom name) span trees enough = omega arith
nodes_of_tree names (shape.Compound name count form) span trees enough = omega (arith, nodes_of_parts count trees none enough)
nodes_of_tree names (shape.List count) span trees enough = omega (arith, nodes_of_parts count trees none enough)
nodes_of_tree names (shape.Tailed count) span [] enough = let never : ⊥ = omega (arith, enough) in absurd never
nodes_of_tree names (shape.Tailed count) span (tree ∷ trees) enough = omega (arith, nodes_of_parts count trees none (omega (arith, enough)))
nodes_of_tree names shape.Curly span [] enough = let never : ⊥ = omega (arith, enough) in absurd never
nodes_of_tree names shape.Curly span (tree ∷ trees) enough = omega arith
nodes_of_tree names shape.Paren span [] enough = let never : ⊥ = omega (arith, enough) in absurd never
nodes_of_tree names shape.Paren span (tree ∷ trees) enough = omega arith

abbrev some_node : Node
some_node = record { shape = shape.Var; span = record { from = 0; to = 0 }; size = 1 }

module _ (nodes : List Node) (whole : AreWhole nodes) where
  -- no node takes more trees than there are
  enough_there : (names : List (List ℕ)) (at : ℕ) (node : Node) → take (at + 1) nodes ≡ take at nodes ++ node ∷ []
      → taken node.shape ≤ length (forest names (take at nodes))
  enough_there names at node is =
      let count = taken node.shape in
      let trees = forest names (take at nodes) in
      let before = replicate count (last_of []) in
      let grown : fold (step names) before (take at nodes ++ node ∷ []) ≡ forest names (take at nodes ++ node ∷ []) ++ before =
      subst (λ ns. fold (step names) before ns ≡ forest names ns ++ before) is (whole.leaves names before (at + 1)) in
      let alike : step names (trees ++ before) node ≡ step names trees node ++ before =
      sym (fold-append (step names) before (take at nodes) (node ∷ []) ∙ ap (λ ts. step names ts node) (whole.leaves names before at))
      ∙ (grown ∙ ap (λ ts. ts ++ before) (forest_push names (take at nodes) node)) in
      omega (
        arith,
        ap length alike,
        length-append (step names trees node) before,
        length_without count (trees ++ before),
        length_without count trees,
        length-append trees before,
        length-replicate count (last_of []),
      )

  node_there : (at : ℕ) → at < length nodes → take (at + 1) nodes ≡ take at nodes ++ get_or nodes at some_node ∷ []
  node_there at lt = take_more nodes at some_node lt

  -- the trees have as many nodes as they are made of
  nodes_there : (names : List (List ℕ)) (end : ℕ) → end ≤ length nodes → nodes_in (forest names (take end nodes)) ≡ end
  nodes_there names zero within = refl
  nodes_there names (suc end) within =
      let node = get_or nodes end some_node in
      let is = node_there end (omega (arith, within)) in
      let next : suc end ≡ end + 1 = omega arith in
      let trees = forest names (take end nodes) in
      ap (λ k. nodes_in (forest names (take k nodes))) next
      ∙ (ap (λ ns. nodes_in (forest names ns)) is
      ∙ (ap nodes_in (forest_push names (take end nodes) node)
      ∙ omega (arith, nodes_of_tree names node.shape node.span trees (enough_there names end node is), nodes_there names end (omega (arith, within)))))

-- the nodes at the end that are so many terms by themselves
record LastTerms (nodes : List Node) (end terms : ℕ) : Type 0 where
  from : ℕ
  back : List Node
  is : take end nodes ≡ take from nodes ++ back
  within : from ≤ end
  whole : AreWhole back
  count : (names : List (List ℕ)) → length (forest names back) ≡ terms

one_more : (nodes front back : List Node) (end : ℕ) (node : Node) → take (end + 1) nodes ≡ take end nodes ++ node ∷ [] → take end nodes ≡ front ++ back
    → take (suc end) nodes ≡ front ++ (back ++ node ∷ [])
one_more nodes front back end node is parts =
    let next : suc end ≡ end + 1 = omega arith in
    ap (λ k. take k nodes) next ∙ (is ∙ (ap (λ ns. ns ++ node ∷ []) parts ∙ append_assoc front back (node ∷ [])))

last_terms : (nodes : List Node) → AreWhole nodes → (end terms : ℕ) → end ≤ length nodes → terms ≤ length (forest [] (take end nodes)) → LastTerms nodes end terms
last_terms nodes whole end zero within some = record {
  from = end;
  back = [];
  is = sym (append-nil (take end nodes));
  within = omega arith;
  whole = no_terms.whole;
  count = λ names. refl;
}
last_terms nodes whole zero (suc terms) within some = let never : ⊥ = omega (arith, some) in absurd never
last_terms nodes whole (suc end) (suc terms) within some =
    let node = get_or nodes end some_node in
    let count = taken node.shape in
    let is = node_there nodes whole end (omega (arith, within)) in
    let next : suc end ≡ end + 1 = omega arith in
    let trees = forest [] (take end nodes) in
    let grown : forest [] (take (suc end) nodes) ≡ step [] trees node =
    ap (λ k. forest [] (take k nodes)) next ∙ (ap (forest []) is ∙ forest_push [] (take end nodes) node) in
    let many : terms + count ≤ length trees =
    omega (arith, some, ap length grown, length_without count trees, enough_there nodes whole [] end node is) in
    let rest = last_terms nodes whole end (terms + count) (omega (arith, within)) many in
    let enough : (names : List (List ℕ)) → count ≤ length (forest names rest.back) = λ names. omega (arith, rest.count names) in
    record {
      from = rest.from;
      back = rest.back ++ node ∷ [];
      is = one_more nodes (take rest.from nodes) rest.back end node is rest.is;
      within = omega (arith, rest.within);
      whole = whole_push rest.back node enough rest.whole;
      count = λ names. count_push rest.back node enough (terms + count) rest.count names ∙ omega arith;
    }

-- nodes between others, which take nothing from before them, with the sizes that they have there
module _ (front back after : List Node) (all_whole : AreWhole ((front ++ back) ++ after)) (whole : AreWhole back) where
  abbrev all : List Node
  all = (front ++ back) ++ after

  reach : (j : ℕ) → j ≤ length back → take (length front + j) all ≡ front ++ take j back
  reach j within = take-append-le (length front + j) (front ++ back) after (omega (arith, within, length-append front back)) ∙ take-append-add front back j

  there : (k : ℕ) (node : Node) → slice_get back k ≡ Some node → slice_get all (length front + k) ≡ Some node
  there k node is =
      let lt : length front + k < length (front ++ back) = omega (arith, slice_get_within back k node is, length-append front back) in
      slice_get-get_or all (length front + k) node (omega (arith, lt, length-append (front ++ back) after))
      ∙ ap (λ n. Some n)
      (get_or_append_left (front ++ back) after node (length front + k) lt ∙ (get_or-append-add front back k node ∙ get_or_from_slice_get back k node node is))

  beyond : (names : List (List ℕ)) (j : ℕ) → j ≤ length back → forest names (take (length front + j) all) ≡ forest names (take j back) ++ forest names front
  beyond names j within = ap (forest names) (reach j within) ∙ behind_front front back whole names j

  gone : (names : List (List ℕ)) (k : ℕ) (node : Node) → slice_get back k ≡ Some node
      → before_last (forest names (take (length front + k + 1) all)) ≡ before_last (forest names (take (k + 1) back)) ++ forest names front
  gone names k node is =
      let place : length front + k + 1 ≡ length front + (k + 1) = omega arith in
      ap (λ n. before_last (forest names (take n all))) place
      ∙ (ap before_last (beyond names (k + 1) (omega (arith, slice_get_within back k node is))) ∙ first_left front back k node names (forest names front) is)

  small : IsSized all → (k : ℕ) (node : Node) → slice_get back k ≡ Some node → node.size < MANY → node.size ≤ k + 1
  small sized k node is few =
      let at = length front + k in
      let rest = before_last (forest [] (take (k + 1) back)) in
      let fits : at < length all = slice_get_within all at node (there k node is) in
      let left : nodes_in (forest [] (take (at + 1 - node.size) all)) ≡ nodes_in (rest ++ forest [] front) =
      ap nodes_in (sized.leads at node (there k node is) few [] ∙ gone [] k node is) in
      let own : nodes_in (forest [] (take (length front + 0) all)) ≡ nodes_in (forest [] front) = ap nodes_in (beyond [] 0 (omega arith)) in
      omega (
        arith,
        left,
        own,
        nodes_join rest (forest [] front),
        nodes_there all all_whole [] (at + 1 - node.size) (omega (arith, fits)),
        nodes_there all all_whole [] (length front + 0) (omega (arith, fits)),
        sized.within at node (there k node is) few,
      )

  sized_between : IsSized all → IsSized back
  sized_between sized = record { within = small sized; leads = leads }
    where
      leads : (k : ℕ) (node : Node) → slice_get back k ≡ Some node → node.size < MANY → (names : List (List ℕ))
          → forest names (take (k + 1 - node.size) back) ≡ before_last (forest names (take (k + 1) back))
      leads k node is few names =
          let at = length front + k in
          let start : length front + (k + 1 - node.size) ≡ at + 1 - node.size = omega (arith, small sized k node is few) in
          append_cancel_right (forest names (take (k + 1 - node.size) back)) (before_last (forest names (take (k + 1) back))) (forest names front)
          (sym (beyond names (k + 1 - node.size) (omega (arith, slice_get_within back k node is)))
          ∙ (ap (λ n. forest names (take n all)) start ∙ (sized.leads at node (there k node is) few names ∙ gone names k node is)))

one_left : (trees before : List Tree) → length trees ≡ 1 → before_last (trees ++ before) ≡ before
one_left [] before one = let never : ⊥ = omega (arith, one) in absurd never
one_left (tree ∷ []) before one = refl
one_left (tree ∷ second ∷ trees) before one = let never : ⊥ = omega (arith, one) in absurd never

-- the nodes from where the last term begins
module _ (nodes : List Node) (terms : ℕ) (are : AreTerms nodes terms) (end from : ℕ) (some : 0 < end) (there : end ≤ length nodes) (within : from ≤ end)
    (rest : (names : List (List ℕ)) → forest names (take from nodes) ≡ before_last (forest names (take end nodes))) where
  split : LastTerms nodes end 1
  split = last_terms nodes are.whole end 1 there (some_tree (forest [] (take end nodes)) (omega (arith, some, nodes_there nodes are.whole [] end there)))

  parted : (names : List (List ℕ)) → forest names (take end nodes) ≡ forest names split.back ++ forest names (take split.from nodes)
  parted names = ap (forest names) split.is ∙ forest_join (take split.from nodes) split.back split.whole names

  same_start : from ≡ split.from
  same_start =
      sym (nodes_there nodes are.whole [] from (omega (arith, there, within)))
      ∙ (ap nodes_in (rest [] ∙ (ap before_last (parted []) ∙ one_left (forest [] split.back) (forest [] (take split.from nodes)) (split.count [])))
      ∙ nodes_there nodes are.whole [] split.from (omega (arith, there, split.within)))

  cut : take end nodes ≡ take from nodes ++ split.back
  cut = split.is ∙ ap (λ k. take k nodes ++ split.back) (sym same_start)

  -- they are what follows those before them
  all_there : (take from nodes ++ split.back) ++ drop end nodes ≡ nodes
  all_there = ap (λ ns. ns ++ drop end nodes) (sym cut) ∙ take-append-drop end nodes

  slice_is : slice_range nodes from end ≡ split.back
  slice_is =
      append_cancel_right (slice_range nodes from end) split.back (drop end nodes)
      (append_cancel_left (take from nodes) (slice_range nodes from end ++ drop end nodes) (split.back ++ drop end nodes)
      (ap (λ ns. take from nodes ++ ns) (sym (drop_split nodes from end within))
      ∙ (take-append-drop from nodes ∙ (sym all_there ∙ append_assoc (take from nodes) split.back (drop end nodes)))))

  one_back : AreTerms split.back 1
  one_back = record {
    sized =
        sized_between (take from nodes) split.back (drop end nodes) (subst AreWhole (sym all_there) are.whole) split.whole (subst IsSized (sym all_there) are.sized);
    whole = split.whole;
    count = split.count;
  }

  pub one_slice : AreTerms (slice_range nodes from end) 1
  one_slice = subst (λ ns. AreTerms ns 1) (sym slice_is) one_back

  pub slice_root : (names : List (List ℕ)) → root_tree names (slice_range nodes from end) ≡ tree_in names nodes end
  slice_root names =
      ap (root_tree names) slice_is
      ∙ sym (ap last_of (parted names) ∙ last_before (forest names split.back) (forest names (take split.from nodes)) (omega (arith, split.count names)))
