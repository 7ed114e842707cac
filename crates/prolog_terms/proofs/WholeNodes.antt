-- Nodes that take nothing from before them: with a node more, and behind other nodes.
use Rattle.std.proofs.Common.{◌≡◌, fold, ℕ, zero, suc, ◌+◌, ◌-◌, ◌<◌, ◌≤◌, List, [], ◌∷◌, ◌++◌, Some, length, take, slice_get, ap, sym, refl, subst, inl, inr, ◌∙◌, arith, append_assoc, length-append}
use Rattle.std.proofs.Math.Seq.{take-append-add, get_or-append_right}
use Rattle.std.proofs.lemmas.Bool.{cases_lt}
use Rattle.std.proofs.lemmas.List.{take-append-le, length_push, get_or_append_left, take_all}
use Rattle.std.proofs.lemmas.List.Sums.{fold-append}
use Rattle.std.proofs.lemmas.Option.{slice_get_within, get_or_from_slice_get, slice_get-get_or}
use Rattle.prolog_terms.specs.declared.node.Node.{Node}
use Rattle.prolog_terms.specs.declared.node.TheConstants.{MANY}
use Rattle.prolog_terms.specs.declared.node.Shape.{Shape}
use Rattle.prolog_terms.specs.declared.node.Shape.TheVariants as shape
use Rattle.prolog_terms.specs.declared.term.Span.{Span}
use Rattle.prolog_names.specs.Names.{name_at}
use Rattle.prolog_terms.specs.Tree.{Tree, Trees, compound, listed, tailed, curly, paren, none, more}
use Rattle.prolog_terms.specs.Forest.{last_of, before_last, parts_of, without, taken, node_tree, step, forest}
use Rattle.prolog_terms.specs.Sized.{IsSized, AreWhole, AreTerms, filled}
use Rattle.prolog_terms.specs.Terms.{root_tree}
use Rattle.prolog_terms.proofs.SizedNodes.{take_node, forest_push, sized_push}

-- as many trees as are taken are the same where missing ones are filled in

pub parts_filled : (n : ℕ) (trees : List Tree) (behind : Trees) → parts_of n (filled n trees) behind ≡ parts_of n trees behind
parts_filled zero trees behind = refl
parts_filled (suc n) trees behind = parts_filled n (before_last trees) (more (last_of trees) behind)

pub without_filled : (n : ℕ) (trees : List Tree) → without n (filled n trees) ≡ without n trees
without_filled zero trees = refl
without_filled (suc n) trees = without_filled n (before_last trees)

pub node_filled : (names : List (List ℕ)) (shape : Shape) (span : Span) (trees : List Tree) → node_tree names shape span (filled (taken shape) trees) ≡ node_tree names shape span trees
node_filled names shape.Var span trees = refl
node_filled names (shape.Const kind minus value) span trees = refl
node_filled names (shape.Atom name) span trees = refl
node_filled names (shape.Compound name count form) span trees = ap (λ args. compound (name_at names name) args form span) (parts_filled count trees none)
node_filled names (shape.List count) span trees = ap (λ items. listed items span) (parts_filled count trees none)
node_filled names (shape.Tailed count) span trees = ap (λ items. tailed items (last_of trees) span) (parts_filled count (before_last trees) none)
node_filled names shape.Curly span trees = refl
node_filled names shape.Paren span trees = refl

-- enough trees are left as they are
pub filled_enough : (n : ℕ) (trees : List Tree) → n ≤ length trees → filled n trees ≡ trees
filled_enough zero trees enough = refl
filled_enough (suc n) [] enough = let never : ⊥ = omega (arith, enough) in absurd never
filled_enough (suc n) (tree ∷ trees) enough = ap (λ ts. tree ∷ ts) (filled_enough n trees (omega (arith, enough)))

-- and where one is missing, it may be filled in before
pub filled_one : (n : ℕ) (trees : List Tree) → length trees < n → filled n (trees ++ last_of [] ∷ []) ≡ filled n trees
filled_one zero trees few = let never : ⊥ = omega (arith, few) in absurd never
filled_one (suc n) [] few = refl
filled_one (suc n) (tree ∷ trees) few = ap (λ ts. tree ∷ ts) (filled_one n trees (omega (arith, few)))

-- where there are enough trees, what stands before them doesn't matter

without_before : (n : ℕ) (trees before : List Tree) → n ≤ length trees → without n (trees ++ before) ≡ without n trees ++ before
without_before zero trees before enough = refl
without_before (suc n) [] before enough = let never : ⊥ = omega (arith, enough) in absurd never
without_before (suc n) (tree ∷ trees) before enough = without_before n trees before (omega (arith, enough))

parts_before : (n : ℕ) (trees before : List Tree) (behind : Trees) → n ≤ length trees → parts_of n (trees ++ before) behind ≡ parts_of n trees behind
parts_before zero trees before behind enough = refl
parts_before (suc n) [] before behind enough = let never : ⊥ = omega (arith, enough) in absurd never
parts_before (suc n) (tree ∷ trees) before behind enough = parts_before n trees before (more tree behind) (omega (arith, enough))

pub last_before : (trees before : List Tree) → 1 ≤ length trees → last_of (trees ++ before) ≡ last_of trees
last_before [] before some = let never : ⊥ = omega (arith, some) in absurd never
last_before (tree ∷ trees) before some = refl

tailed_before : (n : ℕ) (span : Span) (trees before : List Tree) → suc n ≤ length trees
    → tailed (parts_of n (before_last (trees ++ before)) none) (last_of (trees ++ before)) span ≡ tailed (parts_of n (before_last trees) none) (last_of trees) span
tailed_before n span [] before enough = let never : ⊥ = omega (arith, enough) in absurd never
tailed_before n span (tree ∷ trees) before enough = ap (λ items. tailed items tree span) (parts_before n trees before none (omega (arith, enough)))

node_before : (names : List (List ℕ)) (shape : Shape) (span : Span) (trees before : List Tree) → taken shape ≤ length trees
    → node_tree names shape span (trees ++ before) ≡ node_tree names shape span trees
node_before names shape.Var span trees before enough = refl
node_before names (shape.Const kind minus value) span trees before enough = refl
node_before names (shape.Atom name) span trees before enough = refl
node_before names (shape.Compound name count form) span trees before enough = ap (λ args. compound (name_at names name) args form span) (parts_before count trees before none enough)
node_before names (shape.List count) span trees before enough = ap (λ items. listed items span) (parts_before count trees before none enough)
node_before names (shape.Tailed count) span trees before enough = tailed_before count span trees before enough
node_before names shape.Curly span trees before enough = ap (λ inner. curly inner span) (last_before trees before enough)
node_before names shape.Paren span trees before enough = ap (λ inner. paren inner span) (last_before trees before enough)

pub length_without : (n : ℕ) (trees : List Tree) → length (without n trees) ≡ length trees - n
length_without zero trees = omega arith
length_without (suc n) [] = length_without n [] ∙ omega arith
length_without (suc n) (tree ∷ trees) = length_without n trees ∙ omega arith

-- no nodes, and one that takes nothing

pub no_terms : AreTerms [] 0
no_terms = record {
  sized = record { within = λ at node is few. absurd (none_there at node is); leads = λ at node is. absurd (none_there at node is) };
  whole = record { leaves = λ names before end. ap (fold (step names) before) (none_taken end) ∙ sym (ap (λ nodes. forest names nodes ++ before) (none_taken end)) };
  count = λ names. refl;
}
  where
    none_there : (at : ℕ) (node : Node) → slice_get [] at ≡ Some node → ⊥
    none_there at node is = let within = slice_get_within [] at node is in omega (arith, within)

    none_taken : (end : ℕ) → ◌≡◌ {A = List Node} (take end []) []
    none_taken end = take_all end [] (omega arith)

-- trees before which others stand, of whole nodes
before_all : (nodes : List Node) → AreWhole nodes → (names : List (List ℕ)) (before : List Tree) → fold (step names) before nodes ≡ forest names nodes ++ before
before_all nodes whole names before =
    let all : take (length nodes) nodes ≡ nodes = take_all (length nodes) nodes (omega arith) in
    subst (λ ns. fold (step names) before ns ≡ forest names ns ++ before) all (whole.leaves names before (length nodes))

-- with a node more that takes no more trees than there are
module _ (nodes : List Node) (node : Node) (enough : (names : List (List ℕ)) → taken node.shape ≤ length (forest names nodes)) where
  pub whole_push : AreWhole nodes → AreWhole (nodes ++ node ∷ [])
  whole_push whole = record { leaves = leaves }
    where
      last : (names : List (List ℕ)) (before : List Tree) → fold (step names) before (nodes ++ node ∷ []) ≡ forest names (nodes ++ node ∷ []) ++ before
      last names before =
          let trees = forest names nodes in
          fold-append (step names) before nodes (node ∷ [])
          ∙ (ap (λ ts. step names ts node) (before_all nodes whole names before)
          ∙ ((λ i. node_before names node.shape node.span trees before (enough names) i ∷ without_before (taken node.shape) trees before (enough names) i)
          ∙ sym (ap (λ ts. ts ++ before) (forest_push names nodes node))))

      leaves : (names : List (List ℕ)) (before : List Tree) (end : ℕ) → fold (step names) before (take end (nodes ++ node ∷ [])) ≡ forest names (take end (nodes ++ node ∷ [])) ++ before
      leaves names before end = elim (cases_lt (length nodes) end) [
        | inl past ↦
            let all : take end (nodes ++ node ∷ []) ≡ nodes ++ node ∷ [] = take_all end (nodes ++ node ∷ []) (omega (arith, past, length_push nodes node)) in
            subst (λ ns. fold (step names) before ns ≡ forest names ns ++ before) (sym all) (last names before)
        | inr within ↦
            subst (λ ns. fold (step names) before ns ≡ forest names ns ++ before) (sym (take-append-le end nodes (node ∷ []) within)) (whole.leaves names before end)
      ]

  pub count_push : (terms : ℕ) → ((names : List (List ℕ)) → length (forest names nodes) ≡ terms) → (names : List (List ℕ))
      → length (forest names (nodes ++ node ∷ [])) ≡ terms - taken node.shape + 1
  count_push terms count names =
      ap length (forest_push names nodes node) ∙ omega (arith, length_without (taken node.shape) (forest names nodes), count names)

-- nodes behind others
module _ (front nodes : List Node) where
  pub behind_front : AreWhole nodes → (names : List (List ℕ)) (end : ℕ) → forest names (front ++ take end nodes) ≡ forest names (take end nodes) ++ forest names front
  behind_front whole names end = fold-append (step names) [] front (take end nodes) ∙ whole.leaves names (forest names front) end

  so_many : (end : ℕ) → length front ≤ end → take end (front ++ nodes) ≡ front ++ take (end - length front) nodes
  so_many end past =
      let place : length front + (end - length front) ≡ end = omega (arith, past) in
      ap (λ k. take k (front ++ nodes)) (sym place) ∙ take-append-add front nodes (end - length front)

  pub forest_join : AreWhole nodes → (names : List (List ℕ)) → forest names (front ++ nodes) ≡ forest names nodes ++ forest names front
  forest_join whole names = fold-append (step names) [] front nodes ∙ before_all nodes whole names (forest names front)

  whole_join : AreWhole front → AreWhole nodes → AreWhole (front ++ nodes)
  whole_join first whole = record { leaves = leaves }
    where
      leaves : (names : List (List ℕ)) (before : List Tree) (end : ℕ) → fold (step names) before (take end (front ++ nodes)) ≡ forest names (take end (front ++ nodes)) ++ before
      leaves names before end = elim (cases_lt end (length front)) [
        | inl within ↦
            subst (λ ns. fold (step names) before ns ≡ forest names ns ++ before) (sym (take-append-le end front nodes (omega (arith, within)))) (first.leaves names before end)
        | inr past ↦
            let k = end - length front in
            subst (λ ns. fold (step names) before ns ≡ forest names ns ++ before) (sym (so_many end past))
            (fold-append (step names) before front (take k nodes)
            ∙ (ap (λ ts. fold (step names) ts (take k nodes)) (before_all front first names before)
            ∙ (whole.leaves names (forest names front ++ before) k
            ∙ (sym (append_assoc (forest names (take k nodes)) (forest names front) before)
            ∙ ap (λ ts. ts ++ before) (sym (behind_front whole names k))))))
      ]

  earlier : (at : ℕ) (node : Node) → slice_get (front ++ nodes) at ≡ Some node → at < length front → slice_get front at ≡ Some node
  earlier at node is within =
      slice_get-get_or front at node within ∙ ap (λ n. Some n) (sym (get_or_append_left front nodes node at within) ∙ get_or_from_slice_get (front ++ nodes) at node node is)

  later : (at : ℕ) (node : Node) → slice_get (front ++ nodes) at ≡ Some node → length front ≤ at → slice_get nodes (at - length front) ≡ Some node
  later at node is past =
      let within : at - length front < length nodes = omega (arith, past, slice_get_within (front ++ nodes) at node is, length-append front nodes) in
      slice_get-get_or nodes (at - length front) node within
      ∙ ap (λ n. Some n) (sym (get_or-append_right front nodes at node past) ∙ get_or_from_slice_get (front ++ nodes) at node node is)

  pub first_left : (at : ℕ) (node : Node) (names : List (List ℕ)) (trees : List Tree) → slice_get nodes at ≡ Some node
      → before_last (forest names (take (at + 1) nodes) ++ trees) ≡ before_last (forest names (take (at + 1) nodes)) ++ trees
  first_left at node names trees is =
      let last : forest names (take (at + 1) nodes) ≡ step names (forest names (take at nodes)) node =
      ap (forest names) (take_node nodes at node is) ∙ forest_push names (take at nodes) node in
      subst (λ ts. before_last (ts ++ trees) ≡ before_last ts ++ trees) (sym last) refl

  sized_join : IsSized front → IsSized nodes → AreWhole nodes → IsSized (front ++ nodes)
  sized_join first sized whole = record { within = within; leads = leads }
    where
      within : (at : ℕ) (node : Node) → slice_get (front ++ nodes) at ≡ Some node → node.size < MANY → node.size ≤ at + 1
      within at node is few = elim (cases_lt at (length front)) [
        | inl lt ↦ first.within at node (earlier at node is lt) few
        | inr past ↦ omega (arith, past, sized.within (at - length front) node (later at node is past) few)
      ]

      leads : (at : ℕ) (node : Node) → slice_get (front ++ nodes) at ≡ Some node → node.size < MANY → (names : List (List ℕ))
          → forest names (take (at + 1 - node.size) (front ++ nodes)) ≡ before_last (forest names (take (at + 1) (front ++ nodes)))
      leads at node is few names = elim (cases_lt at (length front)) [
        | inl lt ↦
            ap (forest names) (take-append-le (at + 1 - node.size) front nodes (omega (arith, lt)))
            ∙ (first.leads at node (earlier at node is lt) few names
            ∙ sym (ap (λ ns. before_last (forest names ns)) (take-append-le (at + 1) front nodes (omega (arith, lt)))))
        | inr past ↦
            let k = at - length front in
            let there = later at node is past in
            let small = sized.within k node there few in
            let start : at + 1 - node.size - length front ≡ k + 1 - node.size = omega (arith, past, small) in
            let end : at + 1 - length front ≡ k + 1 = omega (arith, past) in
            let trees = forest names front in
            ap (forest names) (so_many (at + 1 - node.size) (omega (arith, past, small)) ∙ ap (λ n. front ++ take n nodes) start)
            ∙ (behind_front whole names (k + 1 - node.size)
            ∙ (ap (λ ts. ts ++ trees) (sized.leads k node there few names)
            ∙ (sym (first_left k node names trees there)
            ∙ sym (ap (λ ns. before_last (forest names ns)) (so_many (at + 1) (omega (arith, past)) ∙ ap (λ n. front ++ take n nodes) end)
            ∙ ap before_last (behind_front whole names (k + 1))))))
      ]

  pub terms_join : (m n : ℕ) → AreTerms front m → AreTerms nodes n → AreTerms (front ++ nodes) (m + n)
  terms_join m n first second = record {
    sized = sized_join first.sized second.sized second.whole;
    whole = whole_join first.whole second.whole;
    count = λ names.
        ap length (forest_join second.whole names)
        ∙ omega (arith, length-append (forest names nodes) (forest names front), first.count names, second.count names);
  }

  -- the last of nodes behind others is the last of all
  pub root_join : AreWhole nodes → (names : List (List ℕ)) → 1 ≤ length (forest names nodes) → root_tree names (front ++ nodes) ≡ root_tree names nodes
  root_join whole names some = ap last_of (forest_join whole names) ∙ last_before (forest names nodes) (forest names front) some

-- with one node more
pub terms_push : (nodes : List Node) (node : Node) (terms : ℕ) → 1 ≤ node.size → node.size ≤ length nodes + 1
    → (node.size < MANY → (names : List (List ℕ)) → forest names (take (length nodes + 1 - node.size) nodes) ≡ without (taken node.shape) (forest names nodes))
    → taken node.shape ≤ terms → AreTerms nodes terms → AreTerms (nodes ++ node ∷ []) (terms - taken node.shape + 1)
terms_push nodes node terms some small leads enough are =
    let each : (names : List (List ℕ)) → taken node.shape ≤ length (forest names nodes) = λ names. omega (arith, enough, are.count names) in
    record {
      sized = sized_push nodes node some small leads are.sized;
      whole = whole_push nodes node each are.whole;
      count = count_push nodes node each terms are.count;
    }

-- a node that takes nothing is a term
pub one_term : (node : Node) → node.size ≡ 1 → taken node.shape ≡ 0 → AreTerms (node ∷ []) 1
one_term node size alone =
    let place : 0 + 1 - node.size ≡ 0 = omega (arith, size) in
    subst (AreTerms (node ∷ [])) (omega (arith, alone))
    (terms_push [] node 0 (omega (arith, size)) (omega (arith, size))
    (λ few names. ap (λ k. forest names (take k [])) place ∙ sym (ap (λ n. without n (forest names [])) alone)) (omega (arith, alone)) no_terms)

-- there are no more terms than nodes
pub few_terms : (nodes : List Node) (names : List (List ℕ)) → length (forest names nodes) ≤ length nodes
few_terms nodes names = omega (arith, onto nodes [])
  where
    onto : (ns : List Node) (trees : List Tree) → length (fold (step names) trees ns) ≤ length ns + length trees
    onto [] trees = omega arith
    onto (n ∷ ns) trees =
        omega (arith, onto ns (step names trees n), length_without (taken n.shape) trees)
