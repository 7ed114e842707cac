-- Nodes with one node more, and the trees of so many of them.
use Rattle.std.proofs.Common.{All, subst, inl, inr, ◌≡◌, ◌≢◌, fold, ℕ, zero, suc, ◌+◌, ◌-◌, ◌<◌, ◌≤◌, List, [], ◌∷◌, ◌++◌, Some, None, length, take, slice_get, map, ap, sym, refl, ◌∙◌, arith, append_assoc}
use Rattle.std.proofs.lemmas.Bool.{cases_lt}
use Rattle.std.proofs.lemmas.List.{take-append-le, take_more, length_push, get_or_append_left, get_or_push, take_all}
use Rattle.std.proofs.lemmas.List.Sums.{fold-append}
use Rattle.std.proofs.lemmas.Option.{slice_get_within, get_or_from_slice_get, slice_get-get_or}
use Rattle.prolog_terms.specs.declared.node.Node.{Node}
use Rattle.prolog_terms.specs.declared.node.TheConstants.{MANY}
use Rattle.prolog_terms.specs.Tree.{Tree, Trees, compound, none, more, count}
use Rattle.prolog_terms.specs.declared.term.Form.{Form}
use Rattle.prolog_terms.specs.declared.term.Span.{Span}
use Rattle.std.specs.Prelude.{option_map}
use Rattle.prolog_terms.specs.Forest.{last_of, before_last, parts_of, without, taken, step, forest}
use Rattle.prolog_terms.specs.Sized.{IsSized}
use Rattle.prolog_terms.specs.declared.term.Term.{Term}
use Rattle.prolog_terms.specs.Terms.{tree_of}
use Rattle.prolog_terms.specs.Views.{binary_at, named_at, only_of, pair_of, triple_of, trees_in}
use Rattle.std.specs.Prelude.{reverse}
use mathlib.Core.List.{reverse-cons}
use Rattle.std.proofs.lemmas.List.{map-append, append-nil}
use Rattle.std.proofs.lemmas.List.Elements.{All-head, All-tail, All-push}

-- so many nodes end with the node there
pub take_node : (nodes : List Node) (at : ℕ) (node : Node) → slice_get nodes at ≡ Some node → take (at + 1) nodes ≡ take at nodes ++ node ∷ []
take_node nodes at node is =
    take_more nodes at node (slice_get_within nodes at node is) ∙ ap (λ n. take at nodes ++ n ∷ []) (get_or_from_slice_get nodes at node node is)

pub forest_push : (names : List (List ℕ)) (nodes : List Node) (node : Node) → forest names (nodes ++ node ∷ []) ≡ step names (forest names nodes) node
forest_push names nodes node = fold-append (step names) [] nodes (node ∷ [])

-- a node more, whose size leads to what stood before its parts
module _ (nodes : List Node) (node : Node) (some : 1 ≤ node.size) (small : node.size ≤ length nodes + 1)
    (leads : node.size < MANY → (names : List (List ℕ)) → forest names (take (length nodes + 1 - node.size) nodes) ≡ without (taken node.shape) (forest names nodes)) where
  all_there : take (length nodes + 1) (nodes ++ node ∷ []) ≡ nodes ++ node ∷ []
  all_there = take_all (length nodes + 1) (nodes ++ node ∷ []) (omega (arith, length_push nodes node))

  -- the node at a place is an earlier one, or this one
  earlier : (at : ℕ) (n : Node) → slice_get (nodes ++ node ∷ []) at ≡ Some n → at < length nodes → slice_get nodes at ≡ Some n
  earlier at n is lt =
      slice_get-get_or nodes at n lt ∙ ap (λ x. Some x) (sym (get_or_append_left nodes (node ∷ []) n at lt) ∙ get_or_from_slice_get (nodes ++ node ∷ []) at n n is)

  this : (at : ℕ) (n : Node) → slice_get (nodes ++ node ∷ []) at ≡ Some n → length nodes ≡ at → node ≡ n
  this at n is same = sym (get_or_push nodes node n at same) ∙ get_or_from_slice_get (nodes ++ node ∷ []) at n n is

  last_place : (at : ℕ) (n : Node) → slice_get (nodes ++ node ∷ []) at ≡ Some n → length nodes ≤ at → length nodes ≡ at
  last_place at n is ge = omega (arith, ge, slice_get_within (nodes ++ node ∷ []) at n is, length_push nodes node)

  within_at : IsSized nodes → (at : ℕ) (n : Node) → slice_get (nodes ++ node ∷ []) at ≡ Some n → n.size < MANY → n.size ≤ at + 1
  within_at sized at n is few = elim (cases_lt at (length nodes)) [
    | inl lt ↦ sized.within at n (earlier at n is lt) few
    | inr ge ↦
        let same = last_place at n is ge in
        omega (arith, small, same, ap (λ (x : Node). x.size) (this at n is same))
  ]

  leads_at : IsSized nodes → (at : ℕ) (n : Node) → slice_get (nodes ++ node ∷ []) at ≡ Some n → n.size < MANY → (names : List (List ℕ))
      → forest names (take (at + 1 - n.size) (nodes ++ node ∷ [])) ≡ before_last (forest names (take (at + 1) (nodes ++ node ∷ [])))
  leads_at sized at n is few names = elim (cases_lt at (length nodes)) [
    | inl lt ↦
        ap (forest names) (take-append-le (at + 1 - n.size) nodes (node ∷ []) (omega (arith, lt)))
        ∙ (sized.leads at n (earlier at n is lt) few names
        ∙ sym (ap (λ ns. before_last (forest names ns)) (take-append-le (at + 1) nodes (node ∷ []) (omega (arith, lt)))))
    | inr ge ↦
        let same : length nodes ≡ at = last_place at n is ge in
        let own : node.size ≡ n.size = ap (λ (x : Node). x.size) (this at n is same) in
        let place : at + 1 - n.size ≡ length nodes + 1 - node.size = omega (arith, same, own) in
        let end : at + 1 ≡ length nodes + 1 = omega (arith, same) in
        ap (λ k. forest names (take k (nodes ++ node ∷ []))) place
        ∙ (ap (forest names) (take-append-le (length nodes + 1 - node.size) nodes (node ∷ []) (omega (arith, some)))
        ∙ (leads (subst (λ size. size < MANY) (sym own) few) names
        ∙ sym (ap (λ k. before_last (forest names (take k (nodes ++ node ∷ [])))) end
        ∙ (ap (λ ns. before_last (forest names ns)) all_there ∙ ap before_last (forest_push names nodes node)))))
  ]

  pub sized_push : IsSized nodes → IsSized (nodes ++ node ∷ [])
  sized_push sized = record { within = within_at sized; leads = leads_at sized }

-- parts before others are followed by these
pub parts_then : (n : ℕ) (trees : List Tree) (behind : Trees) → trees_in (parts_of n trees behind) ≡ trees_in (parts_of n trees none) ++ trees_in behind
parts_then zero trees behind = refl
parts_then (suc n) trees behind =
    parts_then n (before_last trees) (more (last_of trees) behind)
    ∙ (sym (append_assoc (trees_in (parts_of n (before_last trees) none)) (last_of trees ∷ []) (trees_in behind))
    ∙ ap (λ ts. ts ++ trees_in behind) (sym (parts_then n (before_last trees) (more (last_of trees) none))))

-- the parts are as many as are counted
pub count_parts : (n : ℕ) (trees : List Tree) (behind : Trees) → count (parts_of n trees behind) ≡ n + count behind
count_parts zero trees behind = omega arith
count_parts (suc n) trees behind = count_parts n (before_last trees) (more (last_of trees) behind) ∙ omega arith

-- a compound has as many arguments as are counted
pub named_compound : (name : List ℕ) (n : ℕ) (form : Form) (span : Span) (trees : List Tree)
    → named_at (compound name (parts_of n trees none) form span) ≡ Some (record { name = name; arity = n })
named_compound name n form span trees =
    let all : count (parts_of n trees none) ≡ n = omega (arith, count_parts n trees none) in ap (λ k. Some (record { name = name; arity = k })) all

-- one part, two or three there are where so many are counted

pub only_none : (trees : Trees) → count trees ≢ 1 → only_of trees ≡ None
only_none none other = refl
only_none (more a none) other = absurd (other refl)
only_none (more a (more b trees)) other = refl

pub pair_none : (trees : Trees) → count trees ≢ 2 → pair_of trees ≡ None
pair_none none other = refl
pair_none (more a none) other = refl
pair_none (more a (more b none)) other = absurd (other refl)
pair_none (more a (more b (more d trees))) other = refl

pub triple_none : (trees : Trees) → count trees ≢ 3 → triple_of trees ≡ None
triple_none none other = refl
triple_none (more a none) other = refl
triple_none (more a (more b none)) other = refl
triple_none (more a (more b (more d none))) other = absurd (other refl)
triple_none (more a (more b (more d (more e trees)))) other = refl

-- a compound of two arguments, by them
pub binary_by : (name : List ℕ) (args : Trees) (form : Form) (span : Span)
    → binary_at (compound name args form span) ≡ option_map (λ (pair : Tree × Tree). record { name = name; left = pair.0; right = pair.1 }) (pair_of args)
binary_by name none form span = refl
binary_by name (more a none) form span = refl
binary_by name (more a (more b none)) form span = refl
binary_by name (more a (more b (more d trees))) form span = refl

-- parts as they are taken, the last first: each stands before those that were taken

abbrev pub with_part : Trees → Term → Trees
with_part trees term = more (tree_of term) trees

abbrev pub behind : List Term → Trees
behind terms = fold with_part none terms

pub behind_push : (terms : List Term) (term : Term) → behind (terms ++ term ∷ []) ≡ more (tree_of term) (behind terms)
behind_push terms term = fold-append with_part none terms (term ∷ [])

pub all_reversed : (P : Term → Type 0) (terms : List Term) → All P terms → All P (reverse terms)
all_reversed P [] all = all
all_reversed P (term ∷ terms) all =
    subst (All P) (sym (reverse-cons term terms))
    (All-push P (reverse terms) term (all_reversed P terms (All-tail P term terms all)) (All-head P term terms all))

pub behind_all : (terms : List Term) → map tree_of (reverse terms) ≡ trees_in (behind terms)
behind_all terms = sym (onto terms none ∙ append-nil (map tree_of (reverse terms)))
  where
    onto : (xs : List Term) (trees : Trees) → trees_in (fold with_part trees xs) ≡ map tree_of (reverse xs) ++ trees_in trees
    onto [] trees = refl
    onto (x ∷ xs) trees =
        onto xs (more (tree_of x) trees)
        ∙ (sym (append_assoc (map tree_of (reverse xs)) (tree_of x ∷ []) (trees_in trees))
        ∙ ap (λ ts. ts ++ trees_in trees) (sym (ap (map tree_of) (reverse-cons x xs) ∙ map-append tree_of (reverse xs) (x ∷ []))))
