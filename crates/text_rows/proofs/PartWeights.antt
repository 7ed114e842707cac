-- Terms that stand side by side weigh more than each of them.
use Rattle.std.proofs.Common.{◌≡◌, ℕ, zero, suc, ◌+◌, ◌<◌, ◌≤◌, List, Some, None, map, length, get_or, slice_get, ap, sym, refl, ◌∙◌, arith}
use Rattle.std.specs.Option.{option_map}
use Rattle.std.proofs.lemmas.Option.{same_Some, slice_get-map, slice_get_read}
use Rattle.prolog_terms.specs.declared.term.Term.{Term}
use Rattle.prolog_terms.specs.Tree.{Tree, Trees, none, more}
use Rattle.prolog_terms.specs.Terms.{tree_of}
use Rattle.prolog_terms.specs.Views.{trees_in}
use Rattle.prolog_terms.specs.Weight.{weight, weights}

one_weight : (trees : Trees) (i : ℕ) (tree : Tree) → slice_get (trees_in trees) i ≡ Some tree → weight tree + 1 ≤ weights trees
one_weight none i tree is = let both : None ≡ Some tree = is in absurd (cc)
one_weight (more first trees) zero tree is = omega (arith, ap weight (same_Some first tree is))
one_weight (more first trees) (suc i) tree is = omega (arith, one_weight trees i tree is)

pub part_weight : (trees : Trees) (terms : List Term) (i : ℕ) (term : Term) → map tree_of terms ≡ trees_in trees → i < length terms → term ≡ get_or terms i term
    → weight (tree_of term) + 1 ≤ weights trees
part_weight trees terms i term are lt is =
    one_weight trees i (tree_of term)
    (ap (λ (ts : List Tree). slice_get ts i) (sym are)
    ∙ (slice_get-map tree_of terms i ∙ ap (option_map tree_of) (slice_get_read terms (length terms) i term refl lt is)))
