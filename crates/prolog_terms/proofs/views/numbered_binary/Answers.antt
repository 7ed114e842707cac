use Rattle.std.proofs.Common.{ap, sym, take, ◌∙◌}
use Rattle.std.specs.Prelude.{option_map}
use Rattle.prolog_names.specs.Names.{name_at}
use Rattle.prolog_terms.specs.Tree.{Tree, compound}
use Rattle.prolog_terms.specs.Forest.{forest, node_tree}
use Rattle.prolog_terms.specs.Terms.{trees_of}
use Rattle.prolog_terms.specs.Views.{binary_at}
use Rattle.prolog_terms.proofs.SizedNodes.{binary_by}
use Rattle.prolog_terms.proofs.views.numbered_binary.Goals as goal

pub returns-clause-trees : goal.returns-clause-trees
returns-clause-trees c =
    let v = c.in-Compound in
    let inner = c.inside-inner.result in
    let node = c.node-before.result.0 in
    let trees = forest inner.names.now (take c.node-before.result.1 inner.nodes.now) in
    let name = name_at c.args.term.now.names.now v.name in
    ap (option_map (λ (pair : Tree × Tree). record { name = name; left = pair.0; right = pair.1 })) c.in_ok-left.ensures.trees
    ∙ (sym (binary_by name (trees_of c.parts.result) v.form node.span)
    ∙ ((λ i. binary_at (compound (name_at (sym c.inside-inner.ensures.within.0 i) v.name) (c.parts.ensures.trees i) v.form node.span))
    ∙ (sym (ap (λ shape. binary_at (node_tree inner.names.now shape node.span trees)) v.is)
    ∙ (sym (ap binary_at c.node-before.ensures) ∙ ap binary_at c.inside-inner.ensures.tree))))
