use Rattle.std.proofs.Common.{List, ℕ, Some, take, ap, sym, ◌∙◌}
use Rattle.prolog_names.specs.Names.{name_at}
use Rattle.prolog_terms.specs.Tree.{none}
use Rattle.prolog_terms.specs.Forest.{forest, node_tree}
use Rattle.prolog_terms.specs.Terms.{trees_of}
use Rattle.prolog_terms.specs.Views.{parted_at}
use Rattle.prolog_terms.proofs.views.number_and_args.Goals as goal

pub returns-in-Atom-clause-trees : goal.returns-in-Atom-clause-trees
returns-in-Atom-clause-trees c =
    let v = c.in-Atom in
    let names = c.args.term.now.names.now in
    let inner = c.inside-inner.result in
    let node = c.node-before.result.0 in
    let trees = forest inner.names.now (take c.node-before.result.1 inner.nodes.now) in
    (λ i. Some (record { name = name_at (sym c.inside-inner.ensures.within.0 i) v.name; args = c.parts.ensures.trees i }))
    ∙ (sym (ap (λ shape. parted_at (node_tree inner.names.now shape node.span trees)) v.is)
    ∙ (sym (ap parted_at c.node-before.ensures) ∙ ap parted_at c.inside-inner.ensures.tree))

pub returns-in-Compound-clause-trees : goal.returns-in-Compound-clause-trees
returns-in-Compound-clause-trees c =
    let v = c.in-Compound in
    let names = c.args.term.now.names.now in
    let inner = c.inside-inner.result in
    let node = c.node-before.result.0 in
    let trees = forest inner.names.now (take c.node-before.result.1 inner.nodes.now) in
    (λ i. Some (record { name = name_at (sym c.inside-inner.ensures.within.0 i) v.name; args = c.parts-in-Compound.ensures.trees i }))
    ∙ (sym (ap (λ shape. parted_at (node_tree inner.names.now shape node.span trees)) v.is)
    ∙ (sym (ap parted_at c.node-before.ensures) ∙ ap parted_at c.inside-inner.ensures.tree))
