use Rattle.std.proofs.Common.{List, ℕ, Some, take, ap, sym, ◌∙◌}
use Rattle.prolog_names.specs.Names.{name_at}
use Rattle.prolog_terms.specs.Forest.{forest, node_tree}
use Rattle.prolog_terms.specs.Views.{named_at}
use Rattle.prolog_terms.proofs.SizedNodes.{named_compound}
use Rattle.prolog_terms.proofs.views.number_and_arity.Goals as goal

pub returns-in-Compound : goal.returns-in-Compound
returns-in-Compound c =
    let v = c.in-Compound in
    let names = c.args.term.now.names.now in
    let inner = c.inside.result in
    let node = c.node-before.result.0 in
    let trees = forest inner.names.now (take c.node-before.result.1 inner.nodes.now) in
    ap (λ (ns : List (List ℕ)). Some (record { name = name_at ns v.name; arity = v.count })) (sym c.inside.ensures.within.0)
    ∙ (sym (named_compound (name_at inner.names.now v.name) v.count v.form node.span trees)
    ∙ (sym (ap (λ shape. named_at (node_tree inner.names.now shape node.span trees)) v.is)
    ∙ (sym (ap named_at c.node-before.ensures) ∙ ap named_at c.inside.ensures.tree)))
