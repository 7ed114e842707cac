use Rattle.std.proofs.Common.{◌≡◌, ◌+◌, ◌∷◌, [], length, min, take, subst, sym, refl, arith, ap, ◌∙◌}
use Rattle.std.proofs.lemmas.List.{take_min}
use Rattle.prolog_terms.specs.declared.node.Node.{Node}
use Rattle.prolog_terms.specs.declared.node.Shape.TheVariants.{Var}
use Rattle.prolog_terms.specs.Forest.{forest, last_of}
use Rattle.prolog_terms.specs.Sized.{AreTerms}
use Rattle.prolog_terms.specs.Terms.{root_tree}
use Rattle.prolog_terms.proofs.WholeNodes.{few_terms, one_term, root_join, terms_join}
use Rattle.prolog_terms.proofs.node_list.NodeList.append_last.Goals as goal

abbrev no_node : Node
no_node = record { shape = Var; span = record { from = 0; to = 0 }; size = 1 }

pub overflow_add-self : goal.overflow_add-self
overflow_add-self c = omega (arith, c.self.invariant.count [], few_terms c.self.inside.list.items [], c.self.inside.list.ok, c.in_ok-push.ensures.len, c.push.new.self.ok)

pub invariant_of-self-then-end-eq0 : goal.invariant_of-self-then-end-eq0
invariant_of-self-then-end-eq0 c =
    let nodes = c.self.inside.list.items in
    let terms = c.self.inside.terms in
    subst (λ ns. AreTerms ns (terms + 1)) (sym c.in_ok-push.ensures.items)
    (terms_join nodes (no_node ∷ []) terms 1 c.self.invariant (one_term no_node refl refl))

pub overflow_add-self-2 : goal.overflow_add-self-2
overflow_add-self-2 c =
    let last = c.last_nodes.result.now in
    omega (
      arith,
      c.self.invariant.count [],
      few_terms c.self.inside.list.items [],
      c.last_nodes.ensures.one.count [],
      few_terms last [],
      c.self.inside.list.ok,
      c.in_ok-extend_from_slice.ensures.len,
      c.extend_from_slice.new.self.ok,
    )

pub invariant_of-self-2 : goal.invariant_of-self-2
invariant_of-self-2 c =
    let terms = c.self.inside.terms in
    subst (λ ns. AreTerms ns (terms + 1)) (sym c.in_ok-extend_from_slice.ensures.items)
    (terms_join c.self.inside.list.items c.last_nodes.result.now terms 1 c.self.invariant c.last_nodes.ensures.one)

pub returns-clause-root : goal.returns-clause-root
returns-clause-root c = λ names.
    let others = c.args.others.now in
    let nodes = c.self.inside.list.items in
    let last = c.last_nodes.result.now in
    let one = c.last_nodes.ensures.one in
    let size : c.len.result ≡ length others = omega (arith, c.len.ensures, c.others.inside.list.ok, ap length c.others.view_is) in
    ap (root_tree names) c.in_ok-extend_from_slice.ensures.items
    ∙ (root_join nodes last one.whole names (omega (arith, one.count names))
    ∙ (c.last_nodes.ensures.root names
    ∙ ap (λ ns. last_of (forest names ns)) (ap (λ k. take k others) (c.min-end.ensures ∙ ap (min c.args.end) size) ∙ take_min c.args.end others)))
