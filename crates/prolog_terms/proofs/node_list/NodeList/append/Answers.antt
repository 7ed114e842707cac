use Rattle.std.proofs.Common.{◌≡◌, ◌+◌, ◌++◌, [], length, subst, sym, arith, ap, ◌∙◌}
use Rattle.prolog_terms.specs.Forest.{forest, last_of}
use Rattle.prolog_terms.specs.Sized.{AreTerms}
use Rattle.prolog_terms.specs.Terms.{root_tree}
use Rattle.prolog_terms.proofs.WholeNodes.{few_terms, root_join, terms_join}
use Rattle.prolog_terms.proofs.node_list.NodeList.append.Goals as goal

pub overflow_add-self : goal.overflow_add-self
overflow_add-self c =
    omega (
      arith,
      c.self.invariant.count [],
      few_terms c.self.inside.list.items [],
      c.others.invariant.count [],
      few_terms c.others.inside.list.items [],
      c.self.inside.list.ok,
      ap length c.deref.ensures.value,
      c.in_ok-extend_from_slice.ensures.len,
      c.extend_from_slice.new.self.ok,
    )

pub invariant_of-self-2 : goal.invariant_of-self-2
invariant_of-self-2 c =
    let nodes = c.self.inside.list.items in
    let others = c.others.inside.list.items in
    let joined : c.extend_from_slice.new.self.items ≡ nodes ++ others = c.in_ok-extend_from_slice.ensures.items ∙ ap (λ ns. nodes ++ ns) c.deref.ensures.value in
    subst (λ ns. AreTerms ns (c.self.inside.terms + c.others.inside.terms)) (sym joined)
    (terms_join nodes others c.self.inside.terms c.others.inside.terms c.self.invariant c.others.invariant)

pub returns-clause-more : goal.returns-clause-more
returns-clause-more c =
    let nodes = c.self.inside.list.items in
    let others = c.others.inside.list.items in (
      others,
      c.in_ok-extend_from_slice.ensures.items ∙ (ap (λ ns. nodes ++ ns) c.deref.ensures.value ∙ ap (λ ns. ns ++ others) c.self.view_is),
    )

pub returns-clause-root : goal.returns-clause-root
returns-clause-root c = λ names.
    let nodes = c.self.inside.list.items in
    let others = c.others.inside.list.items in
    let joined : c.extend_from_slice.new.self.items ≡ nodes ++ others = c.in_ok-extend_from_slice.ensures.items ∙ ap (λ ns. nodes ++ ns) c.deref.ensures.value in
    ap (root_tree names) joined
    ∙ (root_join nodes others c.others.invariant.whole names (omega (arith, c.in_ok-fill.ensures.some names, ap (λ ns. length (forest names ns)) c.others.view_is))
    ∙ (ap (root_tree names) c.others.view_is ∙ ap last_of (c.in_ok-fill.ensures.trees names)))
