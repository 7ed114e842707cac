use Rattle.std.proofs.Common.{◌≡◌, ◌+◌, ◌∷◌, ◌++◌, [], ap, sym, subst, refl, ◌∙◌, arith}
use Rattle.prolog_terms.specs.declared.node.Node.{Node}
use Rattle.prolog_terms.specs.declared.node.Shape.TheVariants.{Var}
use Rattle.prolog_terms.specs.Forest.{forest, last_of}
use Rattle.prolog_terms.specs.Sized.{AreTerms}
use Rattle.prolog_terms.proofs.WholeNodes.{few_terms, forest_join, one_term, terms_join}
use Rattle.prolog_terms.proofs.node_list.NodeList.put_first.Goals as goal

abbrev first : Node
first = record { shape = Var; span = record { from = 0; to = 0 }; size = 1 }

pub overflow_add-self : goal.overflow_add-self
overflow_add-self c = omega (arith, c.self.invariant.count [], few_terms c.self.inside.list.items [], c.self.inside.list.ok, c.in_ok-insert.ensures.len, c.insert.new.self.ok)

pub invariant_of-self-2 : goal.invariant_of-self-2
invariant_of-self-2 c =
    let nodes = c.self.inside.list.items in
    let terms = c.self.inside.terms in
    let more : 1 + terms ≡ terms + 1 = omega arith in
    subst (λ ns. AreTerms ns (terms + 1)) (sym c.in_ok-insert.ensures.items)
    (subst (AreTerms (first ∷ nodes)) more (terms_join (first ∷ []) nodes 1 terms (one_term first refl refl) c.self.invariant))

pub returns : goal.returns
returns c = λ names.
    ap (forest names) c.in_ok-insert.ensures.items
    ∙ (forest_join (first ∷ []) c.self.inside.list.items c.self.invariant.whole names
    ∙ ap (λ ns. forest names ns ++ last_of [] ∷ []) c.self.view_is)
