use Rattle.std.proofs.Common.{◌≡◌, ◌+◌, ◌-◌, ◌<◌, ◌≤◌, ◌∷◌, ◌++◌, [], length, take, subst, sym, arith, ap, ◌∙◌}
use Rattle.std.proofs.lemmas.List.{take_all}
use Rattle.prolog_terms.specs.declared.node.Node.{Node}
use Rattle.prolog_terms.specs.declared.node.TheConstants.{MANY}
use Rattle.prolog_terms.specs.Forest.{forest, node_tree, taken, without}
use Rattle.prolog_terms.specs.Sized.{AreTerms, filled}
use Rattle.prolog_terms.proofs.SizedNodes.{forest_push}
use Rattle.prolog_terms.proofs.WholeNodes.{few_terms, node_filled, terms_push, without_filled}
use Rattle.prolog_terms.proofs.node_list.NodeList.lay.Goals as goal

pub overflow_sub-self : goal.overflow_sub-self
overflow_sub-self c = omega (arith, c.in_ok-fill.ensures.some [], ap (λ ns. length (forest [] ns)) c.self.view_is, c.self.invariant.count [])

pub overflow_add-self : goal.overflow_add-self
overflow_add-self c = omega (arith, c.self.invariant.count [], few_terms c.self.inside.list.items [], c.self.inside.list.ok, c.in_ok-push.ensures.len, c.push.new.self.ok)

pub invariant_of-self-2 : goal.invariant_of-self-2
invariant_of-self-2 c =
    let nodes = c.self.inside.list.items in
    let terms = c.self.inside.terms in
    let from = c.before_many-from.result in
    let end = c.len-end.result in
    let count = taken c.args.shape in
    let size = c.size_of-size.result in
    let node : Node = record { shape = c.args.shape; span = c.args.span; size = size } in
    let all : end ≡ length nodes = omega (arith, c.len-end.ensures, c.self.inside.list.ok) in
    let within : from ≤ end = c.before_many-from.ensures.within in
    let small : size ≤ end - from + 1 = c.size_of-size.ensures.within in
    let place : size < MANY → length nodes + 1 - size ≡ from = λ few. omega (arith, all, within, c.size_of-size.ensures.is few) in
    let enough : count ≤ terms = omega (arith, c.part_count-count.ensures, c.in_ok-fill.ensures.some [], ap (λ ns. length (forest [] ns)) c.self.view_is, c.self.invariant.count []) in
    subst (λ ns. AreTerms ns (terms - c.part_count-count.result + 1)) (sym c.in_ok-push.ensures.items)
    (subst (λ n. AreTerms (nodes ++ node ∷ []) (terms - n + 1)) (sym c.part_count-count.ensures)
    (terms_push nodes node terms (omega (arith, c.size_of-size.ensures.some)) (omega (arith, all, small))
    (λ few names.
    ap (λ k. forest names (take k nodes)) (place few)
    ∙ (ap (λ ns. forest names (take from ns)) c.self.view_is
    ∙ (c.before_many-from.ensures.rest names
    ∙ (ap (λ n. without n (forest names (take end c.fill.new.self))) c.part_count-count.ensures
    ∙ ap (λ ns. without count (forest names ns)) (ap (take end) (sym c.self.view_is) ∙ take_all end nodes (omega (arith, all)))))))
    enough c.self.invariant))

pub returns : goal.returns
returns c = λ names.
    let nodes = c.self.inside.list.items in
    let node : Node = record { shape = c.args.shape; span = c.args.span; size = c.size_of-size.result } in
    let old = forest names c.args.self.now in
    let count = taken c.args.shape in
    let trees : forest names nodes ≡ filled count old =
    ap (forest names) c.self.view_is ∙ (c.in_ok-fill.ensures.trees names ∙ ap (λ n. filled n old) c.part_count-count.ensures) in
    ap (forest names) c.in_ok-push.ensures.items
    ∙ (forest_push names nodes node
    ∙ (ap (λ ts. node_tree names c.args.shape c.args.span ts ∷ without count ts) trees
    ∙ (λ i. node_filled names c.args.shape c.args.span old i ∷ without_filled count old i)))
