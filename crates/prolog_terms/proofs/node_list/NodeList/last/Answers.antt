use Rattle.std.proofs.Common.{◌≡◌, ◌+◌, ◌-◌, ◌∷◌, ◌++◌, [], Some, length, slice_get, take, min, subst, sym, arith, ap, ◌∙◌}
use Rattle.std.proofs.lemmas.List.{take_min}
use Rattle.prolog_terms.proofs.SizedNodes.{take_node}
use Rattle.prolog_terms.proofs.node_list.NodeList.last.Goals as goal

pub returns : goal.returns
returns c =
    let nodes = c.self.inside.list.items in
    let end = c.min-end.result in
    let node = c.node_at.result in
    let size : c.len.result ≡ length nodes = omega (arith, c.len.ensures, c.self.inside.list.ok) in
    let all : take end nodes ≡ take c.args.end nodes = ap (λ k. take k nodes) (c.min-end.ensures ∙ ap (min c.args.end) size) ∙ take_min c.args.end nodes in
    let next : end - 1 + 1 ≡ end = omega (arith, c.if-end-eq0.false) in
    let there : slice_get nodes (end - 1) ≡ Some node = ap (λ ns. slice_get ns (end - 1)) (sym c.deref.ensures.value) ∙ c.node_at.ensures in
    subst (λ ns. take c.args.end ns ≡ take (end - 1) ns ++ node ∷ []) c.self.view_is
    (sym all ∙ (ap (λ k. take k nodes) (sym next) ∙ take_node nodes (end - 1) node there))
