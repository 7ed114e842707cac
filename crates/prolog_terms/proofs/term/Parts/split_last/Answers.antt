use Rattle.std.proofs.Common.{◌≡◌, ◌-◌, ◌∷◌, ◌++◌, [], suc, ap, sym, ◌∙◌, arith, take}
use Rattle.prolog_terms.specs.Tree.{none, more}
use Rattle.prolog_terms.specs.Forest.{forest, last_of, parts_of, before_last}
use Rattle.prolog_terms.specs.Views.{trees_in}
use Rattle.prolog_terms.proofs.SizedNodes.{parts_then}
use Rattle.prolog_terms.proofs.term.Parts.split_last.Goals as goal

pub returns-clause-trees : goal.returns-clause-trees
returns-clause-trees c =
    let self = c.args.self.now in
    let left = self.count - 1 in
    let next : self.count ≡ suc left = omega (arith, c.if-self-eq0.false) in
    let names = self.names.now in
    let trees = forest names (take self.end self.nodes.now) in
    let others : forest names (take c.before-2.result self.nodes.now) ≡ before_last trees = c.before-2.ensures.rest names in
    ap (λ n. trees_in (parts_of n trees none)) next
    ∙ (parts_then left (before_last trees) (more (last_of trees) none)
    ∙ λ i. trees_in (parts_of left (sym others i) none) ++ sym c.part.ensures.tree i ∷ [])
