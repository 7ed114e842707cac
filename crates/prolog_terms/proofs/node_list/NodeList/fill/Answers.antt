use Rattle.std.proofs.Common.{◌∷◌, [], length, length-append, ap, sym, ◌∙◌, arith}
use Rattle.prolog_terms.specs.Forest.{forest, last_of}
use Rattle.prolog_terms.specs.Sized.{filled}
use Rattle.prolog_terms.proofs.WholeNodes.{filled_enough, filled_one}
use Rattle.prolog_terms.proofs.node_list.NodeList.fill.Goals as goal

pub loop-self-preserved : goal.loop-self-preserved
loop-self-preserved c = λ names.
    let trees = forest names c.loop-self.self in
    ap (filled c.args.count) (c.in_ok-put_first.ensures names)
    ∙ (filled_one c.args.count trees (omega (arith, c.terms.ensures names, c.loop-self-test.true)) ∙ c.loop-self.invariant names)

pub loop-self-smaller : goal.loop-self-smaller
loop-self-smaller c =
    let trees = forest [] c.loop-self.self in
    omega (arith, c.terms.ensures [], c.loop-self-test.true, ap length (c.in_ok-put_first.ensures []), length-append trees (last_of [] ∷ []))

pub returns-clause-trees : goal.returns-clause-trees
returns-clause-trees c = λ names.
    sym (filled_enough c.args.count (forest names c.loop-self.self) (omega (arith, c.terms.ensures names, c.loop-self-test.false))) ∙ c.loop-self.invariant names

pub returns-clause-some : goal.returns-clause-some
returns-clause-some c = λ names. omega (arith, c.terms.ensures names, c.loop-self-test.false)
