use Rattle.std.proofs.Common.{◌≡◌, ◌+◌, ◌-◌, suc, ap, sym, ◌∙◌, arith, take}
use Rattle.prolog_terms.specs.Forest.{forest, without}
use Rattle.prolog_terms.proofs.node_list.NodeList.before_many.Goals as goal

pub loop-part-preserved : goal.loop-part-preserved
loop-part-preserved c =
    let left = c.args.count - (c.loop-part._part + 1) in
    let next : c.args.count - c.loop-part._part ≡ suc left = omega (arith, c.loop-part-test.true) in
    record {
      rest = λ names.
          ap (without left) (c.before_these-at.ensures.rest names)
          ∙ (sym (ap (λ n. without n (forest names (take c.loop-part.at c.args.self.now))) next) ∙ c.loop-part.invariant.rest names);
      within = omega (arith, c.before_these-at.ensures.within, c.loop-part.invariant.within);
    }
