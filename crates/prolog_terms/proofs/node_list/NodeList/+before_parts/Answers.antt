use Rattle.std.proofs.Common.{◌≡◌, ◌+◌, ◌-◌, Some, suc, ap, slice_get, sym, ◌∙◌, arith, take}
use Rattle.prolog_terms.specs.Forest.{before_last, forest, without}
use Rattle.prolog_terms.proofs.SizedNodes.{forest_push, take_node}
use Rattle.prolog_terms.proofs.node_list.NodeList.+before_parts.Goals as goal

pub loop-part-preserved-in-Some : goal.loop-part-preserved-in-Some
loop-part-preserved-in-Some t c =
    let left = c.part_count-count.result - (c.loop-part._part + 1) in
    let next : c.part_count-count.result - c.loop-part._part ≡ suc left = omega (arith, c.loop-part-test.true) in
    record {
      rest = λ names.
          ap (without left) (c.in-Some.ensures.1 names)
          ∙ (sym (ap (λ n. without n (forest names (take c.loop-part.at c.args.self.now))) next) ∙ c.loop-part.invariant.rest names);
      within = omega (arith, c.in-Some.ensures.0, c.loop-part.invariant.within);
    }

pub loop-part-preserved : goal.loop-part-preserved
loop-part-preserved t c =
    let left = c.part_count-count.result - (c.loop-part._part + 1) in
    let next : c.part_count-count.result - c.loop-part._part ≡ suc left = omega (arith, c.loop-part-test.true) in
    record {
      rest = λ names.
          ap (without left) (c.before_parts-at.ensures.rest names)
          ∙ (sym (ap (λ n. without n (forest names (take c.loop-part.at c.args.self.now))) next) ∙ c.loop-part.invariant.rest names);
      within = omega (arith, c.before_parts-at.ensures.within, c.loop-part.invariant.within);
    }

pub returns-clause-rest : goal.returns-clause-rest
returns-clause-rest t c = λ names.
    let nodes = c.args.self.now in
    let last = c.args.end - 1 in
    let count = c.part_count-count.result in
    let none : count - c.loop-part._part ≡ 0 = omega (arith, c.loop-part-test.false) in
    let end : c.args.end ≡ last + 1 = omega (arith, c.requires.some) in
    let before = forest names (take last nodes) in
    let is : slice_get nodes last ≡ Some c.node_at.result = ap (λ ns. slice_get ns last) (sym (c.deref.ensures.value ∙ c.self.view_is)) ∙ c.node_at.ensures in
    sym (ap (λ n. without n (forest names (take c.loop-part.at nodes))) none)
    ∙ (c.loop-part.invariant.rest names
    ∙ (ap (λ n. without n before) c.part_count-count.ensures
    ∙ sym (ap (λ k. before_last (forest names (take k nodes))) end
    ∙ (ap (λ ns. before_last (forest names ns)) (take_node nodes last c.node_at.result is)
    ∙ ap before_last (forest_push names (take last nodes) c.node_at.result)))))
