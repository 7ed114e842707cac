use Rattle.std.proofs.Common.{◌≡◌, map, ap, ◌∙◌, arith}
use Rattle.prolog_terms.specs.Terms.{tree_of, trees_of}
use Rattle.prolog_terms.specs.Views.{trees_in}
use Rattle.text_rows.proofs.PartWeights.{part_weight}
use Rattle.text_rows.proofs.terms.+writing.Goals as goal

pub write_parts-write_term-requires : goal.write_parts-write_term-requires
write_parts-write_term-requires t c =
    let parts = trees_of c.args.parts.now in
    let terms = c.deref-term-items.result.now in
    let are : map tree_of terms ≡ trees_in parts = ap (map tree_of) c.deref-term-items.ensures.value ∙ c.in_ok-terms.ensures.trees in
    (omega (arith, part_weight parts terms c.loop-k.k c.term-item.result are c.loop-k-test.true c.term-item.is, c.decreases), tt)
