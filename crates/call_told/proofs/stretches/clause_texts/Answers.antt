use Rattle.std.proofs.Common.{refl, ap, ◌∙◌}
use Rattle.std.specs.List.{flat_map, zip}
use Rattle.call_writer.specs.Lines.{clause_line}
use Rattle.call_told.specs.Stretches.{clause_stretch}
use Rattle.call_told.proofs.StretchLemmas.{all_lines}
use Rattle.call_told.proofs.stretches.clause_texts.Goals as goal

pub returns : goal.returns
returns g c =
    let seen = c.args.program.now in
    let lines =
    all_lines (λ rows. rows) refl (λ a b. refl) (λ a. refl) (λ pair. clause_line seen pair.0 pair.1) c.deref.result.now c.deref-2.result.now c.in_ok-cut.cut.items
    c.in_ok-cut.ensures in
    c.in_ok-texts.ensures
    ∙ (ap (flat_map (clause_stretch seen)) c.deref-3.ensures.value
    ∙ (lines ∙ (λ i. flat_map (λ pair. clause_line seen pair.0 pair.1) (zip (c.deref.ensures.value i) (c.deref-2.ensures.value i)))))
