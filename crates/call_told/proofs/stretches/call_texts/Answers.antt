use Rattle.std.proofs.Common.{refl, ap, ◌∙◌}
use Rattle.std.specs.List.{flat_map, zip}
use Rattle.std.proofs.lemmas.List.{length-map, map-append}
use Rattle.call_edges.specs.PlacedSeen.{see_call, see_calls}
use Rattle.call_writer.specs.Lines.{call_line_if}
use Rattle.call_told.specs.Stretches.{call_stretch}
use Rattle.call_told.proofs.StretchLemmas.{all_lines}
use Rattle.call_told.proofs.stretches.call_texts.Goals as goal

pub returns : goal.returns
returns g c =
    let seen = c.args.program.now in
    let undefined = c.args.undefined in
    let lines =
    all_lines see_calls refl (map-append see_call) (λ a. length-map a see_call) (λ pair. call_line_if undefined seen pair.0 pair.1) c.deref.result.now c.deref-2.result.now
    c.in_ok-cut.cut.items c.in_ok-cut.ensures in
    c.in_ok-texts.ensures
    ∙ (ap (flat_map (call_stretch undefined seen)) c.deref-3.ensures.value
    ∙ (lines
    ∙ (λ i. flat_map (λ pair. call_line_if undefined seen pair.0 pair.1) (zip (see_calls (c.deref.ensures.value i)) (c.deref-2.ensures.value i)))))
