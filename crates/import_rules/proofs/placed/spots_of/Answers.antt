use Rattle.std.proofs.Common.{List, subst, arith}
use Rattle.std.specs.List.{AllZip}
use Rattle.std.proofs.lemmas.List.{take_all}
use Rattle.file_library.specs.Spots.{texts_of}
use Rattle.import_rules.specs.declared.finding.Finding.{Finding}
use Rattle.import_rules.specs.Findings.{see_findings}
use Rattle.import_rules.specs.PlacedFlaws.{IsSpotOf}
use Rattle.import_rules.proofs.FlawSpots.{flaw_text, place_within, spots_more}
use Rattle.import_rules.proofs.placed.spots_of.Goals as goal

pub text_place-place-requires-clause-there : goal.text_place-place-requires-clause-there
text_place-place-requires-clause-there c = flaw_text (texts_of c.args.texts.now) c.args.flaws.now c.loop-flaw.flaw-index _ c.requires.stand c.loop-flaw-test.true

pub overflow_cast-place : goal.overflow_cast-place
overflow_cast-place c =
    omega (
      arith,
      c.requires.texts.limited.few,
      place_within (texts_of c.args.texts.now) c.args.flaws.now c.loop-flaw.flaw-index _ c.text_place-place.result c.requires.stand c.loop-flaw-test.true c.text_place-place.ensures,
    )

pub loop-flaw-preserved : goal.loop-flaw-preserved
loop-flaw-preserved c =
    spots_more (texts_of c.args.texts.now) c.args.flaws.now c.loop-flaw.flaw-index _ c.text_place-place.result c.loop-flaw.spots.items c.push.new.self.items c.requires.stand
    c.loop-flaw-test.true c.text_place-place.ensures c.in_ok-push.ensures.items c.loop-flaw.invariant

pub returns : goal.returns
returns c =
    let P : List Finding → Type 0 = λ fs. AllZip (IsSpotOf (texts_of c.args.texts.now)) (see_findings fs) c.loop-flaw.spots.items in
    subst P (take_all c.loop-flaw.flaw-index c.args.flaws.now c.loop-flaw-test.false) c.loop-flaw.invariant
