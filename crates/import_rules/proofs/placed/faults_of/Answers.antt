use Rattle.std.proofs.Common.{◌++◌, ◌∙◌, sym, ap, append-nil}
use Rattle.std.proofs.lemmas.Slice.Zip.{either_empty_from_Zip}
use Rattle.import_rules.proofs.FlawSpots.{none_left, one_more_fault}
use Rattle.import_rules.proofs.placed.faults_of.Goals as goal

pub loop-flaw-preserved : goal.loop-flaw-preserved
loop-flaw-preserved c =
    one_more_fault c.loop-flaw.flaw-iterator.a.rest.now c.next.new.self.a.rest.now c.loop-flaw.flaw-iterator.b.rest.now c.next.new.self.b.rest.now c.in-Some.flaw.now c.in-Some.place.now
    c.in_ok-new.field-0 c.loop-flaw.faults.items c.push.new.self.items _ c.in-Some.ensures.steps.0 c.in-Some.ensures.steps.1 c.in_ok-push.ensures.items c.in_ok-new.ensures c.loop-flaw.invariant

pub returns : goal.returns
returns c =
    let flaws = c.loop-flaw.flaw-iterator.a.rest.now in
    let places = c.loop-flaw.flaw-iterator.b.rest.now in
    sym
    (ap (λ more. c.loop-flaw.faults.items ++ more) (none_left flaws places (either_empty_from_Zip c.loop-flaw.flaw-iterator c.next.new.self c.next.result c.in-None.is c.next.ensures.steps))
    ∙ append-nil c.loop-flaw.faults.items)
    ∙ c.loop-flaw.invariant
