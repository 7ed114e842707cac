use Rattle.std.proofs.Common.{◌+◌, refl, subst}
use Rattle.std.specs.Prelude.{slice_range}
use Rattle.edge_text.specs.declared.fault.Fault.{Fault}
use Rattle.edge_text.specs.Faults.{IsFirstLong}
use Rattle.edge_text.proofs.FirstFaults.{IsFine, fine_more, first_found, no_fault, none_fine}
use Rattle.edge_text.proofs.Rests.{next_rest}
use Rattle.edge_text.proofs.fault.first_fault.Goals as goal

pub loop-at-init : goal.loop-at-init
loop-at-init c = none_fine c.args.text.now

pub returns-in-Some : goal.returns-in-Some
returns-in-Some c =
    let text = c.args.text.now in
    let at = c.loop-at.at in
    let end = c.line_end-end.result in
    let fine = c.loop-at.invariant in
    let is = c.line_end-end.ensures in
    let next = next_rest text at end fine.rest fine.are is.from is.within is.inside is.end in
    let first : IsFirstLong (slice_range text at end) c.in-Some.start = subst (λ line. IsFirstLong line c.in-Some.start) c.word_in-line.ensures c.in-Some.ensures in
    let fault : Fault = record { line = c.loop-at.number + 1; column = c.in-Some.start + 1 } in
    first_found text at end c.loop-at.number c.in-Some.start fine next first fault refl refl

pub loop-at-preserved : goal.loop-at-preserved
loop-at-preserved c =
    let text = c.args.text.now in
    let at = c.loop-at.at in
    let end = c.line_end-end.result in
    let fine = c.loop-at.invariant in
    let is = c.line_end-end.ensures in
    let next = next_rest text at end fine.rest fine.are is.from is.within is.inside is.end in
    fine_more text at end c.loop-at.number fine next is.from (subst IsFine c.word_in-line.ensures c.in_default.ensures)

pub returns : goal.returns
returns c = no_fault c.args.text.now c.loop-at.at c.loop-at.number c.loop-at.invariant c.loop-at-test.false
