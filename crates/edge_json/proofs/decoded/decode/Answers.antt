use Rattle.std.proofs.Common.{◌≡◌, ◌+◌, refl, subst, sym, ◌∙◌, ap}
use Rattle.std.specs.Prelude.{slice_range}
use Rattle.edge_text.proofs.Rests.{next_rest}
use Rattle.edge_json.specs.Meaning.{bad, meaning_of}
use Rattle.edge_json.specs.Said.{IsHeard}
use Rattle.edge_json.specs.declared.cause.LineFault.{LineFault}
use Rattle.edge_json.proofs.LineSteps.{AreDecoded, all_decoded, decoded_more, first_found, none_decoded}
use Rattle.edge_json.proofs.decoded.decode.Goals as goal

pub loop-at-init : goal.loop-at-init
loop-at-init c = subst (AreDecoded c.args.text.now 0 0) (sym c.new-lines.ensures.items) (none_decoded c.args.text.now)

pub returns-in-Some : goal.returns-in-Some
returns-in-Some c =
    let text = c.args.text.now in
    let at = c.loop-at.at in
    let end = c.line_end-end.result in
    let decoded = c.loop-at.invariant in
    let is = c.line_end-end.ensures in
    let next = next_rest text at end decoded.rest decoded.are is.from is.within is.inside is.end in
    let means : meaning_of (slice_range text at end) ≡ bad c.in-Some.cause =
    ap meaning_of (sym c.line_in.ensures) ∙ sym c.in_ok-line.ensures ∙ (rw c.in-Some.is at c.in_ok-cause.ensures) in
    let fault : LineFault = record { line = c.loop-at.number + 1; cause = c.in-Some.cause } in
    first_found text at end c.loop-at.number c.loop-at.lines.items decoded next fault means refl

pub loop-at-preserved : goal.loop-at-preserved
loop-at-preserved c =
    let text = c.args.text.now in
    let at = c.loop-at.at in
    let end = c.line_end-end.result in
    let decoded = c.loop-at.invariant in
    let is = c.line_end-end.ensures in
    let next = next_rest text at end decoded.rest decoded.are is.from is.within is.inside is.end in
    let heard : IsHeard (meaning_of (slice_range text at end)) c.loop-at.lines.items c.push_line.new.lines.items =
    subst (λ line. IsHeard (meaning_of line) c.loop-at.lines.items c.push_line.new.lines.items) c.line_in.ensures
    (subst (λ m. IsHeard m c.loop-at.lines.items c.push_line.new.lines.items) c.in_ok-line.ensures (rw c.in_default.is at c.in_ok-cause.ensures)) in
    decoded_more text at end c.loop-at.number c.loop-at.lines.items c.push_line.new.lines.items decoded next is.from heard

pub returns : goal.returns
returns c = all_decoded c.args.text.now c.loop-at.at c.loop-at.number c.loop-at.lines.items c.loop-at.invariant c.loop-at-test.false
