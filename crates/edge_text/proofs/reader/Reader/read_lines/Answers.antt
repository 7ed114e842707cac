use Rattle.std.proofs.Common.{◌+◌, ◌-◌, ◌≤◌, ◌++◌, length, drop, ap, subst, arith}
use Rattle.std.specs.Prelude.{slice_range}
use Rattle.std.proofs.lemmas.List.{length-take}
use Rattle.list_laws.specs.Counts.{IsLonger}
use Rattle.edge_text.specs.declared.limits.TheConstants.{MOST_EDGES}
use Rattle.edge_text.specs.EdgeGraph.{calls_of}
use Rattle.edge_text.specs.Lines.{said_by}
use Rattle.edge_text.specs.Read.{IsLineRead}
use Rattle.edge_text.proofs.Rests.{next_rest}
use Rattle.edge_text.proofs.TextParts.{lines_more, no_lines, one_line, text_read, too_many}
use Rattle.edge_text.proofs.reader.Reader.read_lines.Goals as goal

pub loop-at-init : goal.loop-at-init
loop-at-init c = no_lines c.args.text.now c.args.self.now c.requires.names c.requires.calls

pub returns-then-call_count-gt-MOST_EDGES : goal.returns-then-call_count-gt-MOST_EDGES
returns-then-call_count-gt-MOST_EDGES c =
    let text = c.args.text.now in
    let at = c.loop-at.at in
    let end = c.line_end-end.result in
    let read = c.loop-at.invariant in
    let is = c.line_end-end.ensures in
    let next = next_rest text at end read.rest read.are is.from is.within is.inside is.end in
    too_many text at end c.loop-at.self c.read_line.new.self read next
    (subst (λ line. IsLonger c.read_line.new.self.calls (c.loop-at.self.calls ++ calls_of (said_by line))) c.word_in.ensures c.in_ok-read_line.ensures.cut)
    (omega (arith, c.call_count.ensures, c.if-call_count-gt-MOST_EDGES.true))

pub loop-at-preserved : goal.loop-at-preserved
loop-at-preserved c =
    let text = c.args.text.now in
    let at = c.loop-at.at in
    let end = c.line_end-end.result in
    let read = c.loop-at.invariant in
    let is = c.line_end-end.ensures in
    let small : length c.read_line.new.self.calls ≤ MOST_EDGES = omega (arith, c.call_count.ensures, c.if-call_count-gt-MOST_EDGES.false) in
    let said : IsLineRead (slice_range text at end) c.loop-at.self c.read_line.new.self =
    subst (λ line. IsLineRead line c.loop-at.self c.read_line.new.self) c.word_in.ensures (c.in_ok-read_line.ensures.read small) in
    let next = next_rest text at end read.rest read.are is.from is.within is.inside is.end in
    lines_more text (end + 1) c.read_line.new.self (one_line text at end c.loop-at.self c.read_line.new.self read next said)
    small
    (omega (
      arith,
      c.in_ok-read_line.ensures.few,
      ap length c.word_in.ensures,
      length-take (end - at) (drop at text),
      read.fewer,
      is.from,
    ))

pub returns : goal.returns
returns c = text_read c.args.text.now c.loop-at.at c.loop-at.self c.loop-at.invariant c.loop-at-test.false
