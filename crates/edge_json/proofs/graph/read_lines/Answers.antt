use Rattle.std.proofs.Common.{◌≡◌, ◌++◌, [], get_or, ap, subst, ◌∙◌, arith}
use Rattle.std.proofs.lemmas.List.{get_or_default}
use Rattle.edge_text.specs.EdgeGraph.{calls_of}
use Rattle.edge_text.specs.Read.{AreAdded}
use Rattle.edge_json.proofs.LinesRead.{all_read, none_read, one_read, too_many}
use Rattle.edge_json.proofs.graph.read_lines.Goals as goal

pub loop-line-init : goal.loop-line-init
loop-line-init c = none_read c.args.lines.now c.args.reader.now c.requires.names c.requires.calls

pub read_line-requires : goal.read_line-requires
read_line-requires c = omega (arith, c.loop-line.invariant.fewer, c.loop-line-test.true, c.requires.small)

pub returns-then-call_count-gt-MOST_EDGES : goal.returns-then-call_count-gt-MOST_EDGES
returns-then-call_count-gt-MOST_EDGES c =
    let lines = c.args.lines.now in
    let at = c.loop-line.line-index in
    let item : c.line-item.result ≡ get_or lines at [] =
    c.line-item.is ∙ get_or_default lines at c.line-item.result [] c.loop-line-test.true in
    too_many lines at c.loop-line.reader c.read_line.new.reader c.loop-line.invariant c.loop-line-test.true
    (c.in_ok-read_line.ensures.calls ∙ ap (λ line. c.loop-line.reader.calls ++ calls_of line) item)
    (omega (arith, c.call_count.ensures, c.if-call_count-gt-MOST_EDGES.true))

pub loop-line-preserved : goal.loop-line-preserved
loop-line-preserved c =
    let lines = c.args.lines.now in
    let at = c.loop-line.line-index in
    let item : c.line-item.result ≡ get_or lines at [] =
    c.line-item.is ∙ get_or_default lines at c.line-item.result [] c.loop-line-test.true in
    one_read lines at c.loop-line.reader c.read_line.new.reader c.loop-line.invariant c.loop-line-test.true
    (subst (λ line. AreAdded line c.loop-line.reader.names c.read_line.new.reader.names) item c.in_ok-read_line.ensures.names)
    (c.in_ok-read_line.ensures.calls ∙ ap (λ line. c.loop-line.reader.calls ++ calls_of line) item)
    c.in_ok-read_line.ensures.few (omega (arith, c.call_count.ensures, c.if-call_count-gt-MOST_EDGES.false))

pub returns : goal.returns
returns c =
    all_read c.args.lines.now c.loop-line.line-index c.loop-line.reader c.loop-line.invariant (omega (arith, c.loop-line-test.false))
    (omega (arith, c.loop-line.auto.line-index-end, c.requires.small))
