use Rattle.std.proofs.Common.{arith}
use Rattle.edge_json.specs.Said.{said_of}
use Rattle.edge_json.proofs.LinesRead.{whole_of}
use Rattle.edge_json.proofs.graph.graph_of_lines.Goals as goal

pub graph_of_read-requires : goal.graph_of_read-requires
graph_of_read-requires c =
    let whole = whole_of (said_of c.args.lines.now) c.read_lines.new.reader c.in_ok-whole.whole c.in_ok-whole.ensures c.if-not-whole.false in
    record { names = whole.1; calls = omega (arith, whole.0.few) }

pub returns : goal.returns
returns c =
    let whole = whole_of (said_of c.args.lines.now) c.read_lines.new.reader c.in_ok-whole.whole c.in_ok-whole.ensures c.if-not-whole.false in
    c.in_ok-reading.ensures (said_of c.args.lines.now) whole.0
