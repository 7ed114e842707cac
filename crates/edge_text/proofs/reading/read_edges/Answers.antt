use Rattle.std.proofs.Common.{arith}
use Rattle.edge_text.specs.EdgeGraph.{said_in}
use Rattle.edge_text.proofs.Graphs.{whole_of}
use Rattle.edge_text.proofs.reading.read_edges.Goals as goal
use Rattle.edge_text.specs.Read.{IsTextRead}
use Rattle.std.proofs.Common.{true}

pub graph_of_read-requires : goal.graph_of_read-requires
graph_of_read-requires c =
    let text = c.args.text.now in
    let whole : IsTextRead text c.read_lines.new.self true =
    whole_of text c.read_lines.new.self c.in_ok-whole.whole c.in_ok-whole.ensures c.if-not-whole.false in
    record { names = omega (arith, whole.1, c.requires); calls = omega (arith, whole.0.few) }

pub returns : goal.returns
returns c =
    let text = c.args.text.now in
    let whole : IsTextRead text c.read_lines.new.self true =
    whole_of text c.read_lines.new.self c.in_ok-whole.whole c.in_ok-whole.ensures c.if-not-whole.false in
    c.in_ok-reading.ensures (said_in text) whole.0
