use Rattle.edge_json.proofs.LinesRead.{AreRead}
use Rattle.edge_json.proofs.graph.read_lines.Given as goal

-- the lines so far are read
abbrev pub invariant-loop-line : goal.invariant-loop-line
invariant-loop-line l = AreRead l.lines l.line-index l.reader
