use Rattle.std.proofs.Common.{◌-◌, ◌+◌, length}
use Rattle.edge_text.proofs.TextParts.{AreLinesRead}
use Rattle.edge_text.proofs.reader.Reader.read_lines.Given as goal

-- the lines so far are read
abbrev pub invariant-loop-at : goal.invariant-loop-at
invariant-loop-at l = AreLinesRead l.text l.at l.self

abbrev pub decreases-loop-at : goal.decreases-loop-at
decreases-loop-at l = length l.text + 1 - l.at
