use Rattle.std.proofs.Common.{◌+◌, ◌-◌, length}
use Rattle.edge_json.proofs.LineSteps.{AreDecoded}
use Rattle.edge_json.proofs.decoded.decode.Given as goal

-- no line so far is wrong, and the names are what they say
abbrev pub invariant-loop-at : goal.invariant-loop-at
invariant-loop-at l = AreDecoded l.text l.at l.number l.lines.items

abbrev pub decreases-loop-at : goal.decreases-loop-at
decreases-loop-at l = length l.text + 1 - l.at
