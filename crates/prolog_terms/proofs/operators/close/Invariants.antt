use Rattle.std.proofs.Common.{◌≡◌, length}
use Rattle.prolog_terms.specs.ReaderSeen.{closed_seen}
use Rattle.prolog_terms.specs.StackSeen.{innermost, see_held}
use Rattle.prolog_terms.proofs.operators.close.Given as goal

abbrev pub invariant-loop-operator : goal.invariant-loop-operator
invariant-loop-operator l =
    closed_seen (see_held l.names l.state l.last).stack (see_held l.names l.state l.last).operand
    ≡ closed_seen (see_held l.names l.fn.state l.fn.operand).stack (see_held l.names l.fn.state l.fn.operand).operand

abbrev pub decreases-loop-operator : goal.decreases-loop-operator
decreases-loop-operator l = length (innermost l.state.stack)
