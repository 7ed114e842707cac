use Rattle.std.proofs.Common.{◌≡◌, length}
use Rattle.prolog_terms.specs.ReaderSeen.{reduced_seen}
use Rattle.prolog_terms.specs.StackSeen.{innermost, see_held}
use Rattle.prolog_terms.proofs.operators.reduce.Given as goal

abbrev pub invariant-loop-operator : goal.invariant-loop-operator
invariant-loop-operator l =
    reduced_seen l.priority (see_held l.names l.state l.left).stack (see_held l.names l.state l.left).operand
    ≡ reduced_seen l.priority (see_held l.names l.fn.state l.fn.operand).stack (see_held l.names l.fn.state l.fn.operand).operand

abbrev pub decreases-loop-operator : goal.decreases-loop-operator
decreases-loop-operator l = length (innermost l.state.stack)
