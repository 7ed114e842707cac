use Rattle.std.proofs.Common.{take}
use Rattle.call_edges.specs.Bodies.{see_body}
use Rattle.call_edges.specs.Calls.{IsAmong}
use Rattle.call_edges.specs.CallPlaces.{IsCalledIn}
use Rattle.call_edges.specs.DirectiveCalls.{no_caller}
use Rattle.call_edges.specs.Goals.{Adds}
use Rattle.call_edges.specs.PlacedSeen.{see_calls}
use Rattle.call_edges.proofs.directives.push_calls_in.Given as goal

-- the calls in the goals so far
abbrev pub invariant-loop-body : goal.invariant-loop-body
invariant-loop-body l =
    Adds (IsAmong (λ body. IsCalledIn l.program no_caller (see_body body)) (take l.body-index l.goals)) (see_calls l.fn.calls.items)
    (see_calls l.calls.items)
