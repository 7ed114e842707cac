use Rattle.std.proofs.Common.{ℕ, take, get_or, length}
use Rattle.std.proofs.lemmas.List.{take_more}
use Rattle.std.proofs.lemmas.List.Elements.{Contains-get_or}
use Rattle.graph_law.proofs.GraphLaws.{all_below_from_closed}
use Rattle.graph_law.proofs.HeightSteps.{members_more}
use Rattle.graph_law.proofs.heights.height_of.Goals as goal

pub height_over-over-requires-clause-within : goal.height_over-over-requires-clause-within
height_over-over-requires-clause-within c =
    all_below_from_closed c.args.graph.now.lists (get_or c.args.group.now c.loop-member.member-index 0) (length c.args.places.now)
    c.successors.result.now c.successors.ensures.successors c.requires.counted c.successors.ensures.graph.closed

pub height_over-over-requires-clause-known : goal.height_over-over-requires-clause-known
height_over-over-requires-clause-known c = λ k d lt.
    let member : ℕ = get_or c.args.group.now c.loop-member.member-index 0 in
    c.requires.known member (get_or c.successors.result.now k d)
    (Contains-get_or c.args.group.now c.loop-member.member-index 0 c.loop-member-test.true)
    (rw (← c.successors.ensures.successors) (Contains-get_or c.successors.result.now k d lt))

pub loop-member-preserved : goal.loop-member-preserved
loop-member-preserved c =
    rw (c.max-height.ensures, take_more c.args.group.now c.loop-member.member-index 0 c.loop-member-test.true)
    (members_more c.args.graph.now.lists c.args.places.now c.args.place (take c.loop-member.member-index c.args.group.now)
    (get_or c.args.group.now c.loop-member.member-index 0) c.args.heights.now c.loop-member.height c.height_over-over.result
    c.loop-member.invariant (rw c.successors.ensures.successors at c.height_over-over.ensures))
