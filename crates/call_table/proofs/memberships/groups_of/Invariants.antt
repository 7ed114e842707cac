use Rattle.graph_law.specs.Graph.{lists_of}
use Rattle.call_table.proofs.MembershipLemmas.{AreGroupsBelow}
use Rattle.call_table.proofs.memberships.groups_of.Given as goal

-- the groups so far
abbrev pub invariant-loop-at : goal.invariant-loop-at
invariant-loop-at l = AreGroupsBelow l.count (lists_of l.groups) l.at l.places.items
