use Rattle.std.proofs.Common.{ℕ, ◌<◌, take}
use Rattle.effect_flow.specs.Carriers.{IsFirst, first_at}
use Rattle.effect_flow.specs.Seen.{see_flow, see_flows}
use Rattle.effect_flow.proofs.Found.{IsOfMember}
use Rattle.effect_flow.proofs.carriers.flow_of.Given as goal
use Rattle.effect_flow.specs.declared.kinds.TheConstants.{KINDS}

-- what the members so far give
abbrev pub invariant-loop-member : goal.invariant-loop-member
invariant-loop-member g l =
    (kind : ℕ) → kind < KINDS
    → IsFirst (IsOfMember (g.O.Opener.lists l.grouped.opener.now) l.grouped.own.now l.grouped.places.now l.place (see_flows l.flows) kind (take l.member-index l.member-items))
    (first_at (see_flow l.flow) kind)
