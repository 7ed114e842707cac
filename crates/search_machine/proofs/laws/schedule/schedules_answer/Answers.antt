use Rattle.std.proofs.Common.{false, length, sym, subst}
use Rattle.graph_law.specs.Classes.{HasMember}
use Rattle.graph_law.specs.Graph.{Calls}
use Rattle.graph_law.specs.LegalOrder.{IsComplete, IsLegalOrder}
use Rattle.search_machine.specs.Runs.{opening_state}
use Rattle.search_machine.proofs.laws.schedule.schedules_answer.Goals as goal

pub returns-clause-legal : goal.returns-clause-legal
returns-clause-legal c = λ lists roots searches seed groups closed rooted scheduled.
    let good =
    c.runs_keep.ensures.runs lists roots seed (opening_state (length lists) roots searches) scheduled.states scheduled.end
    (c.runs_keep.ensures.opening lists roots searches closed rooted) scheduled.run in
    subst (IsLegalOrder (Calls lists)) (sym scheduled.released) (c.good_states.ensures.legal lists roots false scheduled.end good)

pub returns-clause-complete : goal.returns-clause-complete
returns-clause-complete c = λ lists roots searches seed groups closed rooted some scheduled.
    subst (IsComplete roots) (sym scheduled.released)
    (c.nothing_left.ensures.runs lists roots searches seed scheduled.states scheduled.end closed rooted some scheduled.run scheduled.stuck)

pub returns-clause-reached : goal.returns-clause-reached
returns-clause-reached c = λ lists roots searches seed groups closed rooted scheduled v member.
    let good =
    c.runs_keep.ensures.runs lists roots seed (opening_state (length lists) roots searches) scheduled.states scheduled.end
    (c.runs_keep.ensures.opening lists roots searches closed rooted) scheduled.run in
    c.good_states.ensures.reached lists roots false scheduled.end good v (subst (λ these. HasMember these v) scheduled.released member)
