use Rattle.std.proofs.Common.{refl}
use Rattle.search_machine.proofs.Pushing.{back_machine, failed_state, failed_value, fresh, led, opened_machine, opens_step, waiting, wants_none}
use Rattle.search_machine.proofs.machine.Machine.opened.Goals as goal

pub push-requires-clause-wants_nothing : goal.push-requires-clause-wants_nothing
push-requires-clause-wants_nothing c =
    let is = waiting c.self.invariant (rw (← c.self.view_is) at c.requires.waits) c.index_mut.ensures.value c.take-there.ensures.value in
    wants_none is c.in-Ok.ensures.wanted

pub push-requires-clause-fresh : goal.push-requires-clause-fresh
push-requires-clause-fresh c =
    let is = waiting c.self.invariant (rw (← c.self.view_is) at c.requires.waits) c.index_mut.ensures.value c.take-there.ensures.value in
    fresh is c.in-Ok.ensures.stack

pub push-requires-clause-led : goal.push-requires-clause-led
push-requires-clause-led c =
    let is = waiting c.self.invariant (rw (← c.self.view_is) at c.requires.waits) c.index_mut.ensures.value c.take-there.ensures.value in
    led is c.in-Ok.ensures.stack

pub invariant_of-self : goal.invariant_of-self
invariant_of-self c =
    let is = waiting c.self.invariant (rw (← c.self.view_is) at c.requires.waits) c.index_mut.ensures.value c.take-there.ensures.value in
    let back = c.in-Err.ensures.back in
    back_machine is _ c.fail.ensures (failed_state is c.take-there.new.self c.in-Err.there c.fail.new.self back c.fail.ensures)

pub returns-in-Err-clause-failed : goal.returns-in-Err-clause-failed
returns-in-Err-clause-failed c =
    let is = waiting c.self.invariant (rw (← c.self.view_is) at c.requires.waits) c.index_mut.ensures.value c.take-there.ensures.value in
    let back = c.in-Err.ensures.back in
    rw (← c.self.view_is) (failed_value is c.take-there.new.self c.in-Err.there c.fail.new.self back c.fail.ensures)

pub invariant_of-self-2 : goal.invariant_of-self-2
invariant_of-self-2 c =
    let is = waiting c.self.invariant (rw (← c.self.view_is) at c.requires.waits) c.index_mut.ensures.value c.take-there.ensures.value in
    let opens =
    opens_step is c.take-there.new.self c.in-Ok.search c.push.new.self c.args.opening.succs.items c.in-Ok.ensures.stack c.push.ensures.pushed
    (rw (← c.self.view_is) at c.requires.successors) c.push.ensures.wants_nothing in
    opened_machine is _ refl opens

pub returns-clause-opens : goal.returns-clause-opens
returns-clause-opens c =
    let is = waiting c.self.invariant (rw (← c.self.view_is) at c.requires.waits) c.index_mut.ensures.value c.take-there.ensures.value in
    rw (← c.self.view_is)
    (opens_step is c.take-there.new.self c.in-Ok.search c.push.new.self c.args.opening.succs.items c.in-Ok.ensures.stack c.push.ensures.pushed
    (rw (← c.self.view_is) at c.requires.successors) c.push.ensures.wants_nothing)
