use Rattle.std.proofs.Common.{◌<◌, inl, false, length, subst}
use Rattle.search_machine.specs.Events.{Asks, IsEvent}
use Rattle.search_machine.specs.State.{IsGoodState}
use Rattle.search_machine.proofs.Driving.{claims_event, sound_good, turn_falls, two_only}
use Rattle.search_machine.proofs.Falling.{asks_below, asks_waits}
use Rattle.search_machine.proofs.schedule.drive.take_turn.Goals as goal

pub returns-in-Done-clause-event : goal.returns-in-Done-clause-event
returns-in-Done-clause-event g c = inl (rw c.in-Done.is at c.in_ok-act.ensures.step)

pub returns-in-Done-clause-falls : goal.returns-in-Done-clause-falls
returns-in-Done-clause-falls g c =
    turn_falls (g.O.Opener.lists c.args.opener.now) c.args.machine.now c.act.new.self c.args.place c.requires.graph c.keeps.ensures c.requires.sound
    c.in_ok-act.ensures.only (inl (rw c.in-Done.is at c.in_ok-act.ensures.step))

pub expand-requires-clause-below : goal.expand-requires-clause-below
expand-requires-clause-below g c =
    let good : IsGoodState c.args.machine.now.lists c.args.machine.now.roots false c.args.machine.now.state =
    sound_good c.args.machine.now c.keeps.ensures c.requires.sound in
    let asks : Asks c.args.machine.now.state c.args.place c.in-Open.node c.act.new.self.state = rw c.in-Open.is at c.in_ok-act.ensures.step in
    let below = asks_below good asks in
    subst (λ lists. c.in-Open.node < length lists) c.requires.graph below

pub opened-requires-clause-waits : goal.opened-requires-clause-waits
opened-requires-clause-waits g c =
    let good : IsGoodState c.args.machine.now.lists c.args.machine.now.roots false c.args.machine.now.state =
    sound_good c.args.machine.now c.keeps.ensures c.requires.sound in
    let asks : Asks c.args.machine.now.state c.args.place c.in-Open.node c.act.new.self.state = rw c.in-Open.is at c.in_ok-act.ensures.step in
    asks_waits good asks

pub returns-in-Ok-clause-event : goal.returns-in-Ok-clause-event
returns-in-Ok-clause-event g c =
    let asks : Asks c.args.machine.now.state c.args.place c.in-Open.node c.act.new.self.state = rw c.in-Open.is at c.in_ok-act.ensures.step in
    claims_event (g.O.Opener.lists c.args.opener.now) c.args.machine.now c.act.new.self c.opened.new.self c.args.place c.in-Open.node
    c.requires.graph c.in_ok-act.ensures.only asks c.in-Ok.ensures.opens

pub returns-in-Ok-clause-falls : goal.returns-in-Ok-clause-falls
returns-in-Ok-clause-falls g c =
    let asks : Asks c.args.machine.now.state c.args.place c.in-Open.node c.act.new.self.state = rw c.in-Open.is at c.in_ok-act.ensures.step in
    let event : IsEvent (g.O.Opener.lists c.args.opener.now) c.args.place c.args.machine.now.state c.opened.new.self.state =
    claims_event (g.O.Opener.lists c.args.opener.now) c.args.machine.now c.act.new.self c.opened.new.self c.args.place c.in-Open.node
    c.requires.graph c.in_ok-act.ensures.only asks c.in-Ok.ensures.opens in
    turn_falls (g.O.Opener.lists c.args.opener.now) c.args.machine.now c.opened.new.self c.args.place c.requires.graph c.keeps.ensures c.requires.sound
    (two_only c.args.machine.now c.act.new.self c.opened.new.self c.in_ok-act.ensures.only c.in-Ok.ensures.only) event
