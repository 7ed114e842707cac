use Rattle.search_tests.proofs.LedSteps.{entered, led_back}
use Rattle.search_tests.proofs.lead.follow.Goals as goal

pub returns-then-holds-clause-runs : goal.returns-then-holds-clause-runs
returns-then-holds-clause-runs c =
    let on = c.holds.ensures.0 c.if-holds.true in
    led_back c.requires.leads on (c.back.ensures.lowered (c.back.ensures.on.1 on) on.place on.within on.is)

pub returns-clause-runs : goal.returns-clause-runs
returns-clause-runs c =
    entered c.requires.leads c.if-not-is_free.ensures (rw (← c.requires.lists) at c.in_ok-push.ensures.pushed)
    c.in_ok-push.ensures.wants_nothing
