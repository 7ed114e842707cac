use Rattle.std.proofs.Common.{rules, ◌≡◌, ◌+◌, true, false, true≢false, ◌∙◌, sym, subst}
use Rattle.search_machine.proofs.Driving.{AreActorsBelow, one_more, passed_over}
use Rattle.search_machine.proofs.schedule.actors.list_actors.Goals as goal

pub places-preserved-then-not-can_act : goal.places-preserved-then-not-can_act
places-preserved-then-not-can_act c =
    let no : c.can_act.result ≡ false = search rules in
    passed_over c.places.invariant (λ can. true≢false (sym (c.can_act.ensures.1 (c.requires, can)) ∙ no))

pub places-preserved : goal.places-preserved
places-preserved c =
    let yes : c.can_act.result ≡ true = search rules in
    subst (AreActorsBelow c.args.machine.now.state (c.places.place + 1)) (sym c.in_ok-push.ensures.items)
    (one_more c.places.invariant (c.can_act.ensures.0 yes).1)
