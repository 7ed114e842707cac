use Rattle.std.proofs.Common.{inl, ap, ◌∙◌}
use Rattle.search_stack.specs.Stack.{size}
use Rattle.search_stack.proofs.Shapes.{empty_size}
use Rattle.claim_tests.proofs.ByHand.{none_on, wins_first}
use Rattle.claim_tests.proofs.by_hand.start.Goals as goal

pub push-requires-clause-working : goal.push-requires-clause-working
push-requires-clause-working c =
    wins_first c.args.pass.now c.args.root c.requires.idle c.in-Won.ensures.pass c.in-Won.ensures.view c.in_ok-search.ensures.empty
    c.in_ok-search.ensures.wants_nothing

pub push-requires-clause-away : goal.push-requires-clause-away
push-requires-clause-away c = none_on c.args.root c.in_ok-search.ensures.empty

pub push-requires-clause-led : goal.push-requires-clause-led
push-requires-clause-led c = inl (ap size c.in_ok-search.ensures.empty ∙ empty_size)
