use Rattle.std.proofs.Common.{inl, ◌∙◌, ap, subst}
use Rattle.search_stack.specs.Search.{IsOn}
use Rattle.search_stack.specs.Stack.{size}
use Rattle.search_stack.proofs.Shapes.{empty_size}
use Rattle.search_tests.proofs.LedSteps.{none_on}
use Rattle.search_tests.proofs.step_tests.calling_itself.Goals as goal

pub push-requires-clause-fresh : goal.push-requires-clause-fresh
push-requires-clause-fresh c = λ on. none_on c.args.node (subst (λ s. IsOn s c.args.node) c.in_ok-search.ensures.empty on)

pub push-requires-clause-led : goal.push-requires-clause-led
push-requires-clause-led c = inl (ap size c.in_ok-search.ensures.empty ∙ empty_size)
