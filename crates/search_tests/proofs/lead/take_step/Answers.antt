use Rattle.std.proofs.Common.{◌∙◌, ap, sym, subst}
use Rattle.search_stack.specs.Search.{SearchValue}
use Rattle.group_release.specs.Book.{RunsBeside}
use Rattle.search_tests.proofs.LedSteps.{led_to}
use Rattle.search_tests.proofs.lead.take_step.Goals as goal

pub follow-requires-clause-leads : goal.follow-requires-clause-leads
follow-requires-clause-leads c =
    led_to c.requires.runs (sym c.begin.ensures.next ∙ c.in-Some.is)
    (ap (λ (value : SearchValue). value.stack) c.in-Some.ensures.begun) c.begin.ensures.wants_nothing

pub finish-requires-clause-runs : goal.finish-requires-clause-runs
finish-requires-clause-runs c = subst (RunsBeside c.args.book.now) (sym c.in-None.ensures.unchanged) c.requires.runs
