use Rattle.std.proofs.Common.{true≢false, ◌∙◌, sym}
use Rattle.search_machine.proofs.Steps.{below_of}
use Rattle.search_tests.proofs.LedSteps.{joins}
use Rattle.search_tests.proofs.lead.finish.Goals as goal

pub returns-clause-runs : goal.returns-clause-runs
returns-clause-runs c =
    let below = below_of c.is_ripe.ensures.shaped c.requires.done (λ ripe. true≢false (sym (c.is_ripe.ensures.ripe.1 ripe) ∙ c.if-is_ripe.false)) in
    joins c.requires.runs c.requires.done below c.retreat.ensures.retreated
