-- Where the set gives no more names, all of them are there.
use Rattle.std.proofs.Common.{◌++◌, sym, ◌∙◌, ap, append-nil}
use Rattle.file_library.proofs.next_wave.in_order.Goals as goal

pub returns-clause-same : goal.returns-clause-same
returns-clause-same c =
    sym (append-nil c.loop-name.names.items) ∙ (ap (λ rest. c.loop-name.names.items ++ rest) (sym c.in-None.ensures.steps.0) ∙ c.loop-name.invariant)
