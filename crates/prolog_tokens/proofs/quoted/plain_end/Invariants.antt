use Rattle.std.proofs.Common.{length, ◌-◌}
use Rattle.prolog_tokens.proofs.Parts.{ArePlain}
use Rattle.prolog_tokens.proofs.quoted.plain_end.Given as goal

abbrev pub invariant-loop-end : goal.invariant-loop-end
invariant-loop-end l = ArePlain l.bytes l.quote l.from l.end

abbrev pub decreases-loop-end : goal.decreases-loop-end
decreases-loop-end l = length l.bytes - l.end
