use Rattle.std.proofs.Common.{length, ◌-◌, ◌+◌, ◌≤◌}
use Rattle.prolog_tokens.specs.Quoted.{PartsLead}
use Rattle.prolog_tokens.proofs.quoted.quoted_end.Given as goal

abbrev pub invariant-loop-end : goal.invariant-loop-end
invariant-loop-end l = record {
  within : l.at ≤ length l.bytes;
  lead : PartsLead l.bytes l.quote (l.start + 1) l.at;
}

abbrev pub decreases-loop-end : goal.decreases-loop-end
decreases-loop-end l = length l.bytes - l.at
