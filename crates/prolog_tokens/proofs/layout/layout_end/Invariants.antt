use Rattle.std.proofs.Common.{◌≢◌, length, ◌-◌, ◌≤◌}
use Rattle.prolog_tokens.specs.declared.chars.Class.TheVariants.{Inner}
use Rattle.prolog_tokens.specs.Chars.{class_at}
use Rattle.prolog_tokens.specs.Layout.{IsLayout}
use Rattle.prolog_tokens.proofs.layout.layout_end.Given as goal

abbrev pub invariant-loop-next : goal.invariant-loop-next
invariant-loop-next l = record {
  within : l.end ≤ length l.text;
  begins : class_at l.text l.end ≢ Inner;
  layout : IsLayout l.text l.from l.end;
}

abbrev pub decreases-loop-next : goal.decreases-loop-next
decreases-loop-next l = length l.text - l.end
