use Rattle.std.proofs.Common.{◌≡◌, ◌≤◌, ◌⊎◌, length, slice_index, ◌-◌, All}
use Rattle.prolog_tokens.specs.declared.rows.TheConstants.{SPAN_BYTES}
use Rattle.prolog_tokens.specs.Rows.{IsBegin, IsSpan, BeginsWithNewline, HasBytes, StandSideBySide}
use Rattle.prolog_tokens.proofs.rows.spans.Given as goal

abbrev pub invariant-loop-from : goal.invariant-loop-from
invariant-loop-from l = record {
  spans : All (IsSpan l.text) l.spans.items;
  whole : StandSideBySide 0 l.spans.items l.from;
  within : l.from ≤ length l.text;
  begins : IsBegin l.text l.from;
  newlines : All (BeginsWithNewline l.text) l.spans.items;
  long : All (HasBytes SPAN_BYTES l.text) l.spans.items;
  stops : (l.from ≡ 0) ⊎ ((l.from ≡ length l.text) ⊎ (slice_index l.text l.from ≡ 10));
}

abbrev pub decreases-loop-from : goal.decreases-loop-from
decreases-loop-from l = length l.text - l.from
