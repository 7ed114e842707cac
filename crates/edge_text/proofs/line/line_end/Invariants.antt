use Rattle.std.proofs.Common.{◌≡◌, ℕ, ◌<◌, ◌≤◌, false}
use Rattle.std.specs.Prelude.{slice_index}
use Rattle.edge_text.specs.Lines.{is_newline}
use Rattle.edge_text.proofs.line.line_end.Given as goal

-- no newline so far
abbrev pub invariant-loop-at : goal.invariant-loop-at
invariant-loop-at l = (k : ℕ) → l.fn.from ≤ k → k < l.at → is_newline (slice_index l.text k) ≡ false
