use Rattle.std.proofs.Common.{◌≡◌, ℕ, ◌<◌, ◌≤◌, true}
use Rattle.std.specs.Prelude.{slice_index}
use Rattle.edge_text.specs.Lines.{is_separator}
use Rattle.edge_text.proofs.words.word_start.Given as goal

-- only separators so far
abbrev pub invariant-loop-at : goal.invariant-loop-at
invariant-loop-at l = (k : ℕ) → l.fn.from ≤ k → k < l.at → is_separator (slice_index l.line k) ≡ true
