use Rattle.std.proofs.Common.{◌≡◌, ℕ, ◌<◌, get_or}
use Rattle.file_library.proofs.spots.run_end.Given as goal

-- the spots so far are of the file
abbrev pub invariant-loop-at : goal.invariant-loop-at
invariant-loop-at l = (k : ℕ) → k < l.at → (get_or l.spots k (0, 0)).0 ≡ l.file
