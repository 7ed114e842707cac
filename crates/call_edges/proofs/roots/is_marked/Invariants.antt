use Rattle.std.proofs.Common.{◌≡◌, ◌<◌, ℕ, false, get_or}
use Rattle.call_edges.proofs.roots.is_marked.Given as goal

-- none of the places so far is in a marked file
abbrev pub invariant-loop-place : goal.invariant-loop-place
invariant-loop-place l = (k : ℕ) → k < l.place-index → get_or l.marks (get_or l.places k (0, 0)).0 false ≡ false
