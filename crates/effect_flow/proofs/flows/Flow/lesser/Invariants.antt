use Rattle.std.proofs.Common.{◌≡◌, ℕ, ◌<◌, ◌≤◌, min, length, get_or}
use Rattle.effect_flow.proofs.flows.Flow.lesser.Given as goal
use Rattle.effect_flow.specs.declared.kinds.TheConstants.{KINDS}

-- the lesser ones so far, and those of the flow itself
abbrev pub invariant-loop-kind : goal.invariant-loop-kind
invariant-loop-kind l = record {
  each : length l.firsts ≡ KINDS;
  one : length l.self.firsts ≡ KINDS;
  other : length l.other.firsts ≡ KINDS;
  done : (k : ℕ) → k < l.kind → get_or l.firsts k 0 ≡ min (get_or l.self.firsts k 0) (get_or l.other.firsts k 0);
  low : (k : ℕ) → k < l.kind → (get_or l.self.firsts k 0 ≤ 4294967295) × (get_or l.other.firsts k 0 ≤ 4294967295);
  rest : (k : ℕ) → l.kind ≤ k → get_or l.firsts k 0 ≡ get_or l.self.firsts k 0;
}
