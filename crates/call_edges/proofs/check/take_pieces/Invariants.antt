use Rattle.std.proofs.Common.{◌≡◌, ◌++◌, Ok, map}
use Rattle.call_edges.proofs.check.take_pieces.Given as goal

-- the pieces so far, and those that are left
abbrev pub invariant-loop-one : goal.invariant-loop-one
invariant-loop-one l = (l.yielded ++ l.one-iterator.rest.items ≡ l.fn.each.items) × (l.yielded ≡ map (λ one. Ok one) l.opened.items)
