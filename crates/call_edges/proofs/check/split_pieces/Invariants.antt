use Rattle.std.proofs.Common.{◌≡◌, ◌++◌}
use Rattle.call_edges.specs.OpenedPieces.{pieces_of, kept_of}
use Rattle.call_edges.proofs.check.split_pieces.Given as goal

-- the parts of the pieces so far, and those that are left
abbrev pub invariant-loop-one : goal.invariant-loop-one
invariant-loop-one l = record {
  left : l.yielded ++ l.one-iterator.rest.items ≡ l.fn.opened.items;
  pieces : l.pieces.items ≡ pieces_of l.yielded;
  kept : l.kept.items ≡ kept_of l.yielded;
}
