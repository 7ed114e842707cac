use Rattle.std.proofs.Common.{◌<◌, ◌≤◌, length, arith}
use Rattle.prolog_tokens.specs.Layout.{Sort, IsPiece}
use Rattle.prolog_tokens.proofs.Pieces.{piece_some, piece_within, layout_more}
use Rattle.prolog_tokens.proofs.Boundaries.{piece_boundary}
use Rattle.prolog_tokens.proofs.layout.layout_end.Goals as goal

pub loop-next-smaller : goal.loop-next-smaller
loop-next-smaller c =
    let text = c.args.text.now in
    let piece : (sort : Sort) × IsPiece text c.loop-next.end c.in-Some.next sort = rw c.in-Some.is at c.in_ok-next.ensures in
    let after : c.loop-next.end < c.in-Some.next = piece_some text c.loop-next.end c.in-Some.next piece.0 piece.1 in
    let within : c.in-Some.next ≤ length text = piece_within text c.loop-next.end c.in-Some.next piece.0 piece.1 in
    omega arith

pub loop-next-preserved : goal.loop-next-preserved
loop-next-preserved c =
    let text = c.args.text.now in
    let piece : (sort : Sort) × IsPiece text c.loop-next.end c.in-Some.next sort = rw c.in-Some.is at c.in_ok-next.ensures in
    record {
      within = piece_within text c.loop-next.end c.in-Some.next piece.0 piece.1;
      begins = piece_boundary text c.loop-next.end c.in-Some.next piece.0 c.utf8.text piece.1;
      layout = layout_more text c.args.from c.loop-next.end c.in-Some.next piece.0 c.loop-next.invariant.layout piece.1;
    }
