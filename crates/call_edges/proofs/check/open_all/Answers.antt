use Rattle.std.proofs.Common.{List, sym, subst}
use Rattle.call_edges.specs.declared.piece_calls.PieceCalls.{PieceCalls}
use Rattle.call_edges.specs.declared.piece.Piece.{Piece}
use Rattle.call_edges.specs.CallLists.{ArePieces}
use Rattle.call_edges.specs.KeptCalls.{AreKept}
use Rattle.call_edges.proofs.CheckLemmas.{all_opened, pieces_there, kept_pieces}
use Rattle.call_edges.proofs.check.open_all.Goals as goal

pub returns-clause-pieces : goal.returns-clause-pieces
returns-clause-pieces g c =
    let seen = c.args.program.now in
    let opened = c.in_ok-opened.opened.items in
    let are = all_opened c.args.keep seen c.in_ok-each.each.items opened c.in_ok-each.ensures c.in_ok-opened.ensures in
    let P : List Piece → Type 0 = λ pieces. ArePieces seen pieces in
    subst P (sym c.in_ok-found.ensures.pieces) (pieces_there c.args.keep seen opened are)

pub returns-clause-kept : goal.returns-clause-kept
returns-clause-kept g c keep =
    let seen = c.args.program.now in
    let opened = c.in_ok-opened.opened.items in
    let are = all_opened c.args.keep seen c.in_ok-each.each.items opened c.in_ok-each.ensures c.in_ok-opened.ensures in
    let P : List PieceCalls → Type 0 = λ kept. AreKept seen kept in
    subst P (sym c.in_ok-found.ensures.kept) (kept_pieces c.args.keep seen opened are keep)
