use Rattle.std.proofs.Common.{[], refl}
use Rattle.call_edges.specs.Calls.{IsAmong}
use Rattle.call_edges.specs.FaultPlaces.{HasPlace}
use Rattle.call_edges.proofs.AmongLemmas.{among_more, among_all}
use Rattle.call_edges.proofs.CallLemmas.{adds_from_none}
use Rattle.call_edges.proofs.CheckLemmas.{place_adds}
use Rattle.call_edges.proofs.check.join_faults.Goals as goal

pub loop-piece-preserved : goal.loop-piece-preserved
loop-piece-preserved c =
    let piece = c.piece-item.result in
    let mid = c.loop-piece.places.items in
    let new = c.extend_from_slice.new.self.items in
    among_more HasPlace c.args.pieces.now c.loop-piece.piece-index piece [] mid new c.loop-piece-test.true c.piece-item.is c.loop-piece.invariant
    (place_adds piece mid new (rw c.deref.ensures.value at c.in_ok-extend_from_slice.ensures.items))

pub returns : goal.returns
returns c =
    let pieces = c.args.pieces.now in
    adds_from_none (IsAmong HasPlace pieces) [] c.loop-piece.places.items refl
    (among_all HasPlace pieces c.loop-piece.piece-index [] c.loop-piece.places.items c.loop-piece-test.false c.loop-piece.invariant)
