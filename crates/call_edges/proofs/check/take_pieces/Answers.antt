-- One piece more.
use Rattle.std.proofs.Common.{◌++◌, ◌∷◌, [], Result, Ok, map, append_assoc, ap, sym, ◌∙◌}
use Rattle.std.specs.declared.alloc.AllocError.{AllocError}
use Rattle.std.proofs.lemmas.List.{map-append}
use Rattle.call_edges.specs.declared.piece.OpenedPiece.{OpenedPiece}
use Rattle.call_edges.proofs.check.take_pieces.Goals as goal

pub loop-one-preserved : goal.loop-one-preserved
loop-one-preserved c =
    let one = c.in-Some.one in
    let before = c.loop-one.yielded in
    let found : OpenedPiece → Result OpenedPiece AllocError = λ piece. Ok piece in (
      append_assoc before (one ∷ []) c.next.new.self.rest.items ∙ (ap (λ rest. before ++ rest) (sym c.in-Some.ensures.steps.0) ∙ c.loop-one.invariant.0),
      ap (λ xs. xs ++ one ∷ []) c.loop-one.invariant.1
          ∙ (ap (λ x. map found c.loop-one.opened.items ++ x ∷ []) c.in-Ok.is
          ∙ (sym (map-append found c.loop-one.opened.items (c.in-Ok.piece ∷ [])) ∙ ap (map found) (sym c.in_ok-push-in-Ok.ensures.items))),
    )
