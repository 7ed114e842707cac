use Rattle.std.proofs.Common.{ap, ◌∙◌, subst}
use Rattle.std.specs.Borrow.{Bor}
use Rattle.std.specs.List.{AllZip}
use Rattle.prolog_ops.specs.Table.{ops_of}
use Rattle.rayon.proofs.ListFacts.{IfOk-then}
use Rattle.rayon.proofs.ToStd.{slice-AllZip}
use Rattle.clause_text.specs.declared.piece.Stretch.{Stretch}
use Rattle.clause_text.specs.declared.piece.Piece.{Piece}
use Rattle.clause_text.specs.Pieces.{IsPiece}
use Rattle.clause_text.proofs.PieceLemmas.{pieces_of}
use Rattle.clause_text.proofs.piece.read_each.Goals as goal

pub returns : goal.returns
returns g c =
    let table = ops_of c.args.table.now in
    let text = c.args.text.now in
    let ts = c.args.tokens.now in
    let stretches = c.args.stretches.now in
    let slice = ap (λ it. it.base.slice.now) c.map.ensures.base ∙ (ap (λ it. it.slice.now) c.with_min_len.ensures.base ∙ c.par_iter.ensures) in
    IfOk-then c.collect.result _ _ c.collect.ensures (λ v h.
    let chain = h.1 in
    let read =
    subst (λ f. AllZip (λ (stretch : Bor Stretch) (piece : Piece). IsPiece f.4.now.names (ops_of f.1.now) f.2.now f.3.now stretch.now.from stretch.now.to piece) chain.0 h.0) c.map.ensures.f chain.2 in
    rw h.2
    (pieces_of c.args.numbered.now.names table text ts stretches h.0
    (slice-AllZip chain.0 stretches (chain.1 ∙ slice) (λ (stretch : Stretch) (piece : Piece). IsPiece c.args.numbered.now.names table text ts stretch.from stretch.to piece) h.0 read)))
