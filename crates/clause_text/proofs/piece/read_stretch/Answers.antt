use Rattle.prolog_ops.specs.Table.{ops_of}
use Rattle.rayon.proofs.ListFacts.{IfOk-then}
use Rattle.clause_text.proofs.piece.read_stretch.Goals as goal

pub returns : goal.returns
returns c =
    IfOk-then c.share_list.result _ _ c.share_list.ensures (λ piece h.
    h (ops_of c.args.table.now) c.args.text.now c.args.tokens.now c.args.stretch.now.from c.read_on-read.ensures)
