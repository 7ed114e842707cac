use Rattle.prolog_ops.specs.Table.{ops_of}
use Rattle.clause_text.proofs.piece.piece_of.Goals as goal

pub returns-in-Err : goal.returns-in-Err
returns-in-Err c =
    c.unread.ensures c.args.numbered.now.names (ops_of c.args.table.now) c.args.text.now c.args.tokens.now c.args.stretch.now.from
    c.requires.stretch.some c.requires.stretch.ends
