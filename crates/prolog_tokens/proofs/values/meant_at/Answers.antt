use Rattle.prolog_tokens.proofs.Names.{meant_escape}
use Rattle.prolog_tokens.proofs.values.meant_at.Goals as goal

pub returns-then-bytes-at-eq92 : goal.returns-then-bytes-at-eq92
returns-then-bytes-at-eq92 c = meant_escape c.args.bytes.now c.args.quote c.args.at c.escape_at.result c.requires.quote c.if-bytes-at-eq92.true c.escape_at.ensures
