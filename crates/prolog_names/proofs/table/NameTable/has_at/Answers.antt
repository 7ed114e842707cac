use Rattle.std.proofs.Common.{sym, ◌∙◌, arith}
use Rattle.prolog_names.specs.Names.{name_at}
use Rattle.prolog_names.proofs.Chains.{same_bytes}
use Rattle.prolog_names.proofs.table.NameTable.has_at.Goals as goal

pub returns : goal.returns
returns c = λ found. (
  omega (arith, c.len.ensures.is, c.if-place-len.false),
  same_bytes (name_at c.args.self.now c.args.place) c.args.name.now (sym c.is.ensures ∙ found),
)
