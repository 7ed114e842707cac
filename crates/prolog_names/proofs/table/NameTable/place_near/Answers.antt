use Rattle.std.proofs.Common.{sym}
use Rattle.prolog_names.proofs.GrownTable.{is_there, named_already}
use Rattle.prolog_names.proofs.table.NameTable.place_near.Goals as goal

pub returns-then-has_at-clause-names : goal.returns-then-has_at-clause-names
returns-then-has_at-clause-names c =
    let at = c.has_at.ensures c.if-has_at.true in
    sym (named_already c.args.self.now c.args.name.now (is_there c.args.self.now c.args.name.now _ at.0 at.1))
