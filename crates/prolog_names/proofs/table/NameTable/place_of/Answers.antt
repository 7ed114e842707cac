use Rattle.std.proofs.Common.{sym}
use Rattle.prolog_names.proofs.GrownTable.{is_there, named_already}
use Rattle.prolog_names.proofs.table.NameTable.place_of.Goals as goal

pub returns-in-Some-clause-names : goal.returns-in-Some-clause-names
returns-in-Some-clause-names c =
    sym (named_already c.args.self.now c.args.name.now
    (is_there c.args.self.now c.args.name.now c.in-Some.place c.in-Some.ensures.0 c.in-Some.ensures.1))
