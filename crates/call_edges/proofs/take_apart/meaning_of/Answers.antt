use Rattle.std.proofs.Common.{sym, ap, ◌∙◌}
use Rattle.import_rules.specs.Program.{meta_of_found}
use Rattle.import_rules.proofs.FoundMeans.{below}
use Rattle.call_edges.proofs.take_apart.meaning_of.Goals as goal

pub returns-then-declares_nothing-clause-declared : goal.returns-then-declares_nothing-clause-declared
returns-then-declares_nothing-clause-declared c =
    sym (c.declares_nothing.ensures c.if-declares_nothing.true c.args.owner.now c.args.name.now c.args.arity)

pub meta_of-requires : goal.meta_of-requires
meta_of-requires c = below c.args.program.now c.args.owner.now c.args.name.now c.args.arity c.in-Some.node (sym c.in-Some.ensures)

pub returns-in-Some-clause-meant : goal.returns-in-Some-clause-meant
returns-in-Some-clause-meant c = sym c.in-Some.ensures

pub returns-in-Some-clause-declared : goal.returns-in-Some-clause-declared
returns-in-Some-clause-declared c = c.meta_of.ensures ∙ ap (meta_of_found c.args.program.now) c.in-Some.ensures

pub returns-in-None-clause-meant : goal.returns-in-None-clause-meant
returns-in-None-clause-meant c = sym c.in-None.ensures

pub returns-in-None-clause-declared : goal.returns-in-None-clause-declared
returns-in-None-clause-declared c = ap (meta_of_found c.args.program.now) c.in-None.ensures
