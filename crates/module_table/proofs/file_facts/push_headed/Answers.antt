use Rattle.std.proofs.Common.{arith}
use Rattle.prolog_names.specs.Names.{name_at}
use Rattle.clause_text.specs.Clauses.{clause_tree}
use Rattle.module_table.specs.Heads.{Owned}
use Rattle.module_table.proofs.HeadLemmas.{clause_small}
use Rattle.module_table.proofs.file_facts.push_headed.Goals as goal

pub overflow_cast-arity : goal.overflow_cast-arity
overflow_cast-arity c =
    let names = c.args.names.now in
    let owner = name_at names c.args.owner in
    let own : Owned = record { module_ = name_at names c.in-Ok.own.module; name = name_at names c.in-Ok.own.name; arity = c.in-Ok.own.arity } in
    omega (arith, c.requires, clause_small owner (clause_tree c.args.names.now c.args.clause) own c.in-Ok.ensures.ok)
