use Rattle.std.proofs.Common.{◌≡◌, Some, false, sym, subst}
use Rattle.std.specs.Prelude.{slice_get}
use Rattle.std.specs.List.{list_any}
use Rattle.import_rules.specs.Names.{is_same, pred_name}
use Rattle.import_rules.specs.Program.{see_program}
use Rattle.import_rules.proofs.Known.{known}
use Rattle.import_rules.proofs.OwnLemmas.{own_at}
use Rattle.import_rules.proofs.program_tables.ProgramTables.find_hashed.Goals as goal

pub returns-in-Some : goal.returns-in-Some
returns-in-Some c =
    let p = c.args.self.now in
    let wanted = pred_name c.args.module.now c.args.name.now c.args.arity in
    sym
    (own_at (see_program p) wanted c.in-Some.node (known p).numbered.in_order
    (subst (λ ps. slice_get ps c.in-Some.node ≡ Some wanted) c.predicates-predicates.ensures c.in-Some.ensures.is))

pub find_imported-requires-clause-absent : goal.find_imported-requires-clause-absent
find_imported-requires-clause-absent c =
    let wanted = pred_name c.args.module.now c.args.name.now c.args.arity in
    subst (λ ps. list_any (is_same wanted) ps ≡ false) c.predicates-predicates.ensures c.in_default.ensures.is
