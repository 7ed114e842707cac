use Rattle.std.proofs.Common.{sym, ap, ◌∙◌}
use Rattle.import_rules.specs.Program.{see_program, found, meta_of_found}
use Rattle.import_rules.proofs.FoundMeans.{below}
use Rattle.import_rules.proofs.MetaTold.{no_places, meant_none}
use Rattle.import_rules.proofs.program_tables.ProgramTables.meta_meant.Goals as goal

pub returns-then-is_empty : goal.returns-then-is_empty
returns-then-is_empty c =
    let p = c.args.self.now in
    let owner = c.args.module.now in
    let name = c.args.name.now in
    meant_none p (no_places _ p.meta_places.items c.is_empty.result c.is_empty.ensures c.if-is_empty.true p.meta_places.ok.0) (found (see_program p) owner name c.args.arity)
    (λ n is. below (see_program p) owner name c.args.arity n is)

pub meta_of-requires : goal.meta_of-requires
meta_of-requires c = below (see_program c.args.self.now) c.args.module.now c.args.name.now c.args.arity c.in-Some.node (sym c.in-Some.ensures)

pub returns-in-Some : goal.returns-in-Some
returns-in-Some c = c.meta_of.ensures ∙ ap (meta_of_found (see_program c.args.self.now)) c.in-Some.ensures

pub returns-in-None : goal.returns-in-None
returns-in-None c = ap (meta_of_found (see_program c.args.self.now)) c.in-None.ensures
