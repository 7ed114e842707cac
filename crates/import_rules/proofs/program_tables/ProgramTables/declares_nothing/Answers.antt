use Rattle.std.proofs.Common.{sym}
use Rattle.import_rules.specs.Program.{see_program, found}
use Rattle.import_rules.proofs.FoundMeans.{below}
use Rattle.import_rules.proofs.MetaTold.{no_places, meant_none}
use Rattle.import_rules.proofs.program_tables.ProgramTables.declares_nothing.Goals as goal

pub returns : goal.returns
returns c = λ empty owner name arity.
    let p = c.args.self.now in
    sym (meant_none p (no_places _ p.meta_places.items c.is_empty.result c.is_empty.ensures empty p.meta_places.ok.0) (found (see_program p) owner name arity)
    (λ n is. below (see_program p) owner name arity n is))
