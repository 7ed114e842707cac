use Rattle.std.proofs.Common.{Some, sym, ap, ◌∙◌, arith}
use Rattle.std.proofs.lemmas.List.{get_or_read}
use Rattle.import_rules.proofs.Seen.{found_at}
use Rattle.import_rules.proofs.program_tables.ProgramTables.find_imported.Goals as goal

pub returns-in-Some : goal.returns-in-Some
returns-in-Some c =
    let p = c.args.self.now in
    ap (λ n. Some n)
    (get_or_read p.imports.targets.items c.in-Some.at c.index.result.now (omega (arith, c.in-Some.ensures.below, p.meant.as_many)) c.index.ensures 0)
    ∙ sym (found_at p c.args.module.now c.args.name.now c.args.arity c.in-Some.at c.in-Some.ensures.is)
