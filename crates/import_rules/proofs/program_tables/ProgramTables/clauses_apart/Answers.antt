use Rattle.import_rules.proofs.Known.{apart}
use Rattle.import_rules.proofs.program_tables.ProgramTables.clauses_apart.Goals as goal

pub returns : goal.returns
returns c = apart c.args.self.now
