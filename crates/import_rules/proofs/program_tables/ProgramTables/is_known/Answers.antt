use Rattle.import_rules.proofs.Known.{known}
use Rattle.import_rules.proofs.program_tables.ProgramTables.is_known.Goals as goal

pub returns : goal.returns
returns c = known c.args.self.now
