use Rattle.import_rules.proofs.Seen.{loaded_is}
use Rattle.import_rules.proofs.program_tables.ProgramTables.loaded.Goals as goal

pub returns : goal.returns
returns c = loaded_is c.args.self.now
