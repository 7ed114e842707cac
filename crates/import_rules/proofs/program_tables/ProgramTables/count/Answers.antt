use Rattle.std.proofs.Common.{◌∙◌, arith}
use Rattle.import_rules.proofs.Seen.{count_is}
use Rattle.import_rules.proofs.program_tables.ProgramTables.count.Goals as goal

pub overflow_cast-result : goal.overflow_cast-result
overflow_cast-result c = omega (arith, c.args.self.now.few, c.len.ensures, c.args.self.now.places.ok.0)

pub returns : goal.returns
returns c = c.len.ensures ∙ c.args.self.now.places.ok.0 ∙ count_is c.args.self.now
