use Rattle.std.proofs.Common.{◌∙◌, arith}
use Rattle.import_rules.proofs.Seen.{count_is, places_there}
use Rattle.import_rules.proofs.program_tables.ProgramTables.places_of.Goals as goal

pub index-requires : goal.index-requires
index-requires c = omega (arith, c.requires, count_is c.args.self.now, c.args.self.now.places.ok.0)

pub returns : goal.returns
returns c = c.as_slice.ensures ∙ places_there c.args.self.now c.args.node c.index.result.now c.requires c.index.ensures
