use Rattle.std.proofs.Common.{ap, ◌∙◌, arith}
use Rattle.import_rules.specs.Parts.{name_of_places, see_name}
use Rattle.import_rules.proofs.Seen.{count_is, name_there}
use Rattle.import_rules.proofs.program_tables.ProgramTables.name_of.Goals as goal

pub index-requires : goal.index-requires
index-requires c = omega (arith, c.requires, count_is c.args.self.now, c.args.self.now.places.ok.0)

pub returns : goal.returns
returns c =
    name_there c.args.self.now c.args.node c.index.result.now (see_name c.name.result) c.requires c.index.ensures
    (c.name.ensures ∙ ap (λ files. name_of_places files c.index.result.now) c.deref.ensures.value)
