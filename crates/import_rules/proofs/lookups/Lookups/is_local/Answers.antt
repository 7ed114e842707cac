use Rattle.std.proofs.Common.{◌∙◌}
use Rattle.import_rules.specs.Names.{pred_name}
use Rattle.import_rules.specs.KnownFiles.{files_of}
use Rattle.import_rules.proofs.Lookup.{found_there, local_there}
use Rattle.import_rules.proofs.lookups.Lookups.is_local.Goals as goal

pub returns : goal.returns
returns c =
    let p = pred_name c.args.module.now c.args.name.now c.args.arity in
    c.is_some.ensures ∙ (found_there c.args.self.now.predicates.now p c.find.result c.find.ensures.is ∙ local_there (files_of c.args.self.now) c.args.self.now.predicates.now p c.requires.numbered)
