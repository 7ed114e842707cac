use Rattle.std.proofs.Common.{[], sym}
use Rattle.import_rules.specs.Names.{pred_name}
use Rattle.import_rules.specs.TakenModules.{module_name}
use Rattle.import_rules.proofs.Marks.{no_index}
use Rattle.import_rules.proofs.Seen.{unfound, walked}
use Rattle.import_rules.proofs.program_tables.ProgramTables.find_shared.Goals as goal

pub returns-in_default : goal.returns-in_default
returns-in_default c =
    let p = c.args.self.now in
    sym
    (unfound p c.args.module.now c.args.name.now c.args.arity c.requires.absent c.requires.other c.requires.first
    (λ e is. no_index p.imports.shared.names (pred_name [] c.args.name.now c.args.arity) is.at c.in_default.ensures.is is.named))

pub returns-in_default-place : goal.returns-in_default-place
returns-in_default-place c =
    let p = c.args.self.now in
    sym
    (unfound p c.args.module.now c.args.name.now c.args.arity c.requires.absent c.requires.other c.requires.first
    (λ e is. no_index p.imports.taken.modules (module_name c.args.module.now) is.user c.in_default-place.ensures is.is_user))

pub returns : goal.returns
returns c =
    walked c.args.self.now c.args.module.now c.args.name.now c.args.arity c.in-Some.at c.in-Some-place.user c.taken_at.result c.requires.absent c.requires.other c.requires.first
    c.in-Some.ensures.is c.in-Some-place.ensures c.taken_at.ensures
