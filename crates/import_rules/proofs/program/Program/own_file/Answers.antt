use Rattle.std.proofs.Common.{◌≡◌, Some, subst}
use Rattle.std.specs.Prelude.{slice_get}
use Rattle.module_table.specs.Facts.{see_facts}
use Rattle.import_rules.specs.Homes.{AreFound}
use Rattle.import_rules.specs.Program.{Seen}
use Rattle.import_rules.proofs.program.Program.own_file.Goals as goal

pub returns-clause-facts : goal.returns-clause-facts
returns-clause-facts c =
    subst (λ (s : Seen). slice_get s.loaded.files c.args.file ≡ Some (see_facts c.own_file.result.0.now)) c.self.view_is c.own_file.ensures.facts

pub returns-clause-kept : goal.returns-clause-kept
returns-clause-kept c =
    subst (λ (s : Seen). AreFound s c.own_file.result.0.now c.own_file.result.1.now) c.self.view_is c.own_file.ensures.kept
