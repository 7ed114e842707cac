use Rattle.std.proofs.Common.{◌∙◌, subst}
use Rattle.call_table.specs.Marks.{AreMarked, see_marks}
use Rattle.call_told.proofs.ToldLemmas.{map_some}
use Rattle.call_told.proofs.told.make_told.Goals as goal

pub told_of-requires-clause-marks : goal.told_of-requires-clause-marks
told_of-requires-clause-marks c =
    subst (λ listed. AreMarked listed c.args.program.now c.args.roots.now (see_marks c.in_ok-marks.marks))
    (c.is_some.ensures ∙ map_some (λ roots. roots.items) c.args.wanted.now.options.roots) c.in_ok-marks.ensures
