use Rattle.std.proofs.Common.{map, ap, ◌∙◌}
use Rattle.std.proofs.lemmas.List.{take_all}
use Rattle.std.proofs.lemmas.List.Filters.{dedup_is}
use Rattle.module_table.specs.Facts.{Facts, see_facts}
use Rattle.loop_report.proofs.ModuleNames.{lent_eq, modules_made}
use Rattle.loop_report.proofs.modules.module_names.Goals as goal

pub returns-clause-modules : goal.returns-clause-modules
returns-clause-modules c =
    let are =
    c.loop-file.invariant ∙ ap (λ files. map (λ (f : Facts). f.module_) (map see_facts files)) (take_all c.loop-file.file-index c.args.files.now c.loop-file-test.false) in
    modules_made (map see_facts c.args.files.now) c.loop-file.modules.items c.sort.new.self.items c.dedup.new.self.items are c.in_ok-sort.ensures.permutation
    c.in_ok-sort.ensures.sorted (dedup_is lent_eq c.sort.new.self.items c.dedup.new.self.items c.dedup.ensures.filtered)
