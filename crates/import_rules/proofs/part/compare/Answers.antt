use Rattle.std.proofs.Common.{◌≡◌, ap, ◌∙◌}
use Rattle.std.specs.Ordering.{ordering_then}
use Rattle.import_rules.specs.declared.names.PredName.{PredName}
use Rattle.import_rules.specs.Parts.{name_of_part, see_name}
use Rattle.import_rules.proofs.NameOrder.{behind_modules, in_one_module}
use Rattle.import_rules.proofs.part.compare.Goals as goal

pub returns-then-are_of_one_module : goal.returns-then-are_of_one_module
returns-then-are_of_one_module c =
    let one = name_of_part c.args.files.now c.args.a.now in
    let other = name_of_part c.args.files.now c.args.b.now in
    let here : see_name c.part_name-one.result ≡ one = c.part_name-one.ensures in
    let there : see_name c.part_name-other.result ≡ other = c.part_name-other.ensures in
    c.then-in_module.ensures
    ∙ (λ i. ordering_then (c.cmp.ensures i) (c.cmp-2.ensures i))
    ∙ ap (λ (p : PredName). behind_modules p (see_name c.part_name-other.result)) here
    ∙ ap (behind_modules one) there
    ∙ in_one_module one other c.if-are_of_one_module.ensures
