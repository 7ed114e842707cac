use Rattle.std.proofs.Common.{rules, ◌≡◌, ◌∷◌, ◌++◌, Some, None, map, ap, ◌∙◌, sym, append-nil}
use Rattle.std.proofs.lemmas.List.{map-append}
use Rattle.import_rules.specs.Clashes.{see_item}
use Rattle.import_rules.proofs.ImportedNames.{other_of_run}
use Rattle.import_rules.proofs.clash.add.Goals as goal

pub returns-in_default-other_module-clause-clashes : goal.returns-in_default-other_module-clause-clashes
returns-in_default-other_module-clause-clashes c =
    let before = map see_item c.args.found.now.clashes.items in
    let run_is : c.args.run.now ≡ c.in-Some.first.now ∷ c.in-Some.others.now = search rules in
    sym (append-nil before)
    ∙ ap (λ more. before ++ more) (other_of_run c.args.run.now c.in-Some.first.now c.in-Some.others.now None run_is c.in_default-other_module.ensures)

pub returns-clause-clashes : goal.returns-clause-clashes
returns-clause-clashes c =
    let before = map see_item c.args.found.now.clashes.items in
    let run_is : c.args.run.now ≡ c.in-Some.first.now ∷ c.in-Some.others.now = search rules in
    ap (map see_item) c.in_ok-push-2.ensures.items
    ∙ (map-append see_item c.args.found.now.clashes.items _
    ∙ ap (λ more. before ++ more)
    (other_of_run c.args.run.now c.in-Some.first.now c.in-Some.others.now (Some c.in-Some-other_module.other) run_is c.in-Some-other_module.ensures))
