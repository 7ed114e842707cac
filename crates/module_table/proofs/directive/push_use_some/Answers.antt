use Rattle.std.proofs.Common.{◌≡◌, [], Err, ap, ◌∙◌, subst}
use Rattle.prolog_terms.specs.Terms.{tree_of}
use Rattle.module_table.specs.declared.load.LoadKind.TheVariants.{UseSome}
use Rattle.module_table.specs.Said.{Refusal, in_turn}
use Rattle.module_table.specs.Kept.{IsAdded}
use Rattle.module_table.specs.Indicators.{listed_indicators}
use Rattle.module_table.specs.Loading.{load_said}
use Rattle.module_table.specs.Directives.{some_said}
use Rattle.module_table.proofs.KindLemmas.{parts_of_added}
use Rattle.module_table.proofs.directive.push_use_some.Goals as goal

pub returns-in_ok-push_load-in-Err-At-clause-refused : goal.returns-in_ok-push_load-in-Err-At-clause-refused
returns-in_ok-push_load-in-Err-At-clause-refused c =
    let user = c.args.user.now in
    let file = tree_of c.args.spec.now in
    let old = c.args.kinds.now in
    let new = c.push_load-in-Err-At.new.kinds in
    let refusal : Refusal = record { cause = c.in-Err-At.cause; offset = c.in-Err-At.offset } in
    let why : listed_indicators (tree_of c.args.list.now) ≡ Err refusal = rw c.in-Err-At.field-0-is at c.in-Err-At.ensures.refused in
    let loaded = load_said user UseSome [] file in
    let was_added = subst (λ items. IsAdded [] old (load_said user UseSome items file) new) c.new.ensures.items (c.in_ok-push_load-in-Err-At.ensures.ok []) in
    ap (some_said user file) why ∙ ap (λ said. in_turn said (Err refusal)) (parts_of_added [] old new loaded was_added).1
