use Rattle.std.proofs.Common.{[], map, take, sym, ◌∙◌, subst}
use Rattle.std.proofs.lemmas.Result.{err_from_is_err_and}
use Rattle.prolog_terms.specs.Terms.{tree_of}
use Rattle.module_table.specs.Said.{IsWhy}
use Rattle.module_table.specs.Kept.{IsAdded}
use Rattle.module_table.specs.Loading.{load_said, loads_said}
use Rattle.module_table.proofs.SaidLemmas.{each_step, each_stops, more_none}
use Rattle.module_table.proofs.KindLemmas.{adds_on, parts_of_added}
use Rattle.module_table.proofs.load.push_loads.Goals as goal

pub returns-in_err-push_load-clause-refused : goal.returns-in_err-push_load-clause-refused
returns-in_err-push_load-clause-refused c =
    let before = loads_said c.args.user.now c.args.kind (map tree_of (take c.loop-spec.spec-index c.args.specs.now)) in
    let added = parts_of_added [] c.args.kinds.now c.loop-spec.kinds before (c.loop-spec.invariant []) in
    let exit = err_from_is_err_and c.from_residual.result c.from_residual.ensures.1 in
    rw (exit.1, exit.2)
    (each_stops (load_said c.args.user.now c.args.kind []) c.args.specs.now c.loop-spec.spec-index c.spec-item.result c.in_err-push_load.field-0.0
    [] added.0 c.loop-spec-test.true c.spec-item.is (more_none before ∙ added.1)
    (subst (λ items. IsWhy (load_said c.args.user.now c.args.kind items (tree_of c.spec-item.result)) c.in_err-push_load.field-0.0) c.new.ensures.items c.in_err-push_load.ensures.refused))

pub loop-spec-preserved : goal.loop-spec-preserved
loop-spec-preserved c names =
    let says = load_said c.args.user.now c.args.kind [] in
    subst (λ said. IsAdded names c.args.kinds.now said c.push_load.new.kinds) (sym (each_step says c.args.specs.now c.loop-spec.spec-index c.spec-item.result c.loop-spec-test.true c.spec-item.is))
    (adds_on names c.args.kinds.now c.loop-spec.kinds c.push_load.new.kinds
    (loads_said c.args.user.now c.args.kind (map tree_of (take c.loop-spec.spec-index c.args.specs.now))) (says (tree_of c.spec-item.result)) (c.loop-spec.invariant names)
    (subst (λ items. IsAdded names c.loop-spec.kinds (load_said c.args.user.now c.args.kind items (tree_of c.spec-item.result)) c.push_load.new.kinds) c.new.ensures.items (c.in_ok-push_load.ensures.ok names)))
