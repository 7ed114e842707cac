use Rattle.std.proofs.Common.{sym, subst, ◌+◌, take}
use Rattle.std.specs.List.{AllZip}
use Rattle.tool_run.specs.Roots.{IsFirstMissing, IsNamed}
use Rattle.tool_run.proofs.RootLemmas.{missing_at, zip_next}
use Rattle.tool_run.proofs.roots.numbers_of.Goals as goal

pub returns-in_default-clause-err : goal.returns-in_default-clause-err
returns-in_default-clause-err c =
    let predicates = c.args.program.now.predicates in
    subst (IsFirstMissing predicates c.args.list.now) (sym c.in_ok-copy_of.ensures)
    (missing_at predicates c.args.list.now c.loop-name.roots.items c.loop-name.name-index c.name-item.result c.loop-name-test.true c.name-item.is c.loop-name.invariant
    (rw c.in_default.is at c.own.ensures))

pub loop-name-preserved : goal.loop-name-preserved
loop-name-preserved c =
    let predicates = c.args.program.now.predicates in
    subst (AllZip (IsNamed predicates) (take (c.loop-name.name-index + 1) c.args.list.now)) (sym c.in_ok-push_root.ensures)
    (zip_next predicates c.args.list.now c.loop-name.roots.items c.loop-name.name-index c.name-item.result c.in-Some.node c.loop-name-test.true c.name-item.is c.loop-name.invariant
    (rw c.in-Some.is at c.own.ensures))
