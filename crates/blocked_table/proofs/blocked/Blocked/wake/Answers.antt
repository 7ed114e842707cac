use Rattle.std.proofs.Common.{get_or, take, sym, subst, arith}
use Rattle.std.proofs.lemmas.List.{take_all, take_more}
use Rattle.std.proofs.lemmas.List.Elements.{Contains-get_or}
use Rattle.std.specs.Prelude.{Contains}
use Rattle.blocked_table.proofs.WakeGood.{woken_good}
use Rattle.blocked_table.proofs.FieldSteps.{still_only}
use Rattle.blocked_table.proofs.WakeSteps.{all_woken, none_more, some_more}
use Rattle.blocked_table.proofs.blocked.Blocked.wake.Goals as goal

pub nodes-preserved : goal.nodes-preserved
nodes-preserved c =
    let node = get_or c.args.group.now c.nodes.node-index 0 in
    let member = Contains-get_or c.args.group.now c.nodes.node-index 0 c.nodes-test.true in
    rw (take_more c.args.group.now c.nodes.node-index 0 c.nodes-test.true)
    (record {
      only = still_only c.args.self.now c.nodes.invariant.only c.wake_node.ensures.only;
      woken =
          some_more c.nodes.invariant.woken c.wake_node.ensures.woken (λ w is. subst (Contains c.args.group.now) (sym is) member);
      none = none_more (take c.nodes.node-index c.args.group.now) node c.wake_node.ensures.woken c.nodes.invariant.none c.wake_node.ensures.none;
    })

pub returns-clause-woken : goal.returns-clause-woken
returns-clause-woken c =
    all_woken c.nodes.invariant.woken
    (λ w member.
    c.nodes.invariant.none w
    (subst (λ xs. Contains xs w) (sym (take_all c.nodes.node-index c.args.group.now (omega (arith, c.nodes-test.false)))) member))

pub returns-clause-good : goal.returns-clause-good
returns-clause-good c =
    let woken =
    all_woken c.nodes.invariant.woken
    (λ w member.
    c.nodes.invariant.none w
    (subst (λ xs. Contains xs w) (sym (take_all c.nodes.node-index c.args.group.now (omega (arith, c.nodes-test.false)))) member)) in
    λ lists roots done more good grows finished. woken_good woken grows finished good
