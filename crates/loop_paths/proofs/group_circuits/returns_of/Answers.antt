use Rattle.std.proofs.Common.{◌≡◌, ◌∙◌, [], ap}
use Rattle.graph_law.specs.Classes.{group_at, least_member}
use Rattle.graph_law.specs.Graph.{Calls, lists_of}
use Rattle.graph_law.proofs.GraphLaws.{group_read, within_lists}
use Rattle.loop_paths.specs.Circuits.{circuits_of}
use Rattle.loop_paths.proofs.Returns.{circuits_of-push, returns_push, return_at}
use Rattle.loop_paths.proofs.group_circuits.returns_of.Goals as goal

pub least_of-least-requires : goal.least_of-least-requires
least_of-least-requires g c =
    let groups = c.args.groups.now in
    let i = c.loop-group.group-index in
    let is : c.deref.result.now ≡ group_at (lists_of groups) i =
    group_read groups i c.group-item.result c.deref.result.now c.loop-group-test.true c.group-item.is c.deref.ensures.value in
    rw is (c.requires.some i [] (within_lists groups i c.loop-group-test.true))

pub lead-requires-clause-below : goal.lead-requires-clause-below
lead-requires-clause-below g c κs within =
    let groups = c.args.groups.now in
    let i = c.loop-group.group-index in
    let is : c.deref.result.now ≡ group_at (lists_of groups) i =
    group_read groups i c.group-item.result c.deref.result.now c.loop-group-test.true c.group-item.is c.deref.ensures.value in
    let below = c.requires.below i [] (within_lists groups i c.loop-group-test.true) in
    rw (c.least_of-least.ensures, is) below

pub loop-group-preserved : goal.loop-group-preserved
loop-group-preserved g c =
    let lists = g.O.Opener.lists c.args.opener.now in
    let groups = c.args.groups.now in
    let i = c.loop-group.group-index in
    let is : c.deref.result.now ≡ group_at (lists_of groups) i =
    group_read groups i c.group-item.result c.deref.result.now c.loop-group-test.true c.group-item.is c.deref.ensures.value in
    let least : c.least_of-least.result ≡ least_member (group_at (lists_of groups) i) = c.least_of-least.ensures ∙ ap least_member is in
    record {
      each = c.in_ok-lead.ensures.each ∙ c.loop-group.invariant.each;
      clear = c.in_ok-lead.ensures.clear;
      returns =
          rw (c.in_ok-push.ensures.items, circuits_of-push c.loop-group.found.items c.in_ok-lead.field-0)
          (returns_push (Calls lists) (lists_of groups) i (circuits_of c.loop-group.found.items) _ c.loop-group.invariant.returns
          (return_at (Calls lists) c.least_of-least.result (least_member (group_at (lists_of groups) i)) least c.in_ok-lead.field-0
          c.in_ok-lead.ensures.lead));
    }
