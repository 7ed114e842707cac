use Rattle.std.proofs.Common.{◌≡◌, ℕ, ◌+◌, List, drop, length, sym, ◌∙◌, arith}
use Rattle.std.proofs.lemmas.List.{take_at}
use Rattle.graph_law.specs.Graph.{lists_of}
use Rattle.graph_law.specs.Classes.{group_at}
use Rattle.graph_law.specs.Stamp.{IsStamped}
use Rattle.graph_law.proofs.GraphLaws.{group_read, length-lists_of, within_lists}
use Rattle.call_table.proofs.MembershipLemmas.{groups_more, groups_done, members_below}
use Rattle.call_table.proofs.memberships.groups_of.Goals as goal

pub stamp-requires : goal.stamp-requires
stamp-requires c =
    let n : ℕ = c.loop-at.at in
    let is : c.deref.result.now ≡ group_at (lists_of c.args.groups.now) n =
    group_read c.args.groups.now n c.index-groups-at.result c.deref.result.now c.loop-at-test.true c.index-groups-at.is c.deref.ensures.value in
    rw (c.deref_mut.ensures.value, c.loop-at.invariant.each)
    (members_below c.args.count (lists_of c.args.groups.now) n c.deref.result.now is (within_lists c.args.groups.now n c.loop-at-test.true) c.requires)

pub loop-at-preserved : goal.loop-at-preserved
loop-at-preserved c =
    let groups : List (List ℕ) = lists_of c.args.groups.now in
    let n : ℕ = c.loop-at.at in
    let is : c.deref.result.now ≡ group_at groups n =
    group_read c.args.groups.now n c.index-groups-at.result c.deref.result.now c.loop-at-test.true c.index-groups-at.is c.deref.ensures.value in
    let new : List ℕ = c.stamp.new.table in
    let stamped : IsStamped (group_at groups n) (n + 1) c.loop-at.places.items new = rw (is, c.deref_mut.ensures.value) at c.stamp.ensures in
    let whole : length new ≡ c.loop-at.places.len = stamped.each ∙ sym c.loop-at.places.ok.0 in
    rw (take_at new (drop (length new) c.loop-at.places.items) c.loop-at.places.len whole)
    (groups_more c.args.count groups n c.loop-at.places.items new c.loop-at.invariant stamped)

pub returns : goal.returns
returns c =
    groups_done c.args.count (lists_of c.args.groups.now) c.loop-at.at c.loop-at.places.items
    (omega (arith, c.loop-at-test.false, c.loop-at.auto.at-end, length-lists_of c.args.groups.now)) c.loop-at.invariant
