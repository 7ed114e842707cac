use Rattle.std.proofs.Common.{◌≡◌, ℕ, ◌<◌, ◌≤◌, ◌+◌, true, All, [], length, take, drop, sym, ◌∙◌, subst, arith}
use Rattle.std.proofs.lemmas.List.{take_at, take_all}
use Rattle.graph_law.specs.Classes.{group_at}
use Rattle.graph_law.specs.Graph.{lists_of}
use Rattle.graph_law.specs.Stamp.{IsStamped}
use Rattle.graph_law.proofs.GraphLaws.{group_read, length-lists_of, within_lists}
use Rattle.loop_report.proofs.Marks.{AreMarks, marked_more, marks_made}
use Rattle.loop_report.proofs.unreached.marks_of.Goals as goal

pub stamp-requires : goal.stamp-requires
stamp-requires c =
    let n : ℕ = c.loop-group.group-index in
    let is : c.deref.result.now ≡ group_at (lists_of c.args.groups.now) n =
    group_read c.args.groups.now n c.group-item.result c.deref.result.now c.loop-group-test.true c.group-item.is c.deref.ensures.value in
    rw (c.deref_mut.ensures.value, c.loop-group.invariant.each)
    (subst (All (λ member. member < c.args.count)) (sym is) (c.requires n [] (within_lists c.args.groups.now n c.loop-group-test.true)))

pub loop-group-preserved : goal.loop-group-preserved
loop-group-preserved c =
    let lists = lists_of c.args.groups.now in
    let n : ℕ = c.loop-group.group-index in
    let is : c.deref.result.now ≡ group_at lists n =
    group_read c.args.groups.now n c.group-item.result c.deref.result.now c.loop-group-test.true c.group-item.is c.deref.ensures.value in
    let stamped : IsStamped c.deref.result.now true c.loop-group.marks.items c.stamp.new.table = rw (c.deref_mut.ensures.value) at c.stamp.ensures in
    let table_is =
    take_at c.stamp.new.table (drop (length c.stamp.new.table) c.loop-group.marks.items) c.loop-group.marks.len
    (stamped.each ∙ sym c.loop-group.marks.ok.0) in
    subst (AreMarks c.args.count (take (n + 1) lists)) (sym table_is)
    (marked_more c.args.count lists n c.deref.result.now c.loop-group.marks.items c.stamp.new.table (within_lists c.args.groups.now n c.loop-group-test.true) is
    c.loop-group.invariant stamped)

pub returns : goal.returns
returns c =
    let lists = lists_of c.args.groups.now in
    let past : length lists ≤ c.loop-group.group-index = omega (arith, length-lists_of c.args.groups.now, c.loop-group-test.false) in
    marks_made c.args.count lists c.loop-group.marks.items
    (subst (λ groups. AreMarks c.args.count groups c.loop-group.marks.items) (take_all c.loop-group.group-index lists past) c.loop-group.invariant)
