use Rattle.std.proofs.Common.{◌≡◌, ℕ, ◌<◌, List, Bool, true, false, length, get_or, refl, sym, ◌∙◌, arith}
use Rattle.std.proofs.lemmas.Bool.{false≢true}
use Rattle.std.proofs.lemmas.List.{get_or_read}
use Rattle.graph_law.specs.Graph.{Calls, lists_of}
use Rattle.graph_law.specs.Reach.{IsReached, ReachEachOther}
use Rattle.graph_law.specs.Reached.{AreRows, AreMarkedWith, HasEarlier}
use Rattle.graph_law.proofs.GraphLaws.{length-lists_of, lists_of-push}
use Rattle.graph_law.proofs.ReachLaws.{each_other_sym}
use Rattle.graph_law.proofs.Rows.{reach_from_marks}
use Rattle.graph_law.proofs.ClassSteps.{below_skip, below_more, earlier_has, class_from_marks, least_from_marks}
use Rattle.graph_law.proofs.classes.classes_slow.Goals as goal

pub loop-node-preserved-then-has_earlier : goal.loop-node-preserved-then-has_earlier
loop-node-preserved-then-has_earlier c =
    let has : HasEarlier (lists_of c.in_ok-rows.rows.items) c.loop-node.node = rw c.deref.ensures.value at (c.if-has_earlier.ensures.0 refl) in
    let both : ReachEachOther (Calls c.args.graph.now.lists) c.loop-node.node has.earlier =
    reach_from_marks (Calls c.args.graph.now.lists) (length c.args.graph.now.lists) (lists_of c.in_ok-rows.rows.items) c.loop-node.node
    has.earlier c.in_ok-rows.ensures has.marked in
    below_skip c.loop-node.invariant (earlier_has c.loop-node.invariant has.earlier has.below (each_other_sym both))

pub loop-node-preserved : goal.loop-node-preserved
loop-node-preserved c =
    let rows : List (List Bool) = lists_of c.in_ok-rows.rows.items in
    let lists : List (List ℕ) = c.args.graph.now.lists in
    let are : AreRows (Calls lists) (length lists) (length lists) rows = c.in_ok-rows.ensures in
    let lt : c.loop-node.node < length lists = omega (arith, c.loop-node-test.true, c.count-node-end.ensures.count) in
    let long : length c.in_ok-rows.rows.items ≡ length lists = sym (length-lists_of c.in_ok-rows.rows.items) ∙ are.each in
    let marked : AreMarkedWith rows c.loop-node.node (length lists) c.in_ok-class_of.field-0.items =
    rw long at (rw c.deref-in-loop-node.ensures.value at c.in_ok-class_of.ensures) in
    let none : HasEarlier rows c.loop-node.node → ⊥ =
    λ has. false≢true (c.if-has_earlier.ensures.1 (rw c.deref.ensures.value has)) in
    let marks : List Bool = c.in_ok-reached.reached.items in
    let mark : get_or marks c.loop-node.node false ≡ true =
    sym (get_or_read marks c.loop-node.node c.index.result.now (omega (arith, lt, c.in_ok-reached.ensures.each)) c.index.ensures false)
    ∙ c.if-not-index.false in
    let reached : IsReached (Calls lists) c.args.graph.now.roots c.loop-node.node =
    rw c.roots.ensures.roots at (c.in_ok-reached.ensures.sound c.loop-node.node mark) in
    rw (c.in_ok-push.ensures.items, lists_of-push c.loop-node.classes.items c.in_ok-class_of.field-0)
    (below_more c.loop-node.invariant c.in_ok-class_of.field-0.items (class_from_marks are lt marked).0 (class_from_marks are lt marked).1
    (least_from_marks are lt marked none) reached)
