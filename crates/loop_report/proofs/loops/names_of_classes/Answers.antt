use Rattle.std.proofs.Common.{◌≡◌, ℕ, ◌<◌, All, List, [], ◌∷◌, ◌++◌, length, map, take, sym, subst, ◌∙◌, ap}
use Rattle.std.proofs.lemmas.List.{map_push, take_more}
use Rattle.graph_law.specs.Graph.{lists_of}
use Rattle.graph_law.specs.Classes.{group_at}
use Rattle.graph_law.proofs.GraphLaws.{group_read, lists_of-push, within_lists}
use Rattle.loop_report.specs.ImportLoops.{names_at}
use Rattle.loop_report.specs.ModuleGraph.{texts_of}
use Rattle.loop_report.proofs.loops.names_of_classes.Goals as goal

pub names_at-requires : goal.names_at-requires
names_at-requires c =
    let classes = c.args.classes.now in
    let i : ℕ = c.loop-class.class-index in
    let is : c.deref.result.now ≡ group_at (lists_of classes) i =
    group_read classes i c.class-item.result c.deref.result.now c.loop-class-test.true c.class-item.is c.deref.ensures.value in
    subst (All (λ member. member < length c.args.modules.now)) (sym is) (c.requires i [] (within_lists classes i c.loop-class-test.true))

pub loop-class-preserved : goal.loop-class-preserved
loop-class-preserved c =
    let classes = c.args.classes.now in
    let named : List ℕ → List (List ℕ) = names_at (texts_of c.args.modules.now) in
    let i : ℕ = c.loop-class.class-index in
    let is : c.deref.result.now ≡ group_at (lists_of classes) i =
    group_read classes i c.class-item.result c.deref.result.now c.loop-class-test.true c.class-item.is c.deref.ensures.value in
    ap lists_of c.in_ok-push.ensures.items
    ∙ (lists_of-push c.loop-class.loops.items c.in_ok-names_at.field-0
    ∙ ((λ j. c.loop-class.invariant j ++ (c.in_ok-names_at.ensures ∙ ap named is) j ∷ [])
    ∙ (sym (map_push named (take i (lists_of classes)) (group_at (lists_of classes) i))
    ∙ ap (map named) (sym (take_more (lists_of classes) i [] (within_lists classes i c.loop-class-test.true))))))
