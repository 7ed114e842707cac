use Rattle.std.proofs.Common.{◌≡◌, ℕ, ◌<◌, List, [], All, length, sym, subst}
use Rattle.graph_law.specs.Classes.{group_at}
use Rattle.graph_law.specs.Graph.{lists_of}
use Rattle.graph_law.proofs.GraphLaws.{group_read, within_lists}
use Rattle.call_told.proofs.text.push_group.Goals as goal

pub push_group_nodes-requires-clause-inhabited : goal.push_group_nodes-requires-clause-inhabited
push_group_nodes-requires-clause-inhabited c =
    let is : c.deref.result.now ≡ group_at (lists_of c.args.told.now.groups.items) c.args.place =
    group_read c.args.told.now.groups.items c.args.place c.index.result.now c.deref.result.now c.requires.within c.index.ensures c.deref.ensures.value in
    subst (λ (group : List ℕ). 0 < length group) (sym is)
    (c.requires.told.groups_are.inhabited c.args.place [] (within_lists c.args.told.now.groups.items c.args.place c.requires.within))

pub push_group_nodes-requires-clause-below : goal.push_group_nodes-requires-clause-below
push_group_nodes-requires-clause-below c =
    let is : c.deref.result.now ≡ group_at (lists_of c.args.told.now.groups.items) c.args.place =
    group_read c.args.told.now.groups.items c.args.place c.index.result.now c.deref.result.now c.requires.within c.index.ensures c.deref.ensures.value in
    subst (All (λ member. member < length c.args.told.now.program.now.predicates)) (sym is)
    (c.requires.told.groups_are.below c.args.place [] (within_lists c.args.told.now.groups.items c.args.place c.requires.within))
