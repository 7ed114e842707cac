use Rattle.std.proofs.Common.{◌≡◌, ◌<◌, ◌==◌, ◌++◌, [], All, length, true, false, ap, sym, ◌∙◌, subst, append-nil}
use Rattle.std.specs.Prelude.{if◌then◌else◌}
use Rattle.std.specs.String.{string_bytes}
use Rattle.std.proofs.lemmas.Bool.{eq-eqb, ne_eqb}
use Rattle.graph_law.specs.Classes.{group_at, least_member}
use Rattle.graph_law.specs.Graph.{lists_of}
use Rattle.graph_law.proofs.GraphLaws.{group_read, within_lists}
use Rattle.call_writer.specs.Dot.{group_node}
use Rattle.call_writer.proofs.condensed.push_node_at_least.Goals as goal

pub returns-then-least_at-node : goal.returns-then-least_at-node
returns-then-least_at-node c =
    let text = string_bytes c.args.text.now in
    let members = group_at (lists_of c.args.groups.now) c.args.place in
    let line = group_node c.args.program.now.predicates members in
    let other : (least_member members == c.args.node) ≡ false = ap (λ n. n == c.args.node) (sym c.least_at.ensures) ∙ ne_eqb c.least_at.result c.args.node c.if-least_at-node.true in
    sym (append-nil text) ∙ ap (λ b. text ++ (if b then line else [])) (sym other)

pub push_group_node-requires-clause-below : goal.push_group_node-requires-clause-below
push_group_node-requires-clause-below c =
    let are : c.deref.result.now ≡ group_at (lists_of c.args.groups.now) c.args.place =
    group_read c.args.groups.now c.args.place c.index-groups-place.result c.deref.result.now c.requires.within c.index-groups-place.is c.deref.ensures.value in
    subst (All (λ member. member < length c.args.program.now.predicates)) (sym are)
    (c.requires.below c.args.place [] (within_lists c.args.groups.now c.args.place c.requires.within))

pub push_group_node-requires-clause-least : goal.push_group_node-requires-clause-least
push_group_node-requires-clause-least c =
    let are : c.deref.result.now ≡ group_at (lists_of c.args.groups.now) c.args.place =
    group_read c.args.groups.now c.args.place c.index-groups-place.result c.deref.result.now c.requires.within c.index-groups-place.is c.deref.ensures.value in
    sym c.if-least_at-node.false ∙ (c.least_at.ensures ∙ ap least_member (sym are))

pub returns : goal.returns
returns c =
    let text = string_bytes c.args.text.now in
    let predicates = c.args.program.now.predicates in
    let members = group_at (lists_of c.args.groups.now) c.args.place in
    let least : (least_member members == c.args.node) ≡ true = ap (λ n. n == c.args.node) (sym c.least_at.ensures) ∙ eq-eqb c.least_at.result c.args.node c.if-least_at-node.false in
    let are : c.deref.result.now ≡ members =
    group_read c.args.groups.now c.args.place c.index-groups-place.result c.deref.result.now c.requires.within c.index-groups-place.is c.deref.ensures.value in
    c.in_ok-push_group_node.ensures
    ∙ (ap (λ ms. text ++ group_node predicates ms) are ∙ ap (λ b. text ++ (if b then group_node predicates members else [])) (sym least))
