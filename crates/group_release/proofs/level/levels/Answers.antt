use Rattle.std.proofs.Common.{◌≡◌, ℕ, ◌<◌, ◌+◌, List, [], ◌∷◌, ◌++◌, length, take, drop, sym, ◌∙◌, subst, arith}
use Rattle.std.proofs.lemmas.List.{length_push, take_at}
use Rattle.std.specs.Prelude.{Contains}
use Rattle.graph_law.specs.Classes.{group_at}
use Rattle.graph_law.specs.Graph.{lists_of}
use Rattle.graph_law.proofs.GraphLaws.{group_read, length-lists_of, within_lists}
use Rattle.group_release.specs.Levels.{IsLevelOf}
use Rattle.graph_law.specs.Stamp.{IsStamped}
use Rattle.group_release.proofs.LevelSteps.{ArePlacesBelow, callee_place, heights_fit, levels_done, levels_more, members_below, places_more}
use Rattle.group_release.proofs.level.levels.Goals as goal

pub stamp-requires : goal.stamp-requires
stamp-requires g c =
    let n : ℕ = c.loop-group.group-index in
    let is : c.deref.result.now ≡ group_at (lists_of c.args.groups.now) n =
    group_read c.args.groups.now n c.group-item.result c.deref.result.now c.loop-group-test.true c.group-item.is c.deref.ensures.value in
    rw (c.deref_mut.ensures.value, c.loop-group.invariant.places.each)
    (members_below n c.deref.result.now (within_lists c.args.groups.now n c.loop-group-test.true) is c.requires.nodes)

pub level_of-requires-clause-nodes : goal.level_of-requires-clause-nodes
level_of-requires-clause-nodes g c κs within =
    let n : ℕ = c.loop-group.group-index in
    let is : c.deref-in-loop-group.result.now ≡ group_at (lists_of c.args.groups.now) n =
    group_read c.args.groups.now n c.group-item.result c.deref-in-loop-group.result.now c.loop-group-test.true c.group-item.is
    c.deref-in-loop-group.ensures.value in
    members_below n c.deref-in-loop-group.result.now (within_lists c.args.groups.now n c.loop-group-test.true) is c.requires.nodes

pub level_of-requires-clause-known : goal.level_of-requires-clause-known
level_of-requires-clause-known g c κs within = λ p q member call.
    let lists : List (List ℕ) = g.O.Opener.lists c.args.opener.now in
    let groups : List (List ℕ) = lists_of c.args.groups.now in
    let n : ℕ = c.loop-group.group-index in
    let lt : n < length groups = within_lists c.args.groups.now n c.loop-group-test.true in
    let is : c.deref.result.now ≡ group_at groups n =
    group_read c.args.groups.now n c.group-item.result c.deref.result.now c.loop-group-test.true c.group-item.is c.deref.ensures.value in
    let also : c.deref-in-loop-group.result.now ≡ group_at groups n =
    c.deref-in-loop-group.ensures.value ∙ sym c.deref.ensures.value ∙ is in
    let at : c.len.result ≡ n = c.len.ensures ∙ c.loop-group.levels.ok.0 ∙ c.loop-group.invariant.each in
    let stamped : IsStamped (group_at groups n) n c.loop-group.places.items c.stamp.new.table =
    rw (is, at, c.deref_mut.ensures.value) at c.stamp.ensures in
    let places : ArePlacesBelow (length lists) groups (n + 1) c.stamp.new.table =
    places_more c.requires.legal lt c.loop-group.invariant.places stamped in
    let table_is : c.deref-in-loop-group-2.result.now ≡ c.stamp.new.table =
    c.deref-in-loop-group-2.ensures.value
    ∙ take_at c.stamp.new.table (drop (length c.stamp.new.table) c.loop-group.places.items) c.loop-group.places.len
    (stamped.each ∙ sym c.loop-group.places.ok.0) in
    rw (table_is, c.deref-in-loop-group-3.ensures.value, c.loop-group.invariant.each)
    (callee_place lists c.requires.legal lt places p q (subst (λ members. Contains members p) also member) call).0

pub level_of-requires-clause-low : goal.level_of-requires-clause-low
level_of-requires-clause-low g c κs within =
    let few : length c.loop-group.levels.items < length (lists_of c.args.groups.now) =
    omega (arith, c.loop-group.invariant.each, within_lists c.args.groups.now c.loop-group.group-index c.loop-group-test.true) in
    rw c.deref-in-loop-group-3.ensures.value
    (heights_fit c.requires.legal c.requires.nodes (omega (arith, c.count.ensures.count, c.count.type_inv)) few c.loop-group.invariant.so_far)

pub loop-group-preserved : goal.loop-group-preserved
loop-group-preserved g c =
    let lists : List (List ℕ) = g.O.Opener.lists c.args.opener.now in
    let groups : List (List ℕ) = lists_of c.args.groups.now in
    let n : ℕ = c.loop-group.group-index in
    let lt : n < length groups = within_lists c.args.groups.now n c.loop-group-test.true in
    let is : c.deref.result.now ≡ group_at groups n =
    group_read c.args.groups.now n c.group-item.result c.deref.result.now c.loop-group-test.true c.group-item.is c.deref.ensures.value in
    let also : c.deref-in-loop-group.result.now ≡ group_at groups n =
    c.deref-in-loop-group.ensures.value ∙ sym c.deref.ensures.value ∙ is in
    let at : c.len.result ≡ n = c.len.ensures ∙ c.loop-group.levels.ok.0 ∙ c.loop-group.invariant.each in
    let stamped : IsStamped (group_at groups n) n c.loop-group.places.items c.stamp.new.table =
    rw (is, at, c.deref_mut.ensures.value) at c.stamp.ensures in
    let places : ArePlacesBelow (length lists) groups (n + 1) c.stamp.new.table =
    places_more c.requires.legal lt c.loop-group.invariant.places stamped in
    let whole : take c.loop-group.places.len (c.stamp.new.table ++ drop (length c.stamp.new.table) c.loop-group.places.items) ≡ c.stamp.new.table =
    take_at c.stamp.new.table (drop (length c.stamp.new.table) c.loop-group.places.items) c.loop-group.places.len
    (stamped.each ∙ sym c.loop-group.places.ok.0) in
    let level : IsLevelOf lists c.stamp.new.table c.loop-group.levels.items (group_at groups n) c.in_ok-level.level =
    rw (also, c.deref-in-loop-group-2.ensures.value ∙ whole, c.deref-in-loop-group-3.ensures.value) at c.in_ok-level.ensures in
    let long : length (c.loop-group.levels.items ++ c.in_ok-level.level ∷ []) ≡ n + 1 =
    (let pushed = length_push c.loop-group.levels.items c.in_ok-level.level in omega (arith, pushed, c.loop-group.invariant.each)) in
    rw (c.in_ok-push.ensures.items, whole)
    (record {
      each = long;
      places = places;
      so_far = levels_more c.in_ok-level.level c.requires.legal lt c.loop-group.invariant.each places c.loop-group.invariant.so_far level;
    })

pub returns : goal.returns
returns g c =
    levels_done c.requires.legal
    (omega (arith, c.loop-group.invariant.each, c.loop-group-test.false, c.loop-group.auto.group-index-end, length-lists_of c.args.groups.now))
    c.loop-group.invariant.so_far
