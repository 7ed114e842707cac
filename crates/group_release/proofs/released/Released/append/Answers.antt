use Rattle.std.proofs.Common.{◌≡◌, ℕ, List, [], ◌∷◌, ◌++◌, true, length, sym, ap, ◌∙◌, arith}
use Rattle.std.proofs.lemmas.List.{length_push, with_items_is}
use Rattle.std.specs.List.Sorted.{IsStrictlyIncreasing}
use Rattle.std.specs.Vec.{with_items}
use Rattle.graph_law.specs.Graph.{lists_of}
use Rattle.graph_law.proofs.GraphLaws.{length-lists_of, lists_of-push}
use Rattle.group_release.specs.Released.{IsNewGroup, ReleasedGroups}
use Rattle.group_release.specs.ReleasedFields.{value_of}
use Rattle.graph_law.specs.Stamp.{IsStamped}
use Rattle.group_release.proofs.ReleaseSteps.{sorted_ascends, new_permuted, released_more, marks_more}
use Rattle.group_release.proofs.released.Released.append.Goals as goal

pub stamp-requires : goal.stamp-requires
stamp-requires c =
    let new : IsNewGroup (value_of c.self.inside) c.sort_unstable.new.self.items =
    new_permuted (rw (← c.self.view_is) at c.requires) c.sort_unstable.ensures.permutation in
    rw (c.deref.ensures.value, c.deref_mut.ensures.value) new.below

pub unwrap-requires : goal.unwrap-requires
unwrap-requires c =
    let last : List ℕ = c.sort_unstable.new.self.items in
    let new : IsNewGroup (value_of c.self.inside) last = new_permuted (rw (← c.self.view_is) at c.requires) c.sort_unstable.ensures.permutation in
    let ascending : IsStrictlyIncreasing last =
    sorted_ascends c.args.group.items last c.requires.distinct c.sort_unstable.ensures.permutation c.sort_unstable.ensures.sorted in
    let more = released_more last c.self.invariant.released new ascending in
    let groups : List (List ℕ) = lists_of c.self.inside.groups.items in
    c.push.ensures.succeeds
    (omega (
      arith,
      more.few,
      length_push groups last,
      length-lists_of c.self.inside.groups.items,
      c.self.inside.groups.ok,
      c.self.invariant.room,
    ))

pub invariant_of-self : goal.invariant_of-self
invariant_of-self c =
    let last : List ℕ = c.sort_unstable.new.self.items in
    let groups : List (List ℕ) = lists_of c.self.inside.groups.items in
    let new : IsNewGroup (value_of c.self.inside) last = new_permuted (rw (← c.self.view_is) at c.requires) c.sort_unstable.ensures.permutation in
    let ascending : IsStrictlyIncreasing last =
    sorted_ascends c.args.group.items last c.requires.distinct c.sort_unstable.ensures.permutation c.sort_unstable.ensures.sorted in
    let stamped : IsStamped last true c.self.inside.held.items c.stamp.new.table =
    rw (c.deref.ensures.value, c.deref_mut.ensures.value) at c.stamp.ensures in
    let held_is : (with_items c.self.inside.held c.stamp.new.table).items ≡ c.stamp.new.table =
    with_items_is c.self.inside.held c.stamp.new.table (stamped.each ∙ sym c.self.inside.held.ok.0) in
    let groups_is : lists_of c.push.new.self.items ≡ groups ++ last ∷ [] =
    ap lists_of (rw c.unwrap.ensures at c.push.ensures.items) ∙ lists_of-push c.self.inside.groups.items c.sort_unstable.new.self in
    record {
      released = rw (groups_is, held_is, stamped.each) (released_more last c.self.invariant.released new ascending);
      marks = rw (groups_is, held_is) (marks_more groups last c.self.inside.held.items c.stamp.new.table c.self.invariant.marks stamped);
      room = rw (held_is, stamped.each) (omega (arith, c.self.invariant.room, c.push.ensures.capacity));
    }

pub returns : goal.returns
returns c =
    let last : List ℕ = c.sort_unstable.new.self.items in
    let groups : List (List ℕ) = lists_of c.self.inside.groups.items in
    let stamped : IsStamped last true c.self.inside.held.items c.stamp.new.table =
    rw (c.deref.ensures.value, c.deref_mut.ensures.value) at c.stamp.ensures in
    let held_is : (with_items c.self.inside.held c.stamp.new.table).items ≡ c.stamp.new.table =
    with_items_is c.self.inside.held c.stamp.new.table (stamped.each ∙ sym c.self.inside.held.ok.0) in
    let groups_is : lists_of c.push.new.self.items ≡ groups ++ last ∷ [] =
    ap lists_of (rw c.unwrap.ensures at c.push.ensures.items) ∙ lists_of-push c.self.inside.groups.items c.sort_unstable.new.self in
    record {
      last = last;
      same_members = c.sort_unstable.ensures.permutation;
      ascending = sorted_ascends c.args.group.items last c.requires.distinct c.sort_unstable.ensures.permutation c.sort_unstable.ensures.sorted;
      groups = groups_is ∙ ap (λ (released : ReleasedGroups). released.groups ++ last ∷ []) c.self.view_is;
      count = ap length held_is ∙ stamped.each ∙ ap (λ (released : ReleasedGroups). released.count) c.self.view_is;
    }
