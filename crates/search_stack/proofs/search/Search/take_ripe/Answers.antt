use Rattle.std.proofs.Common.{◌∙◌, ◌++◌, length, drop, ap, sym, subst, arith}
use Rattle.std.specs.Prelude.{false}
use Rattle.std.proofs.lemmas.List.{take_rest}
use Rattle.search_stack.specs.GoodSearch.{IsGood}
use Rattle.search_stack.specs.Stack.{Stack, IsShaped, top, position}
use Rattle.search_stack.proofs.FieldLaws.{size_is, height_is, nodes_is}
use Rattle.search_stack.proofs.FieldSteps.{held, top_at, taken_top}
use Rattle.search_stack.proofs.Shapes.{shaped_below}
use Rattle.search_stack.proofs.Steps.{keeps, holds_from}
use Rattle.search_stack.proofs.Taken.{HoldsFrom, releasable, good_take}
use Rattle.search_stack.proofs.search.Search.take_ripe.Goals as goal

pub overflow_sub-top : goal.overflow_sub-top
overflow_sub-top c =
    let height = rw (← c.self.view_is) at c.requires.done.some in
    omega (arith, height, c.len-top.ensures, c.self.inside.frames.ok.0, height_is c.self.inside.opened.entries c.self.inside.frames.items)

pub index-requires : goal.index-requires
index-requires c =
    let height = rw (← c.self.view_is) at c.requires.done.some in
    omega (arith, height, c.len-top.ensures, c.self.inside.frames.ok.0, height_is c.self.inside.opened.entries c.self.inside.frames.items)

pub slice_bounds-to_vec-count : goal.slice_bounds-to_vec-count
slice_bounds-to_vec-count c =
    let height = rw (← c.self.view_is) at c.requires.done.some in
    let tops = top_at c.self.invariant height c.len-top.ensures c.index.ensures in
    omega (arith, tops.within, size_is c.self.inside.opened.entries c.self.inside.frames.items, ap length c.as_slice.ensures, c.keys.ensures.len)

pub slice_bounds-to_vec-start : goal.slice_bounds-to_vec-start
slice_bounds-to_vec-start c =
    let height = rw (← c.self.view_is) at c.requires.done.some in
    let tops = top_at c.self.invariant height c.len-top.ensures c.index.ensures in
    omega (arith, tops.within, size_is c.self.inside.opened.entries c.self.inside.frames.items, ap length c.as_slice.ensures, c.keys.ensures.len)

pub invariant_of-self : goal.invariant_of-self
invariant_of-self c =
    let height = rw (← c.self.view_is) at c.requires.done.some in
    let tops = top_at c.self.invariant height c.len-top.ensures c.index.ensures in
    let is = taken_top c.self.invariant tops c.len-top.ensures c.truncate.ensures.entries c.truncate-2.ensures.items in
    let new = keeps (held c.self.inside) (top (held c.self.inside)) c.self.invariant.shaped (omega (arith, height)) in
    record {
      shaped = subst IsShaped (sym is) (shaped_below c.self.invariant.shaped new);
      entry_room = omega (arith, c.self.invariant.entry_room, c.truncate.ensures.room.0);
      frame_room =
          omega (
            arith,
            c.self.invariant.frame_room,
            c.truncate-2.ensures.len,
            c.truncate-2.ensures.capacity,
            c.self.inside.frames.ok.0,
            c.truncate-2.new.self.ok.0,
          );
      small = omega (arith, c.self.invariant.small, c.truncate.ensures.len);
    }

pub returns-clause-group : goal.returns-clause-group
returns-clause-group c =
    let height = rw (← c.self.view_is) at c.requires.done.some in
    let tops = top_at c.self.invariant height c.len-top.ensures c.index.ensures in
    let nodes =
    c.in_ok-group.ensures.items_if_clones_equal (λ x y is. is) ∙ take_rest c.as_slice.result.now c.index.result.now.position ∙ ap (drop c.index.result.now.position) (c.as_slice.ensures ∙ c.keys.ensures.rest)
    ∙ nodes_is c.self.inside.opened.entries c.self.inside.frames.items c.index.result.now tops in
    rw (← c.self.view_is) nodes

pub returns-clause-taken : goal.returns-clause-taken
returns-clause-taken c =
    let height = rw (← c.self.view_is) at c.requires.done.some in
    let tops = top_at c.self.invariant height c.len-top.ensures c.index.ensures in
    let is = taken_top c.self.invariant tops c.len-top.ensures c.truncate.ensures.entries c.truncate-2.ensures.items in
    let new = keeps (held c.self.inside) (top (held c.self.inside)) c.self.invariant.shaped (omega (arith, height)) in
    rw (← c.self.view_is)
    (ap (λ (stack : Stack). record { stack = stack; wanted = c.self.inside.wanted; spare = c.self.inside.spare }) is)

pub returns-clause-releasable : goal.returns-clause-releasable
returns-clause-releasable c =
    let height = rw (← c.self.view_is) at c.requires.done.some in
    let tops = top_at c.self.invariant height c.len-top.ensures c.index.ensures in
    let nodes =
    c.in_ok-group.ensures.items_if_clones_equal (λ x y is. is) ∙ take_rest c.as_slice.result.now c.index.result.now.position ∙ ap (drop c.index.result.now.position) (c.as_slice.ensures ∙ c.keys.ensures.rest)
    ∙ nodes_is c.self.inside.opened.entries c.self.inside.frames.items c.index.result.now tops in
    let ripe = rw (← c.self.view_is) at c.requires in
    let holds = subst (HoldsFrom (held c.self.inside) (position (held c.self.inside) (top (held c.self.inside)))) (sym nodes) (holds_from (held c.self.inside) (top (held c.self.inside))) in
    rw (← c.self.view_is) (λ lists roots done good. releasable good ripe holds)

pub returns-clause-good : goal.returns-clause-good
returns-clause-good c =
    let height = rw (← c.self.view_is) at c.requires.done.some in
    let tops = top_at c.self.invariant height c.len-top.ensures c.index.ensures in
    let nodes =
    c.in_ok-group.ensures.items_if_clones_equal (λ x y is. is) ∙ take_rest c.as_slice.result.now c.index.result.now.position ∙ ap (drop c.index.result.now.position) (c.as_slice.ensures ∙ c.keys.ensures.rest)
    ∙ nodes_is c.self.inside.opened.entries c.self.inside.frames.items c.index.result.now tops in
    let ripe = rw (← c.self.view_is) at c.requires in
    let holds = subst (HoldsFrom (held c.self.inside) (position (held c.self.inside) (top (held c.self.inside)))) (sym nodes) (holds_from (held c.self.inside) (top (held c.self.inside))) in
    let is = taken_top c.self.invariant tops c.len-top.ensures c.truncate.ensures.entries c.truncate-2.ensures.items in
    let new = keeps (held c.self.inside) (top (held c.self.inside)) c.self.invariant.shaped (omega (arith, height)) in
    rw (← c.self.view_is)
    (λ lists roots done good.
    subst (IsGood lists roots (done ++ c.in_ok-group.group.items) false) (sym is) (good_take good ripe holds new))
