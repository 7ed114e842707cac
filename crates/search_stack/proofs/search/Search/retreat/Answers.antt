use Rattle.std.proofs.Common.{◌≤◌, ◌-◌, length, ap, sym, subst, arith, length-set}
use Rattle.std.specs.Prelude.{false}
use Rattle.search_stack.specs.GoodSearch.{IsGood}
use Rattle.search_stack.specs.Stack.{Stack, IsShaped}
use Rattle.search_stack.proofs.FieldLaws.{height_is}
use Rattle.search_stack.proofs.FieldSteps.{held, retreated_top}
use Rattle.search_stack.proofs.Retreat.{good_second}
use Rattle.search_stack.proofs.Shapes.{shaped_retreat}
use Rattle.search_stack.proofs.Steps.{retreats}
use Rattle.search_stack.proofs.search.Search.retreat.Goals as goal

pub overflow_sub-top : goal.overflow_sub-top
overflow_sub-top c =
    let two = rw (← c.self.view_is) at c.requires.two in
    let tall : 2 ≤ length c.self.inside.frames.items = omega (arith, two, height_is c.self.inside.opened.entries c.self.inside.frames.items) in
    omega (arith, tall, c.len-top.ensures, c.self.inside.frames.ok.0)

pub index-joined-requires : goal.index-joined-requires
index-joined-requires c =
    let two = rw (← c.self.view_is) at c.requires.two in
    let tall : 2 ≤ length c.self.inside.frames.items = omega (arith, two, height_is c.self.inside.opened.entries c.self.inside.frames.items) in
    omega (arith, tall, c.len-top.ensures, c.self.inside.frames.ok.0)

pub overflow_sub-top-2 : goal.overflow_sub-top-2
overflow_sub-top-2 c =
    let two = rw (← c.self.view_is) at c.requires.two in
    let tall : 2 ≤ length c.self.inside.frames.items = omega (arith, two, height_is c.self.inside.opened.entries c.self.inside.frames.items) in
    omega (arith, tall, c.len-top.ensures, c.self.inside.frames.ok.0)

pub index_mut-frame-requires : goal.index_mut-frame-requires
index_mut-frame-requires c =
    let two = rw (← c.self.view_is) at c.requires.two in
    let tall : 2 ≤ length c.self.inside.frames.items = omega (arith, two, height_is c.self.inside.opened.entries c.self.inside.frames.items) in
    omega (arith, tall, c.len-top.ensures, c.self.inside.frames.ok.0, c.truncate.ensures.len)

pub invariant_of-self : goal.invariant_of-self
invariant_of-self c =
    let two = rw (← c.self.view_is) at c.requires.two in
    let is =
    retreated_top c.self.invariant two c.len-top.ensures c.index-joined.ensures c.truncate.ensures.items c.index_mut-frame.ensures.value c.min-frame.ensures in
    record {
      shaped = subst IsShaped (sym is) (shaped_retreat c.self.invariant.shaped (retreats (held c.self.inside) two));
      entry_room = c.self.invariant.entry_room;
      frame_room =
          omega (
            arith,
            c.self.invariant.frame_room,
            c.truncate.ensures.len,
            c.truncate.ensures.capacity,
            c.self.inside.frames.ok.0,
            c.truncate.new.self.ok.0,
            length-set c.truncate.new.self.items (c.len-top.result - 1 - 1)
                (record { position = c.index_mut-frame.result.now.position; low = c.min-frame.result }),
          );
      small = c.self.invariant.small;
    }

pub returns-clause-retreated : goal.returns-clause-retreated
returns-clause-retreated c =
    let two = rw (← c.self.view_is) at c.requires.two in
    let is =
    retreated_top c.self.invariant two c.len-top.ensures c.index-joined.ensures c.truncate.ensures.items c.index_mut-frame.ensures.value c.min-frame.ensures in
    rw (← c.self.view_is)
    (ap (λ (stack : Stack). record { stack = stack; wanted = c.self.inside.wanted; spare = c.self.inside.spare }) is)

pub returns-clause-good : goal.returns-clause-good
returns-clause-good c =
    let two = rw (← c.self.view_is) at c.requires.two in
    let is =
    retreated_top c.self.invariant two c.len-top.ensures c.index-joined.ensures c.truncate.ensures.items c.index_mut-frame.ensures.value c.min-frame.ensures in
    let all = rw (← c.self.view_is) at c.requires.done.all in
    let low_below = rw (← c.self.view_is) at c.requires.low in
    rw (← c.self.view_is)
    (λ lists roots done good.
    subst (IsGood lists roots done false) (sym is) (good_second good (retreats (held c.self.inside) two) two all low_below))
