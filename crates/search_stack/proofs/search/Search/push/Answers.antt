use Rattle.std.proofs.Common.{length, refl, ap, sym, subst, arith}
use Rattle.std.specs.Prelude.{false}
use Rattle.std.proofs.lemmas.List.{length_push}
use Rattle.search_stack.specs.GoodSearch.{IsGood}
use Rattle.search_stack.specs.Stack.{IsShaped, size}
use Rattle.search_stack.proofs.FieldLaws.{size_is}
use Rattle.search_stack.proofs.FieldSteps.{held, pushed_top, led_to}
use Rattle.search_stack.proofs.Push.{good_push}
use Rattle.search_stack.proofs.Shapes.{shaped_push, no_entries}
use Rattle.search_stack.proofs.Steps.{pushes}
use Rattle.search_stack.proofs.search.Search.push.Goals as goal

pub invariant_of-self : goal.invariant_of-self
invariant_of-self c =
    let entries = rw c.unwrap.ensures at c.insert.ensures.entries in
    let frames = rw c.unwrap-2.ensures at c.push.ensures.items in
    let fresh = rw (← c.self.view_is) at c.requires.fresh in
    let is = pushed_top c.args.opening.node (record { succs = c.args.opening.succs; begun = 0 }) c.self.invariant fresh c.len-position.ensures.len entries frames refl in
    let new = pushes (held c.self.inside) c.args.opening.node c.args.opening.succs.items in
    let led = led_to c.args.opening.node c.self.invariant (rw (← c.self.view_is) at c.requires.led) in
    let room = rw (← c.self.view_is) at c.requires.room in
    record {
      shaped = subst IsShaped (sym is) (shaped_push c.self.invariant.shaped new led);
      entry_room = omega (arith, room, c.self.invariant.entry_room, c.insert.ensures.spare);
      frame_room =
          omega (
            arith,
            room,
            c.self.invariant.frame_room,
            c.push.ensures.capacity,
            ap length frames,
            length_push c.self.inside.frames.items (record { position = c.len-position.result; low = c.len-position.result }),
          );
      small =
          omega (
            arith,
            room,
            c.self.invariant.small,
            size_is c.insert.new.self.entries c.push.new.self.items,
            ap size is,
            new.size_is,
            size_is c.self.inside.opened.entries c.self.inside.frames.items,
          );
    }

pub returns-clause-pushed : goal.returns-clause-pushed
returns-clause-pushed c =
    let entries = rw c.unwrap.ensures at c.insert.ensures.entries in
    let frames = rw c.unwrap-2.ensures at c.push.ensures.items in
    let fresh = rw (← c.self.view_is) at c.requires.fresh in
    let is = pushed_top c.args.opening.node (record { succs = c.args.opening.succs; begun = 0 }) c.self.invariant fresh c.len-position.ensures.len entries frames refl in
    let new = pushes (held c.self.inside) c.args.opening.node c.args.opening.succs.items in
    rw (← c.self.view_is) is

pub returns-clause-good : goal.returns-clause-good
returns-clause-good c =
    let entries = rw c.unwrap.ensures at c.insert.ensures.entries in
    let frames = rw c.unwrap-2.ensures at c.push.ensures.items in
    let fresh = rw (← c.self.view_is) at c.requires.fresh in
    let is = pushed_top c.args.opening.node (record { succs = c.args.opening.succs; begun = 0 }) c.self.invariant fresh c.len-position.ensures.len entries frames refl in
    let new = pushes (held c.self.inside) c.args.opening.node c.args.opening.succs.items in
    let led = led_to c.args.opening.node c.self.invariant (rw (← c.self.view_is) at c.requires.led) in
    rw (← c.self.view_is)
    (λ lists roots done good true_list root.
    subst (IsGood lists roots done false) (sym is)
    (good_push good new led true_list (λ none. root (no_entries c.self.invariant.shaped none))))
