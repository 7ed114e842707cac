use Rattle.std.proofs.Common.{◌-◌, ◌∙◌, ◌++◌, length, take, drop, ap, arith}
use Rattle.std.proofs.lemmas.List.{take_rest, length-drop}
use Rattle.indexmap.specs.Drain.{drain_rest}
use Rattle.indexmap.specs.IndexMap.{spare}
use Rattle.search_stack.proofs.Moves.{moving_start, moving_more, moving_room, moving_end}
use Rattle.search_stack.proofs.transfer.move_entries.Goals as goal

pub moves-init : goal.moves-init
moves-init c =
    moving_start c.args.to.now.entries c.args.from.now.entries (drain_rest c.into_iter-node-iterator.result) c.args.at (spare c.args.to.now)
    (ap drain_rest c.into_iter-node-iterator.ensures.into_iter_gives ∙ c.drain-node-items.ensures.rest
    ∙ ap (λ n. take (n - c.args.at) (drop c.args.at c.args.from.now.entries)) c.len-len.ensures.len
    ∙ take_rest c.args.from.now.entries c.args.at)

pub unwrap-requires : goal.unwrap-requires
unwrap-requires c =
    c.insert.ensures.succeeds
    (moving_room (c.in-Some.node, c.in-Some.opened) (drain_rest c.next.new.self) c.requires.distinct c.requires.apart c.moves.invariant
    c.in-Some.ensures.steps.0 c.requires.room)

pub moves-preserved-in-Some : goal.moves-preserved-in-Some
moves-preserved-in-Some c =
    let put = rw c.unwrap.ensures at c.insert.ensures.entries in
    moving_more (c.in-Some.node, c.in-Some.opened) (drain_rest c.next.new.self) c.insert.new.self.entries (spare c.insert.new.self)
    c.requires.distinct c.requires.apart c.moves.invariant c.in-Some.ensures.steps.0 put c.insert.ensures.spare

pub moves-preserved : goal.moves-preserved
moves-preserved c =
    let put = rw c.unwrap.ensures at c.insert.ensures.entries in
    moving_more (c.in-Some.node, c.in-Some.opened) (drain_rest c.next.new.self) c.insert.new.self.entries (spare c.insert.new.self)
    c.requires.distinct c.requires.apart c.moves.invariant c.in-Some.ensures.steps.0 put c.insert.ensures.spare

pub returns-clause-to : goal.returns-clause-to
returns-clause-to c =
    c.moves.invariant.entries ∙ ap (λ es. c.args.to.now.entries ++ es) (moving_end c.moves.invariant c.in-None.ensures.steps.0)

pub returns-clause-to_room : goal.returns-clause-to_room
returns-clause-to_room c =
    omega (
      arith,
      c.moves.invariant.room_is,
      ap length (moving_end c.moves.invariant c.in-None.ensures.steps.0),
      length-drop c.args.at c.args.from.now.entries,
      c.requires.within,
    )
