use Rattle.std.proofs.Common.{◌≡◌, ◌+◌, get_or, drop, refl, inl, ap, arith}
use Rattle.std.specs.Prelude.{true}
use Rattle.search_stack.specs.Stack.{size}
use Rattle.search_stack.specs.Search.{SearchValue}
use Rattle.search_stack.proofs.Shapes.{few_frames}
use Rattle.blocked_table.specs.Suspending.{entries_at, entries_on}
use Rattle.blocked_table.proofs.EndSteps.{end_on, part_end, part_next, transferred, way_so_far}
use Rattle.blocked_table.proofs.FieldSteps.{still_only}
use Rattle.blocked_table.proofs.MovedSteps.{good_of, part_more, part_start}
use Rattle.blocked_table.proofs.Paths.{path_once}
use Rattle.blocked_table.proofs.blocked.Blocked.transfer.Goals as goal

pub parts-init : goal.parts-init
parts-init c =
    record {
      only = refl;
      part =
          part_start c.args.self.now.kept c.args.search.now.stack c.args.on c.args.places.now c.args.end c.args.search.now.spare c.requires.path
          (λ i j before lt.
          path_once c.args.self.now.kept c.requires.table.apart c.requires.table.ends c.args.on c.args.places.now c.args.end c.requires.path i j 0 before lt)
          c.requires.room;
      wants_nothing = c.requires.can_wait.wants_nothing;
    }

pub move_part-node-requires-clause-step : goal.move_part-node-requires-clause-step
move_part-node-requires-clause-step c =
    let part = part_next c.args.places.now c.parts.place-index c.parts-test.true c.parts.invariant.part in
    (part.path.0, part.path.1)

pub move_part-node-requires-clause-last : goal.move_part-node-requires-clause-last
move_part-node-requires-clause-last c =
    let way = way_so_far c.requires.table c.requires.can_wait c.requires.good.good c.parts.invariant.part in
    way.last

pub move_part-node-requires-clause-apart : goal.move_part-node-requires-clause-apart
move_part-node-requires-clause-apart c =
    let way = way_so_far c.requires.table c.requires.can_wait c.requires.good.good c.parts.invariant.part in
    way.off

pub move_part-node-requires-clause-good : goal.move_part-node-requires-clause-good
move_part-node-requires-clause-good c =
    let way = way_so_far c.requires.table c.requires.can_wait c.requires.good.good c.parts.invariant.part in
    record { lists = c.requires.good.lists; roots = c.requires.good.roots; done = c.requires.good.done; good = good_of way }

pub move_part-node-requires-clause-room : goal.move_part-node-requires-clause-room
move_part-node-requires-clause-room c =
    let part = part_next c.args.places.now c.parts.place-index c.parts-test.true c.parts.invariant.part in
    λ donor at.
    let entries : entries_at c.parts.self.kept (get_or c.args.places.now c.parts.place-index 0) ≡ size donor.stack = ap entries_on at in
    omega (arith, part.room, entries)

pub parts-preserved : goal.parts-preserved
parts-preserved c =
    let part = part_next c.args.places.now c.parts.place-index c.parts-test.true c.parts.invariant.part in
    record {
      only = still_only c.args.self.now c.parts.invariant.only c.move_part-node.ensures.only;
      part =
          part_more (get_or c.args.places.now c.parts.place-index 0) (drop (c.parts.place-index + 1) c.args.places.now) c.move_part-node.new.self.kept
          c.move_part-node.new.search.stack c.move_part-node.result c.move_part-node.new.search.spare part c.move_part-node.ensures.moved.part
          c.move_part-node.ensures.moved.spare;
      wants_nothing = c.move_part-node.ensures.moved.wants_nothing;
    }

pub back-requires-clause-some : goal.back-requires-clause-some
back-requires-clause-some c =
    let way = way_so_far c.requires.table c.requires.can_wait c.requires.good.good c.parts.invariant.part in
    omega (arith, few_frames way.good.shaped, way.last.some)

pub back-requires-clause-wants_nothing : goal.back-requires-clause-wants_nothing
back-requires-clause-wants_nothing c =
    c.parts.invariant.wants_nothing

pub back-requires-clause-last : goal.back-requires-clause-last
back-requires-clause-last c =
    let way = way_so_far c.requires.table c.requires.can_wait c.requires.good.good c.parts.invariant.part in
    way.last

pub returns-clause-only : goal.returns-clause-only
returns-clause-only c = c.parts.invariant.only

pub returns-clause-moved : goal.returns-clause-moved
returns-clause-moved c =
    let end = part_end c.args.places.now c.parts.place-index c.parts-test.false c.parts.invariant.part in
    let here = end_on c.requires.table c.requires.can_wait c.requires.good.good end c.requires.back in
    let lowered = c.back.ensures.lowered (c.back.ensures.on.1 here) here.place here.within here.is in
    transferred here.place end c.requires.back here.within here.is (ap (λ (one : SearchValue). one.stack) lowered)

pub returns-clause-good : goal.returns-clause-good
returns-clause-good c =
    let end = part_end c.args.places.now c.parts.place-index c.parts-test.false c.parts.invariant.part in
    let here = end_on c.requires.table c.requires.can_wait c.requires.good.good end c.requires.back in
    λ lists roots done good.
    let way = way_so_far c.requires.table c.requires.can_wait good c.parts.invariant.part in
    ((λ place kept at. (way.kept place kept at).1), c.back.ensures.good lists roots done true way.good (inl (c.back.ensures.on.1 here)))
