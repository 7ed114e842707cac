use Rattle.std.proofs.Common.{◌≡◌, true, false, take}
use Rattle.crossbeam_queue.specs.Passes.{view, IsPassOf}
use Rattle.group_feed.proofs.feeder.push_from.Given as goal

abbrev pub invariant-loop-at : goal.invariant-loop-at
invariant-loop-at g l =
    IsPassOf l.line l.hand × ((view l.hand).feeds ≡ true) × ((view l.hand).ended ≡ false) × ((view l.hand).pushed ≡ take l.at l.copies.groups)
