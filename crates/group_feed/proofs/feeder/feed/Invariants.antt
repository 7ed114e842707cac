use Rattle.std.proofs.Common.{◌≡◌, ◌≤◌, true, false, length, take}
use Rattle.std.specs.Prelude.{All}
use Rattle.crossbeam_queue.specs.Passes.{view, IsPassOf}
use Rattle.graph_law.specs.Classes.{HasMember}
use Rattle.search_pool.specs.Driving.{IsIdlePass}
use Rattle.group_feed.specs.Copying.{AreNodesSeen}
use Rattle.group_feed.specs.Feeder.{AreFed}
use Rattle.group_feed.proofs.feeder.feed.Given as goal

abbrev pub invariant-turns : goal.invariant-turns
invariant-turns g l =
    (goal.iterator-turns g).can_next l.iterator' × (goal.iterator-turns g).is_finite l.iterator' × IsIdlePass l.claims l.pass × IsPassOf l.line l.hand
    × ((view l.hand).feeds ≡ true) × ((view l.hand).ended ≡ false) × ((view l.hand).pushed ≡ l.copies.groups) × (l.copies.count ≡ length l.claims.lists)
    × AreFed l.claims l.copies.groups × AreNodesSeen l.copies.groups l.pass.view.seen × (l.fed_roots ≤ length l.roots)
    × All (HasMember l.copies.groups) (take l.fed_roots l.roots)
