use Rattle.std.proofs.Common.{◌≡◌, true, false}
use Rattle.crossbeam_queue.specs.Passes.{view, IsPassOf}
use Rattle.group_feed.specs.Ordered.{AreOrdered}
use Rattle.group_feed.proofs.consumer.consume.Given as goal

abbrev pub invariant-parcels : goal.invariant-parcels
invariant-parcels g l =
    (goal.iterator-parcels g).can_next l.iterator' × (goal.iterator-parcels g).is_finite l.iterator' × IsPassOf l.line l.pass
    × ((view l.pass).takes ≡ true) × ((view l.pass).through ≡ false) × (g.T.Taker.lists l.taker ≡ g.N.Graph.lists)
    × ((view l.pass).taken ≡ g.T.Taker.taken l.taker)
    × AreOrdered g.N.Graph.lists (g.T.Taker.taken l.taker)
