use Rattle.std.proofs.Common.{length}
use Rattle.graph_law.specs.CallOrder.{AreGroupPlaces}
use Rattle.graph_law.specs.Graph.{lists_of}
use Rattle.graph_law.proofs.GraphLaws.{length-lists_of}
use Rattle.loop_paths.specs.Circuits.{circuits_of}
use Rattle.loop_paths.proofs.Returns.{apart_from_legal, circuits_from_returns, least_in_each, marks_each}
use Rattle.loop_paths.proofs.group_circuits.circuits.Goals as goal

pub group_places-requires : goal.group_places-requires
group_places-requires g c =
    rw c.count-count.ensures.count
    (apart_from_legal (g.O.Opener.lists c.args.opener.now) (lists_of c.args.groups.now) c.requires.legal c.requires.nodes)

pub returns_of-requires-clause-below : goal.returns_of-requires-clause-below
returns_of-requires-clause-below g c κs within =
    least_in_each (g.O.Opener.lists c.args.opener.now) (lists_of c.args.groups.now) c.deref.result.now c.requires.legal c.requires.nodes

pub returns_of-requires-clause-each : goal.returns_of-requires-clause-each
returns_of-requires-clause-each g c κs within =
    marks_each (g.O.Opener.lists c.args.opener.now) c.deref.result.now c.count-count.result c.in_ok-seen.seen.items c.deref_mut.result.now
    c.deref_mut.ensures.value (c.in_ok-seen.ensures.items_if_clones_equal (λ y is. is)) c.count-count.ensures.count

pub returns : goal.returns
returns g c =
    let lists = g.O.Opener.lists c.args.opener.now in
    let groups = lists_of c.args.groups.now in
    let placed : AreGroupPlaces (length lists) groups c.deref.result.now =
    rw c.deref.ensures.value (rw c.count-count.ensures.count at c.in_ok-places.ensures.members) in
    circuits_from_returns lists groups c.deref.result.now (circuits_of c.in_ok-found.found.items) c.requires.legal c.requires.nodes placed
    (rw (length-lists_of c.args.groups.now) c.in_ok-found.ensures)
