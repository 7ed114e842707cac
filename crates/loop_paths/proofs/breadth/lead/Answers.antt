use Rattle.graph_law.specs.Graph.{Calls}
use Rattle.loop_paths.proofs.Leads.{lead_least, lead_none}
use Rattle.loop_paths.proofs.Searching.{begun_at, cleared, found_none, found_place, found_seen, nodes_within}
use Rattle.loop_paths.proofs.breadth.lead.Goals as goal

pub grow-requires-clause-begun : goal.grow-requires-clause-begun
grow-requires-clause-begun g c κs within =
    let lists = g.O.Opener.lists c.args.opener.now in (
      c.args.from,
      begun_at lists c.args.from c.args.to c.in_ok-tree.tree.nodes.items c.in_ok-tree.tree.callers.items c.args.seen.now
          c.in_ok-tree.ensures.nodes c.in_ok-tree.ensures.callers c.requires.clear c.requires.below c.requires.each,
    )

pub stamp-requires : goal.stamp-requires
stamp-requires g c =
    let lists = g.O.Opener.lists c.args.opener.now in
    let begun = begun_at lists c.args.from c.args.to c.in_ok-tree.tree.nodes.items c.in_ok-tree.tree.callers.items c.args.seen.now
    c.in_ok-tree.ensures.nodes c.in_ok-tree.ensures.callers c.requires.clear c.requires.below c.requires.each in
    let are = found_seen lists c.args.from c.args.to c.grow.new.tree.nodes.items c.grow.new.tree.callers.items c.grow.new.seen c.in_ok-found.found
    (c.in_ok-found.ensures.found c.args.from begun) in
    rw c.deref.ensures.value (nodes_within c.grow.new.tree.nodes.items c.grow.new.seen are)

pub returns-in_default-clause-clear : goal.returns-in_default-clause-clear
returns-in_default-clause-clear g c =
    let lists = g.O.Opener.lists c.args.opener.now in
    let begun = begun_at lists c.args.from c.args.to c.in_ok-tree.tree.nodes.items c.in_ok-tree.tree.callers.items c.args.seen.now
    c.in_ok-tree.ensures.nodes c.in_ok-tree.ensures.callers c.requires.clear c.requires.below c.requires.each in
    let are = found_seen lists c.args.from c.args.to c.grow.new.tree.nodes.items c.grow.new.tree.callers.items c.grow.new.seen c.in_ok-found.found
    (c.in_ok-found.ensures.found c.args.from begun) in
    cleared c.grow.new.tree.nodes.items c.grow.new.seen c.stamp.new.table are (rw c.deref.ensures.value at c.stamp.ensures)

pub returns-in_default-clause-lead : goal.returns-in_default-clause-lead
returns-in_default-clause-lead g c =
    let lists = g.O.Opener.lists c.args.opener.now in
    let begun = begun_at lists c.args.from c.args.to c.in_ok-tree.tree.nodes.items c.in_ok-tree.tree.callers.items c.args.seen.now
    c.in_ok-tree.ensures.nodes c.in_ok-tree.ensures.callers c.requires.clear c.requires.below c.requires.each in
    lead_none (Calls lists) c.args.from c.args.to c.grow.new.tree.nodes.items c.grow.new.tree.callers.items c.grow.new.seen
    (found_none lists c.args.from c.args.to c.grow.new.tree.nodes.items c.grow.new.tree.callers.items c.grow.new.seen c.in_ok-found.found
    (c.in_ok-found.ensures.found c.args.from begun) c.in_default.is)

pub path-requires-clause-tree : goal.path-requires-clause-tree
path-requires-clause-tree g c =
    let lists = g.O.Opener.lists c.args.opener.now in
    let begun = begun_at lists c.args.from c.args.to c.in_ok-tree.tree.nodes.items c.in_ok-tree.tree.callers.items c.args.seen.now
    c.in_ok-tree.ensures.nodes c.in_ok-tree.ensures.callers c.requires.clear c.requires.below c.requires.each in
    let found = found_place lists c.args.from c.args.to c.grow.new.tree.nodes.items c.grow.new.tree.callers.items c.grow.new.seen c.in_ok-found.found c.in-Some.place
    (c.in_ok-found.ensures.found c.args.from begun) c.in-Some.is in
    (lists, c.args.from, found.0.paths, found.0.tree)

pub path-requires-clause-within : goal.path-requires-clause-within
path-requires-clause-within g c =
    let lists = g.O.Opener.lists c.args.opener.now in
    let begun = begun_at lists c.args.from c.args.to c.in_ok-tree.tree.nodes.items c.in_ok-tree.tree.callers.items c.args.seen.now
    c.in_ok-tree.ensures.nodes c.in_ok-tree.ensures.callers c.requires.clear c.requires.below c.requires.each in
    let found = found_place lists c.args.from c.args.to c.grow.new.tree.nodes.items c.grow.new.tree.callers.items c.grow.new.seen c.in_ok-found.found c.in-Some.place
    (c.in_ok-found.ensures.found c.args.from begun) c.in-Some.is in
    found.1

pub returns-clause-clear : goal.returns-clause-clear
returns-clause-clear g c =
    let lists = g.O.Opener.lists c.args.opener.now in
    let begun = begun_at lists c.args.from c.args.to c.in_ok-tree.tree.nodes.items c.in_ok-tree.tree.callers.items c.args.seen.now
    c.in_ok-tree.ensures.nodes c.in_ok-tree.ensures.callers c.requires.clear c.requires.below c.requires.each in
    let are = found_seen lists c.args.from c.args.to c.grow.new.tree.nodes.items c.grow.new.tree.callers.items c.grow.new.seen c.in_ok-found.found
    (c.in_ok-found.ensures.found c.args.from begun) in
    cleared c.grow.new.tree.nodes.items c.grow.new.seen c.stamp.new.table are (rw c.deref.ensures.value at c.stamp.ensures)

pub returns-clause-lead : goal.returns-clause-lead
returns-clause-lead g c =
    let lists = g.O.Opener.lists c.args.opener.now in
    let begun = begun_at lists c.args.from c.args.to c.in_ok-tree.tree.nodes.items c.in_ok-tree.tree.callers.items c.args.seen.now
    c.in_ok-tree.ensures.nodes c.in_ok-tree.ensures.callers c.requires.clear c.requires.below c.requires.each in
    let found = found_place lists c.args.from c.args.to c.grow.new.tree.nodes.items c.grow.new.tree.callers.items c.grow.new.seen c.in_ok-found.found c.in-Some.place
    (c.in_ok-found.ensures.found c.args.from begun) c.in-Some.is in
    rw (c.in_ok-path.ensures lists c.args.from found.0.paths found.0.tree)
    (lead_least (Calls lists) c.args.from c.args.to c.grow.new.tree.nodes.items c.grow.new.tree.callers.items c.grow.new.seen c.in-Some.place found.0
    found.1 found.2)
