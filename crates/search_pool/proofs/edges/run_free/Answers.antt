use Rattle.std.proofs.Common.{sym, subst}
use Rattle.std.specs.Prelude.{false}
use Rattle.search_stack.specs.Search.{SearchValue}
use Rattle.search_pool.specs.Worker.{IsSearching}
use Rattle.search_pool.proofs.EdgesKept.{begins_on, has_room, leads_within, retreats_on, unripe_two}
use Rattle.search_pool.proofs.edges.run_free.Goals as goal

pub edges-preserved-in_default : goal.edges-preserved-in_default
edges-preserved-in_default g c =
    let roomy = has_room c.edges.invariant.2 c.reserve.ensures.stack c.reserve.ensures.wanted in
    let same = rw c.in_default.is at c.begin.ensures.unchanged in
    let done = rw c.in_default.is at c.begin.ensures.done in
    let running : SearchValue → Type 0 = λ s. IsSearching c.args.claims.now c.edges.pass s false in
    let runs = subst running (sym same) roomy in
    let two = unripe_two c.begin.new.self c.is_ripe.result c.is_ripe.ensures.shaped done c.is_ripe.ensures.ripe.1 c.if-is_ripe.false in (
      tt,
      tt,
      retreats_on runs two c.retreat.ensures.retreated
          (c.retreat.ensures.good c.args.claims.now.lists c.args.claims.now.roots c.edges.pass.view.seen runs.working.good),
      c.edges.invariant.3,
    )

pub settle-requires-clause-below : goal.settle-requires-clause-below
settle-requires-clause-below g c κs within =
    let roomy = has_room c.edges.invariant.2 c.reserve.ensures.stack c.reserve.ensures.wanted in
    let runs = begins_on c.in-Some-begin.node roomy (sym c.in-Some-begin.ensures.next) c.in-Some-begin.ensures.begun
    (c.in-Some-begin.ensures.good c.args.claims.now.lists c.args.claims.now.roots c.edges.pass.view.seen roomy.working.good) in
    leads_within c.in-Some-begin.node runs c.requires.made c.count-count.ensures.closed c.in-Some-begin.ensures.last

pub settle-requires-clause-running : goal.settle-requires-clause-running
settle-requires-clause-running g c κs within =
    let roomy = has_room c.edges.invariant.2 c.reserve.ensures.stack c.reserve.ensures.wanted in
    begins_on c.in-Some-begin.node roomy (sym c.in-Some-begin.ensures.next) c.in-Some-begin.ensures.begun
    (c.in-Some-begin.ensures.good c.args.claims.now.lists c.args.claims.now.roots c.edges.pass.view.seen roomy.working.good)
