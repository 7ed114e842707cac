use Rattle.std.proofs.Common.{◌<◌, ◌∙◌, [], length, get_or, true, false, refl, ap, sym, arith, get_or-set_same}
use Rattle.std.proofs.lemmas.List.Elements.{Contains-get_or}
use Rattle.graph_law.specs.Graph.{Calls, lists_of}
use Rattle.graph_law.proofs.ReachLaws.{is_reached_start}
use Rattle.search_stack.proofs.Driving.{way_open, stays_seen, through_more, all_complete, IsThrough-start}
use Rattle.search_stack.proofs.Edges.{good_open}
use Rattle.search_stack.proofs.UnderWay.{way_same}
use Rattle.search_stack.proofs.plain_search.groups_plain.Goals as goal

pub loop-root-init : goal.loop-root-init
loop-root-init g c =
    IsThrough-start (g.O.Opener.lists c.args.opener.now) c.args.roots.now c.count-count.result (lists_of c.in_ok-groups.groups.items) c.in_ok-search.search
    c.count-count.ensures.count (ap lists_of c.in_ok-groups.ensures.items) c.in_ok-search.ensures

pub loop-root-preserved-then-has_met : goal.loop-root-preserved-then-has_met
loop-root-preserved-then-has_met g c =
    record {
      ended = c.loop-root.invariant.ended;
      under_way = c.loop-root.invariant.under_way;
      through =
          through_more c.loop-root.search.seen c.args.roots.now c.loop-root.root-index c.loop-root.invariant.through (sym c.if-has_met.ensures);
    }

pub run_out-requires-clause-under_way : goal.run_out-requires-clause-under_way
run_out-requires-clause-under_way g c κs within_life =
    let within : (get_or c.args.roots.now c.loop-root.root-index 0) < length c.loop-root.search.seen =
    omega (arith, c.requires c.loop-root.root-index 0 c.loop-root-test.true, c.loop-root.invariant.under_way.each) in
    let before = c.loop-root.invariant.under_way in
    let open_way = way_same before true (record { size_is = refl; node_is = λ i. refl }) (good_open before.good) in
    let way =
    way_open open_way (get_or c.args.roots.now c.loop-root.root-index 0) (get_or (g.O.Opener.lists c.args.opener.now) (get_or c.args.roots.now c.loop-root.root-index 0) []) c.open_node.new.search.stack c.open_node.new.search.seen within (sym c.if-has_met.ensures)
    c.in_ok-open_node.ensures.pushed c.in_ok-open_node.ensures.met
    (c.in_ok-open_node.ensures.good c.args.roots.now open_way.finished open_way.good
    (λ none.
    is_reached_start (Calls (g.O.Opener.lists c.args.opener.now)) c.args.roots.now (get_or c.args.roots.now c.loop-root.root-index 0) (Contains-get_or c.args.roots.now c.loop-root.root-index 0 c.loop-root-test.true))) in
    (c.args.roots.now, way)

pub loop-root-preserved : goal.loop-root-preserved
loop-root-preserved g c =
    let within : (get_or c.args.roots.now c.loop-root.root-index 0) < length c.loop-root.search.seen =
    omega (arith, c.requires c.loop-root.root-index 0 c.loop-root-test.true, c.loop-root.invariant.under_way.each) in
    let before = c.loop-root.invariant.under_way in
    let open_way = way_same before true (record { size_is = refl; node_is = λ i. refl }) (good_open before.good) in
    let way =
    way_open open_way (get_or c.args.roots.now c.loop-root.root-index 0) (get_or (g.O.Opener.lists c.args.opener.now) (get_or c.args.roots.now c.loop-root.root-index 0) []) c.open_node.new.search.stack c.open_node.new.search.seen within (sym c.if-has_met.ensures)
    c.in_ok-open_node.ensures.pushed c.in_ok-open_node.ensures.met
    (c.in_ok-open_node.ensures.good c.args.roots.now open_way.finished open_way.good
    (λ none.
    is_reached_start (Calls (g.O.Opener.lists c.args.opener.now)) c.args.roots.now (get_or c.args.roots.now c.loop-root.root-index 0) (Contains-get_or c.args.roots.now c.loop-root.root-index 0 c.loop-root-test.true))) in
    let marked = stays_seen c.loop-root.search.seen c.open_node.new.search.seen (get_or c.args.roots.now c.loop-root.root-index 0) in
    record {
      ended = c.in_ok-run_out.ensures.ended;
      under_way = c.in_ok-run_out.ensures.under_way c.args.roots.now way;
      through =
          through_more c.run_out.new.search.seen c.args.roots.now c.loop-root.root-index
          (λ k lt.
          c.in_ok-run_out.ensures.seen (get_or c.args.roots.now k 0)
          (marked (get_or c.args.roots.now k 0) within c.in_ok-open_node.ensures.met (c.loop-root.invariant.through k lt)))
          (c.in_ok-run_out.ensures.seen (get_or c.args.roots.now c.loop-root.root-index 0)
          (ap (λ all. get_or all (get_or c.args.roots.now c.loop-root.root-index 0) false) c.in_ok-open_node.ensures.met ∙ get_or-set_same c.loop-root.search.seen (get_or c.args.roots.now c.loop-root.root-index 0) true false within));
    }

pub returns-clause-complete : goal.returns-clause-complete
returns-clause-complete g c = all_complete c.loop-root.invariant (omega arith)
