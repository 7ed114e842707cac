use Rattle.std.proofs.Common.{Bool, not, ℕ, List, [], get_or, true, false, true≢false, sym, ap, subst, arith}
use Rattle.std.specs.Prelude.{count_by}
use Rattle.graph_law.specs.Graph.{lists_of}
use Rattle.search_stack.specs.PlainSearch.{IsSeen, IsUnderWay}
use Rattle.search_stack.proofs.Driving.{tall_from_long, way_open, opened_falls, stays_seen}
use Rattle.search_stack.proofs.Shapes.{long_from_tall}
use Rattle.search_stack.proofs.UnderWay.{tops_are_nodes}
use Rattle.search_stack.proofs.plain_search.run_out.Goals as goal

pub next_unmet-requires-clause-within : goal.next_unmet-requires-clause-within
next_unmet-requires-clause-within g c = λ k d lt.
    let way = c.steps.invariant.some_way.1 in
    let tall =
    tall_from_long way.good.shaped (λ none. true≢false (sym (c.steps-test.ensures.1 none))) in
    tops_are_nodes way c.requires.closed tall k d lt

pub steps-smaller-in-Continue-1 : goal.steps-smaller-in-Continue-1
steps-smaller-in-Continue-1 g c =
    let falls =
    opened_falls c.next_unmet.new.search.seen c.open_node.new.search.seen c.in-Some.node (get_or (g.O.Opener.lists c.args.opener.now) c.in-Some.node [])
    c.steps.search.stack c.next_unmet.new.search.stack c.open_node.new.search.stack c.in-Some.ensures.unmet.0 c.in-Some.ensures.unmet.1
    c.in_ok-open_node-in-Some.ensures.met c.in-Some.ensures.height c.in_ok-open_node-in-Some.ensures.pushed in
    omega (arith, falls, ap (count_by not) c.in-Some.ensures.seen)

pub steps-preserved-in-Continue-1 : goal.steps-preserved-in-Continue-1
steps-preserved-in-Continue-1 g c =
    let opened : (roots : List ℕ)
    → IsUnderWay (g.O.Opener.lists c.args.opener.now) roots c.steps.search.seen (lists_of c.steps.groups.items) false c.steps.search.stack
    → IsUnderWay (g.O.Opener.lists c.args.opener.now) roots c.open_node.new.search.seen (lists_of c.steps.groups.items) false c.open_node.new.search.stack = λ roots way.
    let open_way : IsUnderWay (g.O.Opener.lists c.args.opener.now) roots c.next_unmet.new.search.seen (lists_of c.steps.groups.items) true c.next_unmet.new.search.stack =
    c.in-Some.ensures.under_way (g.O.Opener.lists c.args.opener.now) roots (lists_of c.steps.groups.items) way in
    way_open open_way c.in-Some.node (get_or (g.O.Opener.lists c.args.opener.now) c.in-Some.node []) c.open_node.new.search.stack c.open_node.new.search.seen
    c.in-Some.ensures.unmet.0 c.in-Some.ensures.unmet.1 c.in_ok-open_node-in-Some.ensures.pushed c.in_ok-open_node-in-Some.ensures.met
    (c.in_ok-open_node-in-Some.ensures.good roots open_way.finished open_way.good
    (λ none. absurd (long_from_tall open_way.good.shaped c.in-Some.ensures.last.some none))) in
    record {
      some_way = (c.steps.invariant.some_way.0, opened c.steps.invariant.some_way.0 c.steps.invariant.some_way.1);
      stays = λ v mark.
          let P : List Bool → Type 0 = λ seen. IsSeen seen v in
          stays_seen c.next_unmet.new.search.seen c.open_node.new.search.seen c.in-Some.node v c.in-Some.ensures.unmet.0
          c.in_ok-open_node-in-Some.ensures.met (subst P (sym c.in-Some.ensures.seen) (c.steps.invariant.stays v mark));
      every_way = λ roots way. opened roots (c.steps.invariant.every_way roots way);
    }

pub steps-preserved : goal.steps-preserved
steps-preserved g c =
    let ended : (roots : List ℕ)
    → IsUnderWay (g.O.Opener.lists c.args.opener.now) roots c.steps.search.seen (lists_of c.steps.groups.items) false c.steps.search.stack
    → IsUnderWay (g.O.Opener.lists c.args.opener.now) roots c.finish_top.new.search.seen (lists_of c.finish_top.new.groups.items) false c.finish_top.new.search.stack = λ roots way.
    let Q : List Bool → Type 0 = λ seen.
    IsUnderWay (g.O.Opener.lists c.args.opener.now) roots seen (lists_of c.finish_top.new.groups.items) false c.finish_top.new.search.stack in
    subst Q (sym c.in_ok-finish_top-in-None.ensures.seen)
    (c.in_ok-finish_top-in-None.ensures.under_way (g.O.Opener.lists c.args.opener.now) roots c.next_unmet.new.search.seen
    (c.in-None.ensures.under_way (g.O.Opener.lists c.args.opener.now) roots (lists_of c.steps.groups.items) way)) in
    record {
      some_way = (c.steps.invariant.some_way.0, ended c.steps.invariant.some_way.0 c.steps.invariant.some_way.1);
      stays = λ v mark.
          let R : List Bool → Type 0 = λ seen. IsSeen seen v in
          subst R (sym c.in_ok-finish_top-in-None.ensures.seen) (subst R (sym c.in-None.ensures.seen) (c.steps.invariant.stays v mark));
      every_way = λ roots way. ended roots (c.steps.invariant.every_way roots way);
    }
