use Rattle.std.proofs.Common.{ℕ, List, subst, sym}
use Rattle.graph_law.specs.Graph.{lists_of}
use Rattle.effect_flow.specs.Flows.{AreFound}
use Rattle.effect_flow.specs.Seen.{see_flows}
use Rattle.effect_flow.proofs.Pieces.{added}
use Rattle.effect_flow.proofs.heights.add_flows.Goals as goal

pub returns : goal.returns
returns g c =
    let lists : List (List ℕ) = g.O.Opener.lists c.args.grouped.now.opener.now in
    let groups : List (List ℕ) = lists_of c.args.grouped.now.groups.now in
    let stretch : List ℕ = c.args.stretch.now in
    added lists c.args.grouped.now.own.now groups stretch (see_flows c.deref.result.now) (see_flows c.args.flows.now) (see_flows c.put.new.flows)
    (subst (λ found. AreFound lists c.args.grouped.now.own.now groups stretch (see_flows found)) (sym c.deref.ensures.value) c.in_ok-find.ensures)
    c.put.ensures
