use Rattle.std.proofs.Common.{subst}
use Rattle.graph_law.specs.Graph.{lists_of}
use Rattle.effect_flow.specs.Flows.{AreFound}
use Rattle.effect_flow.specs.Seen.{see_flows}
use Rattle.effect_flow.proofs.Pieces.{piece_same}
use Rattle.effect_flow.proofs.heights.piece.Goals as goal

pub returns : goal.returns
returns g c =
    subst (λ places. AreFound (g.O.Opener.lists c.args.grouped.now.opener.now) c.args.grouped.now.own.now (lists_of c.args.grouped.now.groups.now) places (see_flows c.push_flows.new.found.items))
    (piece_same c.args.stretch.now c.args.number c.min.result c.min.ensures) c.in_ok-push_flows.ensures
