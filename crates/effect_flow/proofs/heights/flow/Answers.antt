use Rattle.std.proofs.Common.{sym, subst}
use Rattle.graph_law.specs.Graph.{lists_of}
use Rattle.graph_law.specs.CallOrder.{AreApart}
use Rattle.effect_flow.proofs.Stretches.{apart_of}
use Rattle.effect_flow.proofs.heights.flow.Goals as goal

pub group_places-requires : goal.group_places-requires
group_places-requires g c =
    subst (λ count. AreApart count (lists_of c.args.groups.now)) (sym c.count.ensures.count) (apart_of c.requires.legal c.requires.nodes)
