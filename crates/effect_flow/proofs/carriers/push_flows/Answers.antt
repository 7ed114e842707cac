use Rattle.std.proofs.Common.{◌≡◌, ℕ, List, [], ◌∷◌, ◌++◌, take, get_or, ap, subst, sym, ◌∙◌}
use Rattle.std.proofs.lemmas.List.{map_push, take_all, take_more}
use Rattle.graph_law.specs.Graph.{lists_of}
use Rattle.effect_flow.specs.Flows.{AreFound}
use Rattle.effect_flow.specs.Seen.{see_flow, see_flows}
use Rattle.effect_flow.proofs.Found.{found_append, found_none, found_one}
use Rattle.effect_flow.proofs.carriers.push_flows.Goals as goal

pub loop-place-init : goal.loop-place-init
loop-place-init g c =
    let lists : List (List ℕ) = g.O.Opener.lists c.args.grouped.now.opener.now in
    subst (λ found. AreFound lists c.args.grouped.now.own.now (lists_of c.args.grouped.now.groups.now) [] (see_flows found)) (sym c.requires.empty)
    (found_none lists c.args.grouped.now.own.now (lists_of c.args.grouped.now.groups.now))

pub loop-place-preserved : goal.loop-place-preserved
loop-place-preserved g c =
    let lists : List (List ℕ) = g.O.Opener.lists c.args.grouped.now.opener.now in
    let groups : List (List ℕ) = lists_of c.args.grouped.now.groups.now in
    let stretch : List ℕ = c.args.stretch.now in
    let n : ℕ = c.loop-place.place-index in
    let flow = c.in_ok-flow.flow in
    let seen : see_flows c.push.new.self.items ≡ see_flows c.loop-place.found.items ++ see_flow flow ∷ [] =
    ap see_flows c.in_ok-push.ensures.items ∙ map_push see_flow c.loop-place.found.items flow in
    rw (take_more stretch n 0 c.loop-place-test.true, seen)
    (found_append lists c.args.grouped.now.own.now groups (take n stretch) (get_or stretch n 0 ∷ []) (see_flows c.loop-place.found.items) (see_flow flow ∷ [])
    c.loop-place.invariant (found_one lists c.args.grouped.now.own.now groups (get_or stretch n 0) (see_flow flow) c.in_ok-flow.ensures))

pub returns : goal.returns
returns g c =
    let lists : List (List ℕ) = g.O.Opener.lists c.args.grouped.now.opener.now in
    subst (λ places. AreFound lists c.args.grouped.now.own.now (lists_of c.args.grouped.now.groups.now) places (see_flows c.loop-place.found.items))
    (take_all c.loop-place.place-index c.args.stretch.now c.loop-place-test.false) c.loop-place.invariant
