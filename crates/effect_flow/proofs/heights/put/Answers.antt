use Rattle.std.proofs.Common.{◌≡◌, ℕ, ◌<◌, List, take, set, get_or, length, ap, subst, sym, ◌∙◌, arith}
use Rattle.std.proofs.lemmas.List.{length-map, length-take-le, map-set, take_all, take_more}
use Rattle.effect_flow.specs.Carriers.{flow_at}
use Rattle.effect_flow.specs.Flows.{IsPut}
use Rattle.effect_flow.specs.Seen.{see_flow, see_flows}
use Rattle.effect_flow.proofs.Pieces.{put_more, put_none}
use Rattle.effect_flow.proofs.heights.put.Goals as goal

pub loop-k-init : goal.loop-k-init
loop-k-init c = put_none (see_flows c.args.found.now) (see_flows c.args.flows.now)

pub loop-k-preserved : goal.loop-k-preserved
loop-k-preserved c =
    let stretch = c.args.stretch.now in
    let n : ℕ = c.loop-k.k in
    let place : ℕ = get_or stretch n 0 in
    let first : List ℕ = take n stretch in
    let long : length first ≡ n = length-take-le n stretch (omega (arith, c.loop-k-test.true)) in
    let old = see_flows c.args.flows.now in
    let low : place < length old = omega (arith, c.requires.within n 0 c.loop-k-test.true, length-map c.args.flows.now see_flow) in
    let flow = c.flow_there-flow.result in
    let is : see_flows (set c.loop-k.flows place flow) ≡ set (see_flows c.loop-k.flows) place (flow_at (see_flows c.args.found.now) (length first)) =
    map-set see_flow c.loop-k.flows place flow
    ∙ ap (λ one. set (see_flows c.loop-k.flows) place one) (c.flow_there-flow.ensures ∙ ap (flow_at (see_flows c.args.found.now)) (sym long)) in
    rw (take_more stretch n 0 c.loop-k-test.true, is)
    (put_more first place (see_flows c.args.found.now) old (see_flows c.loop-k.flows) low c.loop-k.invariant)

pub returns : goal.returns
returns c =
    subst (λ places. IsPut places (see_flows c.args.found.now) (see_flows c.args.flows.now) (see_flows c.loop-k.flows))
    (take_all c.loop-k.k c.args.stretch.now c.loop-k-test.false) c.loop-k.invariant
