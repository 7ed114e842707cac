use Rattle.std.proofs.Common.{◌≡◌, ◌⊎◌, ℕ, take, get_or, Some, subst}
use Rattle.std.proofs.lemmas.List.{take_all, take_more}
use Rattle.effect_flow.specs.Carriers.{IsFirst, first_at, flow_at}
use Rattle.effect_flow.specs.Flows.{IsOfCallee}
use Rattle.effect_flow.specs.Seen.{see_flow, see_flows}
use Rattle.effect_flow.proofs.Found.{callee_more, callee_none, callee_skip}
use Rattle.effect_flow.proofs.carriers.with_callees.Goals as goal

pub loop-callee-init : goal.loop-callee-init
loop-callee-init c = λ kind low. callee_none c.args.places.now c.args.place (see_flows c.args.flows.now) kind (first_at (see_flow c.args.start) kind)

pub loop-callee-preserved-then-other-place : goal.loop-callee-preserved-then-other-place
loop-callee-preserved-then-other-place c = λ kind low.
    let n : ℕ = c.loop-callee.callee-index in
    let callee : ℕ = get_or c.args.callees.now n 0 in
    rw (take_more c.args.callees.now n 0 c.loop-callee-test.true)
    (callee_skip (λ q. first_at (see_flow c.args.start) kind ≡ Some q) c.args.places.now c.args.place (see_flows c.args.flows.now) kind
    (take n c.args.callees.now) callee (first_at (see_flow c.loop-callee.flow) kind) c.if-other-place.true (c.loop-callee.invariant kind low))

pub loop-callee-preserved : goal.loop-callee-preserved
loop-callee-preserved c = λ kind low.
    let n : ℕ = c.loop-callee.callee-index in
    let callee : ℕ = get_or c.args.callees.now n 0 in
    let before = first_at (see_flow c.loop-callee.flow) kind in
    let after = first_at (see_flow c.lesser-flow.result) kind in
    let more : IsFirst (λ q. (before ≡ Some q) ⊎ (first_at (flow_at (see_flows c.args.flows.now) (get_or c.args.places.now callee 0)) kind ≡ Some q)) after =
    subst (λ flow. IsFirst (λ q. (before ≡ Some q) ⊎ (first_at flow kind ≡ Some q)) after) c.flow_there-carried.ensures (c.lesser-flow.ensures kind low) in
    rw (take_more c.args.callees.now n 0 c.loop-callee-test.true)
    (callee_more (λ q. first_at (see_flow c.args.start) kind ≡ Some q) c.args.places.now c.args.place (see_flows c.args.flows.now) kind
    (take n c.args.callees.now) callee before after c.if-other-place.false (c.loop-callee.invariant kind low) more)

pub returns : goal.returns
returns c = λ kind low.
    subst
    (λ callees. IsFirst (λ q. (first_at (see_flow c.args.start) kind ≡ Some q) ⊎ IsOfCallee c.args.places.now c.args.place (see_flows c.args.flows.now) kind callees q)
    (first_at (see_flow c.loop-callee.flow) kind))
    (take_all c.loop-callee.callee-index c.args.callees.now c.loop-callee-test.false) (c.loop-callee.invariant kind low)
