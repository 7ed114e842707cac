use Rattle.std.proofs.Common.{◌≡◌, ℕ, ◌≤◌, ◌++◌, List, length, take, drop, sym, ◌∙◌, ap, arith}
use Rattle.std.proofs.lemmas.List.{length-map, take_at}
use Rattle.effect_flow.specs.Seen.{see_flow}
use Rattle.effect_flow.proofs.Stretches.{all_next, right_done, right_more}
use Rattle.effect_flow.proofs.heights.flows_by_height.Goals as goal

pub add_flows-requires-clause-next : goal.add_flows-requires-clause-next
add_flows-requires-clause-next g c κs within =
    let order : List ℕ = c.in_ok-order.order.items in
    let long : length order ≡ c.len.result = (let len = c.len.ensures in let ok = c.in_ok-order.order.ok.0 in omega (arith, len, ok)) in
    let most : c.height_end-to.result ≤ length order = (let le = c.height_end-to.ensures.most in let is = ap length c.deref.ensures.value in omega (arith, le, is)) in
    let level = rw c.deref.ensures.value at c.height_end-to.ensures.level in
    rw (c.deref_mut.ensures.value, c.deref-in-loop-from.ensures.value)
    (all_next c.requires.leveled c.in_ok-order.ensures c.loop-from.invariant (omega (arith, c.loop-from-test.true, long)) most level)

pub loop-from-preserved : goal.loop-from-preserved
loop-from-preserved g c =
    let order : List ℕ = c.in_ok-order.order.items in
    let most : c.height_end-to.result ≤ length order = (let le = c.height_end-to.ensures.most in let is = ap length c.deref.ensures.value in omega (arith, le, is)) in
    let new = c.add_flows.new.flows in
    let old = c.loop-from.flows.items in
    let is = rw (c.deref_mut.ensures.value, c.deref-in-loop-from.ensures.value) at c.in_ok-add_flows.ensures in
    let same : length new ≡ length old = sym (length-map new see_flow) ∙ is.each ∙ length-map old see_flow in
    let whole : take c.loop-from.flows.len (new ++ drop (length new) old) ≡ new =
    take_at new (drop (length new) old) c.loop-from.flows.len (same ∙ sym c.loop-from.flows.ok.0) in
    rw whole (right_more c.loop-from.invariant most is)

pub returns : goal.returns
returns g c =
    let order : List ℕ = c.in_ok-order.order.items in
    let passed : length order ≤ c.loop-from.from =
    (let len = c.len.ensures in let ok = c.in_ok-order.order.ok.0 in omega (arith, len, ok, c.loop-from-test.false)) in
    right_done c.requires.leveled c.in_ok-order.ensures c.loop-from.invariant passed
