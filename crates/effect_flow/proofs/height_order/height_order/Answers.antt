use Rattle.std.proofs.Common.{◌≡◌, [], ◌∷◌, ◌++◌, drop, length, map, sym, subst, ap, ◌∙◌, arith}
use Rattle.std.specs.List.{range_with_len}
use Rattle.std.proofs.lemmas.List.{take-append-le, take_all}
use Rattle.std.proofs.lemmas.List.FromFn.{map-range_with_len_more}
use Rattle.rayon.proofs.ListFacts.{IfOk-then}
use Rattle.effect_flow.specs.Heights.{AreByHeight}
use Rattle.effect_flow.proofs.ByHeight.{by_height, stand_at, stand_places}
use Rattle.effect_flow.proofs.height_order.height_order.Goals as goal

pub loop-place-preserved : goal.loop-place-preserved
loop-place-preserved g c =
    let levels = c.args.levels.now in
    let place = c.loop-place.place in
    c.in_ok-push.ensures.items ∙ ap (λ stands. stands ++ (stand_at levels place ∷ [])) c.loop-place.invariant
    ∙ sym (map-range_with_len_more (stand_at levels) 0 place place (omega arith))

pub returns : goal.returns
returns g c =
    let levels = c.args.levels.now in
    let end : c.loop-place.place ≡ length levels = omega (arith, c.loop-place-test.false, c.loop-place.auto.place-end) in
    IfOk-then c.places_in.result _ _ c.places_in.ensures (λ order is.
    let sorted = c.par_sort_unstable.new.s in
    let long : length sorted ≡ length c.loop-place.stands.items = c.par_sort_unstable.ensures.len ∙ ap length c.deref_mut.ensures.value in
    let count = c.loop-place.stands.ok.0 in
    let written =
    take-append-le c.loop-place.stands.len sorted (drop (length sorted) c.loop-place.stands.items) (omega (arith, long, count))
    ∙ take_all c.loop-place.stands.len sorted (omega (arith, long, count)) in
    subst (AreByHeight levels) (sym (is ∙ ap stand_places (c.deref.ensures.value ∙ written)))
    (by_height levels c.loop-place.stands.items sorted
    (c.loop-place.invariant ∙ ap (λ n. map (stand_at levels) (range_with_len 0 n)) end)
    (rw (c.deref_mut.ensures.value) at c.par_sort_unstable.ensures.permutation) c.par_sort_unstable.ensures.sorted))
