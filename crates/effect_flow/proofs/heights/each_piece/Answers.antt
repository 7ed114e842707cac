use Rattle.std.proofs.Common.{◌≡◌, ℕ, ◌-◌, ◌∙◌, List, ap, subst, arith, IfOk}
use Rattle.std.specs.List.{AllZip, range_with_len}
use Rattle.rayon.specs.Numbers.{nat_range}
use Rattle.rayon.proofs.ListFacts.{IfOk-then}
use Rattle.rayon.proofs.ToStd.{nat_range-All}
use Rattle.graph_law.specs.Graph.{lists_of}
use Rattle.effect_flow.specs.Flows.{AreFound, IsAsked, piece_of}
use Rattle.effect_flow.specs.Seen.{see_flows}
use Rattle.effect_flow.proofs.Pieces.{pieces_of}
use Rattle.effect_flow.proofs.heights.each_piece.Goals as goal

pub returns : goal.returns
returns g c =
    let ends = c.into_par_iter.ensures in
    let lists : List (List ℕ) = g.O.Opener.lists c.args.grouped.now.opener.now in
    let groups : List (List ℕ) = lists_of c.args.grouped.now.groups.now in
    let stretch : List ℕ = c.args.stretch.now in
    let count = c.piece_count.result in
    let whole : count - 0 ≡ count = omega arith in
    IfOk-then c.collect.result _ _ c.collect.ensures (λ v h.
    let chain = rw (c.map.ensures.base, c.map.ensures.f, c.with_min_len.ensures.base) at h.1 in
    let places = chain.1 ∙ (λ i. nat_range (ends.0 i) (ends.1 i)) ∙ ap (range_with_len 0) whole in
    rw h.2
    (pieces_of lists c.args.grouped.now.own.now groups stretch h.0 count c.piece_count.ensures
    (subst
    (λ (xs : List ℕ). AllZip (λ number one. IfOk one (λ found. AreFound lists c.args.grouped.now.own.now groups (piece_of stretch number) (see_flows found.items))) xs h.0)
    places chain.2)))

pub collect-requires-clause-ready : goal.collect-requires-clause-ready
collect-requires-clause-ready g c κs within =
    let ends = c.into_par_iter.ensures in
    let lists : List (List ℕ) = g.O.Opener.lists c.args.grouped.now.opener.now in
    let groups : List (List ℕ) = lists_of c.args.grouped.now.groups.now in
    let stretch : List ℕ = c.args.stretch.now in
    let inside =
    nat_range-All (IsAsked lists c.args.grouped.now.own.now groups c.args.grouped.now.places.now (see_flows c.args.flows.now) stretch) 0 c.piece_count.result
    (λ i low high. record { ready = c.requires.ready; next = c.requires.next; within = (c.piece_count.ensures i).0 high }) in
    rw (c.map.ensures.base, c.map.ensures.f, c.with_min_len.ensures.base, ends.0, ends.1) (λ k d lt. ((inside k d lt, record { shared = c.type_bounds.sync-O.shared }), λ y p. tt))
