use Rattle.std.proofs.Common.{◌≡◌, ◌++◌, List, IsPermutation, drop, length, map, take, ap, sym, ◌∙◌, subst, arith, rules}
use Rattle.std.specs.List.{flat_map}
use Rattle.std.specs.List.Sorted.{IsNonDecreasingBy}
use Rattle.std.proofs.lemmas.List.{take-append-le, take_all}
use Rattle.std.proofs.lemmas.List.Sorted.{IsNonDecreasingBy-from_sort_by_key, IsPermutation-map}
use Rattle.call_edges.specs.FileOrder.{AreStarts, see_start, start_in}
use Rattle.call_edges.specs.declared.starts.Start.{Start}
use Rattle.call_edges.proofs.starts.starts_in_order.Goals as goal

pub returns-clause-starts : goal.returns-clause-starts
returns-clause-starts g c =
    let seen = c.args.program.now in
    let nodes = c.args.nodes.now in
    let each = c.in_ok-each.each.items in
    let starts = c.in_ok-starts.starts.items in
    let sorted = c.par_sort_unstable_by_key.new.s in
    let count = c.in_ok-starts.starts.ok.0 in
    let long : length sorted ≡ length starts = c.par_sort_unstable_by_key.ensures.len ∙ ap length c.deref_mut.ensures.value in
    let written : take c.in_ok-starts.starts.len (sorted ++ drop (length sorted) starts) ≡ sorted =
    take-append-le c.in_ok-starts.starts.len sorted (drop (length sorted) starts) (omega (arith, long, count)) ∙ take_all c.in_ok-starts.starts.len sorted (omega (arith, long, count)) in
    let is : starts ≡ flat_map (λ list. list.items) each = c.in_ok-starts.ensures ∙ ap (flat_map (λ list. list.items)) c.deref.ensures.value in
    let moved : IsPermutation starts sorted = subst (λ (xs : List Start). IsPermutation xs sorted) c.deref_mut.ensures.value c.par_sort_unstable_by_key.ensures.permutation in
    let are : AreStarts seen nodes starts = subst (AreStarts seen nodes) (sym is) c.in_ok-each.ensures in
    subst (λ (xs : List Start). IsPermutation (map (start_in seen) nodes) (map see_start xs)) (sym written)
    (subst (λ ps. IsPermutation ps (map see_start sorted)) are (IsPermutation-map see_start starts sorted moved))

pub returns-clause-ascending : goal.returns-clause-ascending
returns-clause-ascending g c =
    let starts = c.in_ok-starts.starts.items in
    let sorted = c.par_sort_unstable_by_key.new.s in
    let count = c.in_ok-starts.starts.ok.0 in
    let long : length sorted ≡ length starts = c.par_sort_unstable_by_key.ensures.len ∙ ap length c.deref_mut.ensures.value in
    let written : take c.in_ok-starts.starts.len (sorted ++ drop (length sorted) starts) ≡ sorted =
    take-append-le c.in_ok-starts.starts.len sorted (drop (length sorted) starts) (omega (arith, long, count)) ∙ take_all c.in_ok-starts.starts.len sorted (omega (arith, long, count)) in
    subst (IsNonDecreasingBy (λ (s : Start). s.place)) (sym written)
    (IsNonDecreasingBy-from_sort_by_key (λ (s : Start). s.place) sorted c.par_sort_unstable_by_key.ensures.sorted (λ a r f' called. search rules))
