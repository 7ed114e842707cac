use Rattle.std.proofs.Common.{◌<◌, length, refl, sym, ◌∙◌, arith}
use Rattle.std.specs.Prelude.{Contains}
use Rattle.std.proofs.lemmas.Bool.{false≢true}
use Rattle.loop_paths.proofs.Climbing.{read_is}
use Rattle.loop_paths.proofs.Searching.{node_within, callees_within, as_read}
use Rattle.loop_paths.proofs.breadth.grow.Goals as goal

pub open-requires-after_bounds : goal.open-requires-after_bounds
open-requires-after_bounds g c κs within =
    let nodes = c.loop-place.tree.nodes.items in
    let lt : c.loop-place.place < length nodes = omega (arith, c.loop-place-test.true, c.len.ensures) in
    let is = read_is nodes c.loop-place.place c.index.result.now lt c.index.ensures in
    let inside = node_within nodes c.loop-place.seen c.loop-place.place c.loop-place.invariant.some.1.seen_are lt in
    let each = c.loop-place.invariant.each in
    omega (arith, is, inside, each, c.requires.each)

pub returns-then-has-clause-found : goal.returns-then-has-clause-found
returns-then-has-clause-found g c = λ from begun.
    let nodes = c.loop-place.tree.nodes.items in
    let lists = g.O.Opener.lists c.args.opener.now in
    let lt : c.loop-place.place < length nodes = omega (arith, c.loop-place-test.true, c.len.ensures) in
    let is = read_is nodes c.loop-place.place c.index.result.now lt c.index.ensures in
    let are = as_read lists nodes c.open.new.callees.items c.deref.result.now c.loop-place.place c.index.result.now is c.deref.ensures.value c.in_ok-open.ensures.calls in
    (c.loop-place.invariant.grown from begun, lt, (are c.args.to).0 (c.if-has.ensures.0 refl))

pub meet-requires-clause-below : goal.meet-requires-clause-below
meet-requires-clause-below g c =
    let lists = g.O.Opener.lists c.args.opener.now in
    rw c.deref-in-loop-place.ensures.value
    (callees_within lists c.index.result.now (length c.loop-place.seen) c.open.new.callees.items c.count-count.ensures.closed
    (sym (c.loop-place.invariant.each ∙ c.requires.each)) c.in_ok-open.ensures.calls)

pub loop-place-preserved : goal.loop-place-preserved
loop-place-preserved g c =
    let nodes = c.loop-place.tree.nodes.items in
    let lists = g.O.Opener.lists c.args.opener.now in
    let lt : c.loop-place.place < length nodes = omega (arith, c.loop-place-test.true, c.len.ensures) in
    let is = read_is nodes c.loop-place.place c.index.result.now lt c.index.ensures in
    let are = as_read lists nodes c.open.new.callees.items c.deref-in-loop-place.result.now c.loop-place.place c.index.result.now is c.deref-in-loop-place.ensures.value c.in_ok-open.ensures.calls in
    let none : Contains c.deref-in-loop-place.result.now c.args.to → ⊥ =
    λ has. false≢true (c.if-has.ensures.1 (rw (c.deref.ensures.value ∙ sym c.deref-in-loop-place.ensures.value) has)) in
    record {
      each = c.in_ok-meet.ensures.each ∙ c.loop-place.invariant.each;
      some = (
        c.loop-place.invariant.some.0,
        c.in_ok-meet.ensures.grown lists c.loop-place.invariant.some.0 c.args.to c.loop-place.invariant.some.1 lt are none,
      );
      grown = λ from begun. c.in_ok-meet.ensures.grown lists from c.args.to (c.loop-place.invariant.grown from begun) lt are none;
    }
