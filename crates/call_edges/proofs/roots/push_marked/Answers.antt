use Rattle.std.proofs.Common.{◌≡◌, ◌<◌, ℕ, List, false, length, get_or, sym, subst, refl, arith}
use Rattle.std.specs.Prelude.{Contains}
use Rattle.std.proofs.lemmas.Bool.{false≢true}
use Rattle.std.proofs.lemmas.List.Elements.{Contains-get_or}
use Rattle.std.proofs.lemmas.Option.{slice_get_within}
use Rattle.call_edges.specs.Roots.{IsDefinedByRoot, HasMarked}
use Rattle.call_edges.specs.Calls.{IsAmong}
use Rattle.call_edges.proofs.AddsLemmas.{adds_nothing}
use Rattle.call_edges.proofs.BodyLemmas.{places_there}
use Rattle.call_edges.proofs.PlainRoots.{none_below, below_more, all_below, marked_is, marks_count, adds_one}
use Rattle.call_edges.proofs.RootLemmas.{given_below}
use Rattle.call_edges.proofs.roots.push_marked.Goals as goal

pub is_marked-requires : goal.is_marked-requires
is_marked-requires c = λ k d lt.
    let seen = c.args.program.now in
    let places = c.places_of.result.now in
    let at = get_or places k d in
    let is = places_there seen c.loop-node.node at (subst (λ (ps : List (ℕ × ℕ)). Contains ps at) c.places_of.ensures (Contains-get_or places k d lt)) in
    omega (arith, slice_get_within seen.loaded.files at.0 is.file is.at_place, marks_count seen c.args.marks.now c.requires)

pub loop-node-init : goal.loop-node-init
loop-node-init c = none_below c.args.program.now c.args.roots.now.items

pub loop-node-preserved-then-not-is_marked : goal.loop-node-preserved-then-not-is_marked
loop-node-preserved-then-not-is_marked c =
    let seen = c.args.program.now in
    let node = c.loop-node.node in
    let roots = c.loop-node.roots.items in
    let marks = c.args.marks.now in
    let below : node < length seen.predicates = omega (arith, c.loop-node-test.true, c.count-node-end.ensures) in
    below_more seen node c.args.roots.now.items roots roots c.loop-node.invariant
    (adds_nothing (λ q. (q ≡ node) × IsAmong (IsDefinedByRoot seen) seen.loaded.files q) roots
    (λ q is. false≢true
    (c.if-not-is_marked.ensures.1
    (subst (HasMarked marks) (sym c.places_of.ensures)
    ((marked_is seen marks c.is_known.ensures c.requires node below).1 (subst (λ k. IsAmong (IsDefinedByRoot seen) seen.loaded.files k) is.0 is.1))))))

pub loop-node-preserved : goal.loop-node-preserved
loop-node-preserved c =
    let seen = c.args.program.now in
    let node = c.loop-node.node in
    let roots = c.loop-node.roots.items in
    let marks = c.args.marks.now in
    let below : node < length seen.predicates = omega (arith, c.loop-node-test.true, c.count-node-end.ensures) in
    let is = (marked_is seen marks c.is_known.ensures c.requires node below).0 (subst (HasMarked marks) c.places_of.ensures (c.if-not-is_marked.ensures.0 refl)) in
    below_more seen node c.args.roots.now.items roots c.push.new.self.items c.loop-node.invariant
    (adds_one (IsAmong (IsDefinedByRoot seen) seen.loaded.files) roots c.push.new.self.items node c.in_ok-push.ensures.items is)

pub returns : goal.returns
returns c =
    let seen = c.args.program.now in
    all_below seen c.loop-node.node c.args.roots.now.items c.loop-node.roots.items
    (λ q among. omega (arith, given_below seen among.one false q among.is.1, c.loop-node-test.false, c.count-node-end.ensures)) c.loop-node.invariant
