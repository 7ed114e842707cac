use Rattle.std.proofs.Common.{◌≡◌, ◌++◌, ◌∷◌, [], map, ap, sym, ◌∙◌, subst}
use Rattle.std.proofs.lemmas.List.{map-append}
use Rattle.call_edges.specs.Goals.{Adds}
use Rattle.call_edges.specs.Called.{see_called}
use Rattle.call_edges.proofs.AmongLemmas.{among_next, among_all}
use Rattle.call_edges.proofs.CallLemmas.{adds_given, adds_not}
use Rattle.call_edges.proofs.UnresolvedLemmas.{IsKeptName, names_kept}
use Rattle.call_edges.proofs.unresolved.push_unresolved.Goals as goal

pub loop-one-preserved-in_default : goal.loop-one-preserved-in_default
loop-one-preserved-in_default c =
    let seen = c.args.program.now in
    let names = map see_called c.loop-one.names.items in
    among_next (IsKeptName seen) c.args.met.now c.loop-one.one-index _ (map see_called c.args.names.now.items) names names c.loop-one-test.true c.loop-one.invariant
    (adds_not _ names (sym c.in_default.ensures))

pub loop-one-preserved : goal.loop-one-preserved
loop-one-preserved c =
    let seen = c.args.program.now in
    let names = map see_called c.loop-one.names.items in
    let new = map see_called c.push.new.self.items in
    let is : new ≡ names ++ see_called c.in-Some.called ∷ [] = ap (map see_called) c.in_ok-push.ensures.items ∙ map-append see_called c.loop-one.names.items (c.in-Some.called ∷ []) in
    among_next (IsKeptName seen) c.args.met.now c.loop-one.one-index _ (map see_called c.args.names.now.items) names new c.loop-one-test.true c.loop-one.invariant
    (subst (Adds _ names) (sym is) (adds_given _ (see_called c.in-Some.called) names (sym c.in-Some.ensures)))

pub returns : goal.returns
returns c =
    let seen = c.args.program.now in
    let met = c.args.met.now in
    let old = map see_called c.args.names.now.items in
    let new = map see_called c.loop-one.names.items in
    names_kept seen met old new (among_all (IsKeptName seen) met c.loop-one.one-index old new c.loop-one-test.false c.loop-one.invariant)
