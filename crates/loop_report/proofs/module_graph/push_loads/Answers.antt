use Rattle.std.proofs.Common.{◌≡◌, ℕ, ◌+◌, ◌<◌, ◌≤◌, List, Some, slice_get, Contains, length, map, take, get_or, sym, subst, ◌∙◌, ap, arith}
use Rattle.std.proofs.lemmas.List.{get_or-map, length-map, take_all}
use Rattle.std.proofs.lemmas.Option.{slice_get_within, slice_get-get_or}
use Rattle.module_table.specs.declared.load.Load.{Load}
use Rattle.loop_report.specs.ModuleGraph.{AddsLoads, texts_of}
use Rattle.loop_report.proofs.ModuleCalls.{file_of, loads_more, loads_skip}
use Rattle.loop_report.proofs.module_graph.push_loads.Goals as goal

-- the name of the file of the load that is read
name_read : (loads : List Load) (i : ℕ) (load : Load) → i < length loads → load ≡ get_or loads i load → load.file ≡ get_or (map file_of loads) i load.file
name_read loads i load lt is = ap file_of is ∙ sym (get_or-map file_of loads i load load.file lt)

pub loop-load-preserved-in_default : goal.loop-load-preserved-in_default
loop-load-preserved-in_default c =
    let loads = c.args.loads.now in
    let i : ℕ = c.loop-load.load-index in
    let load = c.load-item.result in
    let lt : i < length (map file_of loads) = omega (arith, c.loop-load-test.true, length-map loads file_of) in
    loads_skip (texts_of c.args.names.now) c.args.places.now (map file_of loads) c.args.callees.now.items c.loop-load.callees.items i load.file lt
    (name_read loads i load c.loop-load-test.true c.load-item.is)
    (λ has. c.in_default.ensures (subst (Contains (texts_of c.args.names.now)) (sym c.as_str.ensures) has)) c.loop-load.invariant

pub bounds-places-file : goal.bounds-places-file
bounds-places-file c =
    omega (
      arith,
      slice_get_within (texts_of c.args.names.now) c.in-Some.file c.as_str.result.now c.in-Some.ensures,
      length-map c.args.names.now (λ text. text.now),
      c.requires.as_many,
    )

pub loop-load-preserved : goal.loop-load-preserved
loop-load-preserved c =
    let loads = c.args.loads.now in
    let names = texts_of c.args.names.now in
    let places = c.args.places.now in
    let i : ℕ = c.loop-load.load-index in
    let load = c.load-item.result in
    let lt : i < length (map file_of loads) = omega (arith, c.loop-load-test.true, length-map loads file_of) in
    let at : slice_get names c.in-Some.file ≡ Some load.file = c.in-Some.ensures ∙ ap (λ x. Some x) c.as_str.ensures in
    let within : c.in-Some.file < length places =
    omega (arith, slice_get_within names c.in-Some.file load.file at, length-map c.args.names.now (λ text. text.now), c.requires.as_many) in
    subst (λ new. AddsLoads names places (take (i + 1) (map file_of loads)) c.args.callees.now.items new) (sym c.in_ok-push.ensures.items)
    (loads_more names places (map file_of loads) c.args.callees.now.items c.loop-load.callees.items i c.in-Some.file (get_or places c.in-Some.file 0) load.file
    c.requires.rising lt (name_read loads i load c.loop-load-test.true c.load-item.is) at (slice_get-get_or places c.in-Some.file 0 within) c.loop-load.invariant)

pub returns : goal.returns
returns c =
    let loads = c.args.loads.now in
    let past : length (map file_of loads) ≤ c.loop-load.load-index = omega (arith, c.loop-load-test.false, length-map loads file_of) in
    subst (λ names. AddsLoads (texts_of c.args.names.now) c.args.places.now names c.args.callees.now.items c.loop-load.callees.items)
    (take_all c.loop-load.load-index (map file_of loads) past) c.loop-load.invariant
