use Rattle.std.proofs.Common.{◌≡◌, ℕ, ◌+◌, ◌<◌, ◌≤◌, [], length, map, take, get_or, sym, subst, ◌∙◌, ap, arith}
use Rattle.std.proofs.lemmas.Grind.{get_or_default_zero}
use Rattle.std.proofs.lemmas.List.{get_or-map, length-map, map-set, take_all}
use Rattle.std.proofs.lemmas.Simd.{map-map}
use Rattle.graph_law.specs.Graph.{lists_of}
use Rattle.graph_law.proofs.GraphLaws.{length-lists_of, get_or-lists_of}
use Rattle.module_table.specs.declared.file_facts.FileFacts.{FileFacts}
use Rattle.module_table.specs.Said.{Loads, see_load}
use Rattle.module_table.specs.Facts.{Facts, see_facts}
use Rattle.loop_report.specs.ModuleGraph.{AddsLoads, file_names, texts_of}
use Rattle.loop_report.proofs.ModuleCalls.{AreListsOf, file_of, place_within, files_more, files_done}
use Rattle.loop_report.proofs.module_graph.load_lists.Goals as goal

pub index_mut-requires : goal.index_mut-requires
index_mut-requires c =
    let facts = map see_facts c.args.files.now in
    let modules = texts_of c.args.modules.now in
    let file : ℕ = c.loop-file.file in
    let places = c.in_ok-places.places.items in
    let lt : file < length facts = omega (arith, c.loop-file-test.true, length-map c.args.files.now see_facts) in
    let inside : file < length places = omega (arith, lt, c.in_ok-places.ensures.each) in
    let own_is : c.index.result.now ≡ get_or places file 0 = c.index.ensures ∙ get_or_default_zero places file c.index.result.now inside in
    omega (
      arith,
      own_is,
      place_within facts modules places file lt c.in_ok-places.ensures,
      c.loop-file.invariant.each,
      length-lists_of c.loop-file.lists.items,
      c.loop-file.lists.ok.0,
    )

pub loop-file-preserved : goal.loop-file-preserved
loop-file-preserved c =
    let files = c.args.files.now in
    let facts = map see_facts files in
    let modules = texts_of c.args.modules.now in
    let file : ℕ = c.loop-file.file in
    let one = c.index-files-file.result in
    let user : Facts = see_facts one in
    let places = c.in_ok-places.places.items in
    let before = c.loop-file.lists.items in
    let own : ℕ = c.index.result.now in
    let new = c.push_loads.new.callees in
    let lt : file < length facts = omega (arith, c.loop-file-test.true, length-map files see_facts) in
    let inside : file < length places = omega (arith, lt, c.in_ok-places.ensures.each) in
    let own_is : own ≡ get_or places file 0 = c.index.ensures ∙ get_or_default_zero places file own inside in
    let within : own < length before =
    omega (
      arith,
      own_is,
      place_within facts modules places file lt c.in_ok-places.ensures,
      c.loop-file.invariant.each,
      length-lists_of before,
    ) in
    let user_is : user ≡ get_or facts file user = ap see_facts c.index-files-file.is ∙ sym (get_or-map see_facts files file one user c.loop-file-test.true) in
    let read = get_or-lists_of before own c.index_mut.result.now within c.index_mut.ensures.value in
    let loads : map file_of c.deref-in-loop-file-2.result.now ≡ map (λ (load : Loads). load.file) user.loads =
    ap (map file_of) (c.deref-in-loop-file-2.ensures.value ∙ ap (λ (f : FileFacts). f.loads.items) (sym c.index-files-file.is))
    ∙ sym (map-map (λ (load : Loads). load.file) see_load one.loads.items) in
    let names : texts_of c.deref.result.now ≡ file_names facts = ap texts_of c.deref.ensures.value ∙ c.in_ok-names.ensures in
    let adds : AddsLoads (file_names facts) places (map (λ (load : Loads). load.file) user.loads) (get_or (lists_of before) own []) new.items =
    subst (λ old. AddsLoads (file_names facts) places (map (λ (load : Loads). load.file) user.loads) old new.items) (sym read)
    (subst (λ ls. AddsLoads (file_names facts) places ls c.index_mut.result.now.items new.items) loads
    (subst (λ ps. AddsLoads (file_names facts) ps (map file_of c.deref-in-loop-file-2.result.now) c.index_mut.result.now.items new.items)
    c.deref-in-loop-file.ensures.value
    (subst (λ ns. AddsLoads ns c.deref-in-loop-file.result.now (map file_of c.deref-in-loop-file-2.result.now) c.index_mut.result.now.items new.items) names
    c.in_ok-push_loads.ensures))) in
    subst (AreListsOf (take (file + 1) facts) facts modules) (sym (map-set (λ vec. vec.items) before own new))
    (files_more facts modules places (lists_of before) new.items file own user c.requires.modules.in_order c.in_ok-places.ensures lt user_is own_is adds
    c.loop-file.invariant)

pub returns : goal.returns
returns c =
    let facts = map see_facts c.args.files.now in
    let modules = texts_of c.args.modules.now in
    let lists = lists_of c.loop-file.lists.items in
    let past : length facts ≤ c.loop-file.file = omega (arith, c.loop-file-test.false, length-map c.args.files.now see_facts) in
    files_done facts modules lists
    (subst (λ users. AreListsOf users facts modules lists) (take_all c.loop-file.file facts past) c.loop-file.invariant)
