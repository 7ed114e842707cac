use Rattle.std.proofs.Common.{◌≡◌, ℕ, ◌+◌, [], ◌∷◌, ◌++◌, Some, Contains, map, take, get_or, sym, subst, ◌∙◌, ap, arith}
use Rattle.std.proofs.lemmas.List.{get_or-map, length-map, map_push, take_more}
use Rattle.module_table.specs.Facts.{Facts, see_facts}
use Rattle.loop_report.specs.ModuleGraph.{AreModulePlaces, texts_of}
use Rattle.loop_report.proofs.ModuleCalls.{places_more}
use Rattle.loop_report.proofs.modules.module_places.Goals as goal

pub unreachable-requires : goal.unreachable-requires
unreachable-requires c =
    let files = c.args.files.now in
    let i : ℕ = c.loop-file.file-index in
    let file = c.file-item.result in
    let read : get_or (map see_facts files) i (see_facts file) ≡ see_facts file =
    get_or-map see_facts files i file (see_facts file) c.loop-file-test.true ∙ ap see_facts (sym c.file-item.is) in
    c.in_default.ensures
    (subst (Contains (texts_of c.args.modules.now)) (ap (λ (f : Facts). f.module_) read ∙ sym c.as_str.ensures)
    (c.requires.modules.all i (see_facts file) (omega (arith, c.loop-file-test.true, length-map files see_facts))))

pub loop-file-preserved : goal.loop-file-preserved
loop-file-preserved c =
    let files = c.args.files.now in
    let i : ℕ = c.loop-file.file-index in
    let file = c.file-item.result in
    let modules = texts_of c.args.modules.now in
    let behind : map see_facts (take (i + 1) files) ≡ map see_facts (take i files) ++ see_facts file ∷ [] =
    ap (map see_facts) (take_more files i file c.loop-file-test.true ∙ ap (λ x. take i files ++ x ∷ []) (sym c.file-item.is))
    ∙ map_push see_facts (take i files) file in
    subst (λ fs. AreModulePlaces fs modules c.push.new.self.items) (sym behind)
    (subst (AreModulePlaces (map see_facts (take i files) ++ see_facts file ∷ []) modules) (sym c.in_ok-push.ensures.items)
    (places_more (map see_facts (take i files)) modules c.loop-file.places.items (see_facts file) c.in-Some.place
    (c.in-Some.ensures ∙ ap (λ x. Some x) c.as_str.ensures) c.loop-file.invariant))
