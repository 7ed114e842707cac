use Rattle.std.proofs.Common.{ℕ, List, map, ap, sym, ◌∙◌, subst}
use Rattle.std.proofs.lemmas.Bool.{false≢true}
use Rattle.module_table.specs.declared.indicator.Indicator.{Indicator}
use Rattle.module_table.specs.Facts.{see_facts}
use Rattle.file_library.specs.Loaded.{LoadedFiles}
use Rattle.call_edges.specs.Goals.{Adds}
use Rattle.call_edges.specs.Calls.{IsAmong}
use Rattle.call_edges.proofs.AddsLemmas.{adds_as, adds_nothing}
use Rattle.call_edges.proofs.AmongLemmas.{among_more, among_all}
use Rattle.call_edges.proofs.RootLemmas.{IsExport}
use Rattle.call_edges.proofs.RootReasons.{IsModuleExport, exported_go}
use Rattle.call_edges.proofs.root_reasons.push_exported.Goals as goal

pub loop-file-preserved-then-not-file : goal.loop-file-preserved-then-not-file
loop-file-preserved-then-not-file c =
    let seen = c.args.program.now in
    let file = c.file-item.result in
    let nodes = c.loop-file.nodes.items in
    among_more (IsModuleExport seen) c.deref-file-items.result.now c.loop-file.file-index file c.args.nodes.now.items nodes nodes c.loop-file-test.true
    c.file-item.is c.loop-file.invariant
    (adds_nothing (IsModuleExport seen file) nodes (λ q given. false≢true (sym c.if-not-file.true ∙ given.declared)))

pub loop-file-preserved : goal.loop-file-preserved
loop-file-preserved c =
    let seen = c.args.program.now in
    let file = c.file-item.result in
    let nodes = c.loop-file.nodes.items in
    let new = c.push_exports.new.roots.items in
    let Q : List ℕ → List Indicator → Type 0 = λ owner exports. Adds (IsAmong (IsExport seen owner) exports) nodes new in
    let adds : Q file.module file.exports.items =
    subst (Q file.module) c.deref.ensures.value (subst (λ owner. Q owner c.deref.result.now) c.as_str.ensures c.in_ok-push_exports.ensures) in
    among_more (IsModuleExport seen) c.deref-file-items.result.now c.loop-file.file-index file c.args.nodes.now.items nodes new c.loop-file-test.true
    c.file-item.is c.loop-file.invariant
    (adds_as (IsAmong (IsExport seen file.module) file.exports.items) (IsModuleExport seen file) nodes new
    (λ q gives. record { declared = c.if-not-file.false; gives = gives }) (λ q given. given.gives) adds)

pub returns : goal.returns
returns c =
    let seen = c.args.program.now in
    let items = c.deref-file-items.result.now in
    exported_go seen items seen.loaded.files c.args.nodes.now.items c.loop-file.nodes.items
    (ap (map see_facts) c.deref-file-items.ensures.value ∙ ap (λ (l : LoadedFiles). l.files) (sym c.loaded-loaded.ensures))
    (among_all (IsModuleExport seen) items c.loop-file.file-index c.args.nodes.now.items c.loop-file.nodes.items c.loop-file-test.false c.loop-file.invariant)
