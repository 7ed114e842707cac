use Rattle.std.proofs.Common.{◌≡◌, ℕ, List, map, ap, sym, ◌∙◌, subst, refl}
use Rattle.std.specs.Prelude.{Contains}
use Rattle.std.proofs.lemmas.Bool.{false≢true}
use Rattle.module_table.specs.declared.indicator.Indicator.{Indicator}
use Rattle.module_table.specs.Facts.{see_facts}
use Rattle.file_library.specs.Asked.{AreInOrder}
use Rattle.file_library.specs.Loaded.{LoadedFiles}
use Rattle.call_edges.specs.Goals.{Adds}
use Rattle.call_edges.specs.Calls.{IsAmong}
use Rattle.call_edges.proofs.AddsLemmas.{adds_as, adds_nothing}
use Rattle.call_edges.proofs.AmongLemmas.{among_more, among_all}
use Rattle.call_edges.proofs.RootLemmas.{IsExport}
use Rattle.call_edges.proofs.PlainRoots.{IsExportedBy, exported_go}
use Rattle.call_edges.proofs.roots.push_all_exports.Goals as goal

pub is_among-requires : goal.is_among-requires
is_among-requires c =
    let P : List (List ℕ) → Type 0 = λ names. AreInOrder names in
    subst P (ap (λ (l : LoadedFiles). l.roots) c.loaded-loaded.ensures ∙ sym c.deref.ensures.value) c.is_known.ensures.roots

pub loop-file-preserved-then-not-file : goal.loop-file-preserved-then-not-file
loop-file-preserved-then-not-file c =
    let seen = c.args.program.now in
    let file = c.file-item.result in
    let roots = c.loop-file.roots.items in
    among_more (IsExportedBy seen) c.deref-file-items.result.now c.loop-file.file-index file c.args.roots.now.items roots roots c.loop-file-test.true c.file-item.is c.loop-file.invariant
    (adds_nothing (IsExportedBy seen file) roots (λ q given. false≢true (sym c.if-not-file.true ∙ given.declared)))

pub loop-file-preserved-then-not-is_among : goal.loop-file-preserved-then-not-is_among
loop-file-preserved-then-not-is_among c =
    let seen = c.args.program.now in
    let file = c.file-item.result in
    let roots = c.loop-file.roots.items in
    let names : seen.loaded.roots ≡ c.deref.result.now = ap (λ (l : LoadedFiles). l.roots) c.loaded-loaded.ensures ∙ sym c.deref.ensures.value in
    among_more (IsExportedBy seen) c.deref-file-items.result.now c.loop-file.file-index file c.args.roots.now.items roots roots c.loop-file-test.true c.file-item.is c.loop-file.invariant
    (adds_nothing (IsExportedBy seen file) roots
    (λ q given. false≢true (c.if-not-is_among.ensures.1 (subst (λ (xs : List (List ℕ)). Contains xs file.file) names given.is_root))))

pub loop-file-preserved : goal.loop-file-preserved
loop-file-preserved c =
    let seen = c.args.program.now in
    let file = c.file-item.result in
    let roots = c.loop-file.roots.items in
    let new = c.push_exports.new.roots.items in
    let names : seen.loaded.roots ≡ c.deref.result.now = ap (λ (l : LoadedFiles). l.roots) c.loaded-loaded.ensures ∙ sym c.deref.ensures.value in
    let is_root = subst (λ (xs : List (List ℕ)). Contains xs file.file) (sym names) (c.if-not-is_among.ensures.0 refl) in
    let Q : List ℕ → List Indicator → Type 0 = λ owner exports. Adds (IsAmong (IsExport seen owner) exports) roots new in
    let adds : Q file.module file.exports.items =
    subst (Q file.module) c.deref-in-loop-file.ensures.value (subst (λ owner. Q owner c.deref-in-loop-file.result.now) c.as_str.ensures c.in_ok-push_exports.ensures) in
    among_more (IsExportedBy seen) c.deref-file-items.result.now c.loop-file.file-index file c.args.roots.now.items roots new c.loop-file-test.true c.file-item.is c.loop-file.invariant
    (adds_as (IsAmong (IsExport seen file.module) file.exports.items) (IsExportedBy seen file) roots new
    (λ q gives. record { is_root = is_root; declared = c.if-not-file.false; gives = gives }) (λ q given. given.gives) adds)

pub returns : goal.returns
returns c =
    let seen = c.args.program.now in
    let items = c.deref-file-items.result.now in
    exported_go seen items seen.loaded.files c.args.roots.now.items c.loop-file.roots.items
    (ap (map see_facts) c.deref-file-items.ensures.value ∙ ap (λ (l : LoadedFiles). l.files) (sym c.loaded-loaded.ensures))
    (among_all (IsExportedBy seen) items c.loop-file.file-index c.args.roots.now.items c.loop-file.roots.items c.loop-file-test.false c.loop-file.invariant)
