use Rattle.std.proofs.Common.{◌≡◌, ℕ, List, map, ap, sym, ◌∙◌, subst}
use Rattle.module_table.specs.Facts.{see_facts}
use Rattle.file_library.specs.Asked.{AreInOrder}
use Rattle.file_library.specs.Loaded.{LoadedFiles}
use Rattle.call_edges.proofs.PlainRoots.{IsMark, one_mark, all_marked}
use Rattle.call_edges.proofs.roots.plain_roots.Goals as goal

pub is_plain_root-requires : goal.is_plain_root-requires
is_plain_root-requires c =
    let P : List (List ℕ) → Type 0 = λ names. AreInOrder names in
    subst P (ap (λ (l : LoadedFiles). l.roots) c.loaded-loaded.ensures ∙ sym c.deref.ensures.value) c.is_known.ensures.roots

pub loop-file-preserved : goal.loop-file-preserved
loop-file-preserved c =
    let seen = c.args.program.now in
    let file = c.file-item.result in
    let names : c.deref.result.now ≡ seen.loaded.roots = sym (ap (λ (l : LoadedFiles). l.roots) c.loaded-loaded.ensures ∙ sym c.deref.ensures.value) in
    one_mark seen.loaded.roots c.deref-file-items.result.now c.loop-file.file-index file c.loop-file.marks.items c.push.new.self.items c.is_plain_root.result c.loop-file-test.true
    c.file-item.is c.in_ok-push.ensures.items (subst (λ roots. IsMark roots file c.is_plain_root.result) names c.is_plain_root.ensures) c.loop-file.invariant

pub returns : goal.returns
returns c =
    let seen = c.args.program.now in
    all_marked seen c.deref-file-items.result.now c.loop-file.file-index c.loop-file.marks.items
    (ap (map see_facts) c.deref-file-items.ensures.value ∙ ap (λ (l : LoadedFiles). l.files) (sym c.loaded-loaded.ensures)) c.loop-file-test.false c.loop-file.invariant
