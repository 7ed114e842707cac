use Rattle.std.proofs.Common.{List, map, ap, sym, ◌∙◌, subst}
use Rattle.module_table.specs.declared.mark.Mark.{Mark}
use Rattle.module_table.specs.Facts.{see_facts}
use Rattle.module_table.specs.Marks.{see_mark}
use Rattle.file_library.specs.Loaded.{LoadedFiles}
use Rattle.call_edges.specs.Goals.{Adds}
use Rattle.call_edges.specs.Calls.{IsAmong}
use Rattle.call_edges.specs.Properties.{IsDeclaredBy}
use Rattle.call_edges.proofs.AmongLemmas.{among_more, among_all}
use Rattle.call_edges.proofs.PropertyLemmas.{IsKeptIn, declared_go}
use Rattle.call_edges.proofs.properties.push_declared.Goals as goal

pub loop-file-preserved : goal.loop-file-preserved
loop-file-preserved c =
    let seen = c.args.program.now in
    let file = c.file-item.result in
    let nodes = c.loop-file.nodes.items in
    let new = c.push_marked.new.nodes.items in
    let P : List Mark → Type 0 = λ marks. Adds (IsAmong (IsDeclaredBy seen c.args.property) (map (see_mark file.names) marks)) nodes new in
    let adds : P file.marks.items = subst P c.deref.ensures.value c.in_ok-push_marked.ensures in
    among_more (IsKeptIn seen c.args.property) c.deref-file-items.result.now c.loop-file.file-index file c.args.nodes.now.items nodes new c.loop-file-test.true
    c.file-item.is c.loop-file.invariant adds

pub returns : goal.returns
returns c =
    let seen = c.args.program.now in
    let items = c.deref-file-items.result.now in
    declared_go seen c.args.property items seen.loaded.files c.args.nodes.now.items c.loop-file.nodes.items
    (ap (map see_facts) c.deref-file-items.ensures.value ∙ ap (λ (l : LoadedFiles). l.files) (sym c.loaded-loaded.ensures))
    (among_all (IsKeptIn seen c.args.property) items c.loop-file.file-index c.args.nodes.now.items c.loop-file.nodes.items c.loop-file-test.false
    c.loop-file.invariant)
