use Rattle.std.proofs.Common.{◌≡◌, ◌++◌, length, map, ap, sym, ◌∙◌, arith}
use Rattle.std.proofs.lemmas.List.{length-map}
use Rattle.module_table.specs.Facts.{see_facts}
use Rattle.file_library.specs.Loaded.{LoadedFiles}
use Rattle.call_edges.specs.Bodies.{goals_of_file, goals_in}
use Rattle.call_edges.proofs.GoalLemmas.{files_more, files_all}
use Rattle.call_edges.proofs.body.goals_of.Goals as goal

pub overflow_cast-place : goal.overflow_cast-place
overflow_cast-place c =
    let files = c.loaded.result.now.files.items in
    let few = c.is_known.ensures.few_files in
    let count : length (map see_facts files) ≡ length files = length-map files see_facts in
    omega (arith, c.loop-at-test.true, ap length c.deref-file-items.ensures.value, count, ap (λ (l : LoadedFiles). length l.files) c.loaded.ensures, few)

pub of-requires : goal.of-requires
of-requires c =
    let files = c.loaded.result.now.files.items in
    let count : length (map see_facts files) ≡ length files = length-map files see_facts in
    omega (arith, c.loop-at-test.true, ap length c.deref-file-items.ensures.value, count, ap (λ (l : LoadedFiles). length l.files) c.loaded.ensures)

pub loop-at-preserved : goal.loop-at-preserved
loop-at-preserved c =
    let items = c.deref-file-items.result.now in
    let k = c.loop-at.at in
    let file = c.file-item.result in
    c.in_ok-push_goals.ensures
    ∙ (ap (λ xs. xs ++ goals_of_file (k, see_facts file)) c.loop-at.invariant ∙ sym (files_more items k file (omega (arith, c.loop-at-test.true)) c.file-item.is))

pub returns : goal.returns
returns c =
    let items = c.deref-file-items.result.now in
    c.loop-at.invariant
    ∙ (files_all items c.loop-at.at (omega (arith, c.loop-at-test.false))
    ∙ (ap (λ xs. goals_in (map see_facts xs)) c.deref-file-items.ensures.value ∙ ap (λ (l : LoadedFiles). goals_in l.files) (sym c.loaded.ensures)))
