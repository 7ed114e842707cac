use Rattle.std.proofs.Common.{◌≡◌, map, sym, ◌∙◌, subst}
use Rattle.std.specs.List.{AllZip, zip}
use Rattle.call_table.specs.Table.{IsExtentOf, extent}
use Rattle.call_table.proofs.ExtentLemmas.{extents_are}
use Rattle.call_table.proofs.extents.extents_of.Goals as goal

pub returns : goal.returns
returns c =
    let texts = c.args.program.now.loaded.texts in
    let starts = c.in_ok-starts.starts.items in
    let ends = c.in_ok-ends.ends.items in
    let is : c.in_ok-extents.extents.items ≡ map extent (zip starts ends) =
    c.in_ok-extents.ensures ∙ (λ i. map extent (zip (c.deref.ensures.value i) (c.deref-2.ensures.value i))) in
    subst (AllZip (IsExtentOf texts) c.args.clauses.now) (sym is)
    (extents_are texts c.args.clauses.now starts ends c.in_ok-starts.ensures c.in_ok-ends.ensures)
