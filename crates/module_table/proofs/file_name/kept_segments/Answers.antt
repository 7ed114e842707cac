use Rattle.std.proofs.Common.{[], fold, ap, ◌∙◌, lit<}
use Rattle.std.proofs.lemmas.Iterator.Consumers.{YieldsList-at, YieldsList-end}
use Rattle.std.proofs.lemmas.Iterator.Splits.{YieldsList-from_str_split}
use Rattle.module_table.specs.FileName.{kept_with}
use Rattle.module_table.proofs.file_name.kept_segments.Goals as goal

pub returns : goal.returns
returns c =
    let split = c.split-segment-items.ensures in
    let road =
    YieldsList-at c.into_iter-segment-iterator.ensures.into_iter_gives
    (YieldsList-from_str_split 47 c.args.path.now (lit< tt) split.text split.has_more split.pattern) in
    c.loop-segment.invariant
    ∙ ap (fold (kept_with c.args.absolute) [])
    (YieldsList-end road c.loop-segment.yielded _ c.loop-segment.yielded_by _ _ c.in-None.is c.next.ensures.steps).0
