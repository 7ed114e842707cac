use Rattle.std.proofs.Common.{refl}
use Rattle.graph_law.specs.Graph.{lists_of}
use Rattle.call_table.specs.Marks.{see_marks}
use Rattle.call_told.specs.Told.{joined}
use Rattle.call_told.specs.Wanted.{see_wanted}
use Rattle.call_told.proofs.TextLemmas.{tells_from}
use Rattle.call_told.proofs.text.told_texts.Goals as goal

pub returns : goal.returns
returns g c =
    let told = c.in_ok-told.told in
    let bytes = joined c.in_ok-texts.texts.items in
    tells_from (see_wanted c.args.wanted.now) told.program.now c.args.program.now c.args.roots.now (lists_of told.groups.items) told.levels.items
    told.places.items told.nodes.items bytes bytes (see_marks told.marks) c.in_ok-told.ensures.same c.in_ok-told.ensures.is c.in_ok-told.ensures.marked
    c.in_ok-texts.ensures refl
