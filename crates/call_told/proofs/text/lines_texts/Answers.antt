use Rattle.std.proofs.Common.{subst}
use Rattle.graph_law.specs.Graph.{lists_of}
use Rattle.call_table.specs.Marks.{see_marks}
use Rattle.call_told.specs.Told.{TellsTable, all_lines}
use Rattle.call_told.proofs.TextLemmas.{behind_table}
use Rattle.call_told.proofs.text.lines_texts.Goals as goal

pub returns : goal.returns
returns g c =
    let told = c.args.told.now in
    let groups = lists_of told.groups.items in
    behind_table
    (TellsTable told.program.now groups told.nodes.items
    (all_lines told.program.now groups told.levels.items told.places.items (see_marks told.marks) told.nodes.items)) _ _ _
    c.in_ok-texts.ensures c.in_ok-push_directives.ensures
