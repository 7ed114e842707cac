use Rattle.std.proofs.Common.{true}
use Rattle.graph_law.specs.Graph.{lists_of}
use Rattle.call_told.specs.Told.{TellsTable, call_lines}
use Rattle.call_told.proofs.StretchLemmas.{calls_even}
use Rattle.call_told.proofs.TextLemmas.{behind_table}
use Rattle.call_told.proofs.text.undefined_texts.Goals as goal

pub call_texts-requires-clause-even : goal.call_texts-requires-clause-even
call_texts-requires-clause-even g c κs within =
    let told = c.args.told.now in
    calls_even told.program.now told.nodes.items (lists_of told.groups.items) c.in_ok-table.table c.in_ok-table.ensures

pub returns : goal.returns
returns g c =
    let told = c.args.told.now in
    behind_table (TellsTable told.program.now (lists_of told.groups.items) told.nodes.items (call_lines true told.program.now)) _ _ _
    (record { table = c.in_ok-table.table; is_table = c.in_ok-table.ensures; is = c.in_ok-texts.ensures }) c.in_ok-push_directives.ensures
