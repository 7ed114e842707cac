use Rattle.std.proofs.Common.{◌≡◌, ◌++◌, OnOk, length, subst, arith}
use Rattle.std.specs.String.{string_bytes}
use Rattle.graph_law.specs.Graph.{lists_of}
use Rattle.call_table.specs.Marks.{see_marks}
use Rattle.call_writer.specs.Lines.{predicate_line_of}
use Rattle.call_told.proofs.ToldLemmas.{each_as}
use Rattle.call_told.proofs.node_lines.push_predicate.Goals as goal

pub at-marks-requires-clause-each : goal.at-marks-requires-clause-each
at-marks-requires-clause-each c =
    let told = c.args.told.now in
    each_as (length told.program.now.predicates) (see_marks told.marks) c.requires.told.marked

pub at-marks-requires-clause-below : goal.at-marks-requires-clause-below
at-marks-requires-clause-below c = omega (arith, c.requires.below, c.requires.told.marked.roots)
