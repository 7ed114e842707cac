use Rattle.call_edges.specs.Properties.{IsDeclared}
use Rattle.call_table.proofs.MarkLemmas.{all_below, marks_as}
use Rattle.call_table.proofs.marks.declared_marks.Goals as goal

pub marks_of-requires : goal.marks_of-requires
marks_of-requires c = all_below c.in_ok-nodes.nodes.items c.deref.result.now c.count.result c.args.program.now c.deref.ensures.value c.count.ensures c.in_ok-nodes.ensures.below

pub returns : goal.returns
returns c =
    marks_as c.args.program.now (IsDeclared c.args.program.now c.args.property) c.in_ok-nodes.nodes.items c.deref.result.now c.count.result c.in_ok-marks.marks.items
    c.deref.ensures.value c.count.ensures c.in_ok-nodes.ensures.are c.in_ok-marks.ensures
