use Rattle.std.proofs.Common.{length}
use Rattle.graph_law.specs.Graph.{lists_of}
use Rattle.loop_paths.specs.Circuits.{circuits_of}
use Rattle.byte_names.specs.Names.{names_of}
use Rattle.report_lines.proofs.Printable.{members_are_nodes, reportable_groups}
use Rattle.component_answer.specs.Answers.{AreLoops}
use Rattle.component_answer.proofs.Loops.{cycles_within, part_of}
use Rattle.component_answer.proofs.answer.loops_part.Goals as goal

pub circuits-requires-clause-legal : goal.circuits-requires-clause-legal
circuits-requires-clause-legal c κs = c.requires.leveled.1.1.are.legal

pub circuits-requires-clause-nodes : goal.circuits-requires-clause-nodes
circuits-requires-clause-nodes c κs p has =
    let leveled = c.requires.leveled in
    members_are_nodes c.args.graph.now c.count-count.ensures.closed leveled.1.0 leveled.1.1.are.reached p has

pub cycle_lines-requires-clause-groups : goal.cycle_lines-requires-clause-groups
cycle_lines-requires-clause-groups c =
    let leveled = c.requires.leveled in
    reportable_groups c.args.graph.now (length c.args.names.now) c.count-count.ensures.closed c.requires.each leveled.1.0 leveled.1.1

pub cycle_lines-requires-clause-within : goal.cycle_lines-requires-clause-within
cycle_lines-requires-clause-within c =
    let leveled = c.requires.leveled in
    rw (c.deref.ensures.value)
    (cycles_within c.args.graph.now leveled.0 (lists_of c.args.groups.now) c.args.levels.now (circuits_of c.in_ok-found.found.items) (length c.args.names.now)
    c.count-count.ensures.closed leveled.1.0 leveled.1.1 c.in_ok-found.ensures c.requires.each)

pub returns : goal.returns
returns c =
    let part = AreLoops c.args.graph.now c.args.wanted.form (names_of c.args.names.now) (lists_of c.args.groups.now) c.args.levels.now in
    part_of c.args.wanted.loops part c.in_ok-bytes.bytes.items c.if-not-wanted.false
    (record {
      cycles = circuits_of c.in_ok-found.found.items;
      are = c.in_ok-found.ensures;
      lines = rw (c.deref.ensures.value) at c.in_ok-bytes.ensures;
    })
