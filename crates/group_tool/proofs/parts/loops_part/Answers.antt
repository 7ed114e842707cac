use Rattle.std.proofs.Common.{◌<◌, length, sym, subst}
use Rattle.graph_law.specs.Graph.{Calls, lists_of}
use Rattle.import_rules.specs.Program.{Seen}
use Rattle.call_edges.specs.Successors.{successor_lists}
use Rattle.loop_paths.specs.Circuits.{AreCircuits, circuits_of}
use Rattle.group_words.specs.Settings.{see_options}
use Rattle.group_tool.proofs.GroupLemmas.{grouped_reportable, members_listed}
use Rattle.group_tool.specs.Parts.{TellLoops}
use Rattle.group_tool.proofs.PartLemmas.{part_told, circuits_within, told_loops}
use Rattle.group_tool.proofs.parts.loops_part.Goals as goal

pub circuits-requires-clause-nodes : goal.circuits-requires-clause-nodes
circuits-requires-clause-nodes c κs p has =
    subst (λ (s : Seen). p < length (successor_lists s)) (sym c.requires.asked.calls)
    (members_listed c.args.program.now c.args.grouped.now.asked.now.roots.items (lists_of c.args.grouped.now.groups.now) c.requires.asked.below
    c.requires.leveled.are p has)

pub circuit_lines-requires-clause-groups : goal.circuit_lines-requires-clause-groups
circuit_lines-requires-clause-groups c =
    grouped_reportable (see_options c.args.options.now) c.args.program.now c.args.grouped.now c.requires

pub circuit_lines-requires-clause-within : goal.circuit_lines-requires-clause-within
circuit_lines-requires-clause-within c =
    let groups = lists_of c.args.grouped.now.groups.now in
    let circuits = circuits_of c.in_ok-found.found.items in
    rw (c.deref.ensures.value)
    (circuits_within c.args.program.now c.args.grouped.now.asked.now.roots.items groups c.args.grouped.now.levels.now circuits c.requires.asked.below
    c.requires.leveled (subst (λ (s : Seen). AreCircuits (Calls (successor_lists s)) groups circuits) c.requires.asked.calls c.in_ok-found.ensures))

pub returns : goal.returns
returns c =
    let groups = lists_of c.args.grouped.now.groups.now in
    let circuits = circuits_of c.in_ok-found.found.items in
    part_told c.args.options.now.loops (TellLoops c.args.program.now groups c.args.grouped.now.levels.now) c.in_ok-bytes.bytes.items c.if-not-options.false
    (told_loops c.args.program.now groups c.args.grouped.now.levels.now circuits c.in_ok-bytes.bytes.items
    (subst (λ (s : Seen). AreCircuits (Calls (successor_lists s)) groups circuits) c.requires.asked.calls c.in_ok-found.ensures)
    (rw (c.deref.ensures.value) at c.in_ok-bytes.ensures))
