use denote.Param.Send.{sendable}
use Rattle.std.proofs.Crossing.{crosses}
use Rattle.call_edges.proofs.piece.Piece.TheSendSync as piece
use Rattle.group_tool.proofs.SharedCalls.{program_shared}
use Rattle.std.proofs.Common.{◌<◌, ◌∙◌, length, sym, subst, ap, arith}
use Rattle.graph_law.specs.Graph.{Calls, lists_of}
use Rattle.graph_law.proofs.GraphLaws.{length-lists_of}
use Rattle.effect_flow.specs.Carriers.{AreFlows}
use Rattle.effect_flow.specs.Seen.{see_flows}
use Rattle.import_rules.specs.Program.{Seen}
use Rattle.call_edges.specs.Successors.{successor_lists}
use Rattle.call_edges.proofs.SuccessorLemmas.{lists_count}
use Rattle.group_words.specs.Settings.{see_options}
use Rattle.group_tool.proofs.GroupLemmas.{grouped_reportable, members_listed}
use Rattle.group_tool.specs.Parts.{TellEffects}
use Rattle.group_tool.proofs.PartLemmas.{part_told, carriers_within, told_effects}
use Rattle.group_tool.proofs.parts.effects_part.Goals as goal

pub flow-requires-clause-nodes : goal.flow-requires-clause-nodes
flow-requires-clause-nodes g c κs within p has =
    let asked = c.args.grouped.now.asked.now in
    subst (λ (s : Seen). p < length (successor_lists s)) (sym c.requires.asked.calls)
    (members_listed c.args.program.now asked.roots.items (lists_of c.args.grouped.now.groups.now) c.requires.asked.below c.requires.leveled.are p has)

pub flow-requires-clause-own : goal.flow-requires-clause-own
flow-requires-clause-own g c κs within =
    rw (c.deref.ensures.value)
    (c.in_ok-own.ensures.each ∙ (sym (lists_count c.args.program.now) ∙ ap (λ (s : Seen). length (successor_lists s)) (sym c.requires.asked.calls)))

pub effect_lines-requires-clause-groups : goal.effect_lines-requires-clause-groups
effect_lines-requires-clause-groups g c =
    grouped_reportable (see_options c.args.options.now) c.args.program.now c.args.grouped.now c.requires

pub effect_lines-requires-clause-carriers : goal.effect_lines-requires-clause-carriers
effect_lines-requires-clause-carriers g c =
    let groups = lists_of c.args.grouped.now.groups.now in
    let own = c.in_ok-own.own.items in
    let flows = see_flows c.in_ok-flows.flows.items in
    let are = subst (λ (s : Seen). AreFlows (Calls (successor_lists s)) own groups flows) c.requires.asked.calls (rw (c.deref.ensures.value) at c.in_ok-flows.ensures) in
    rw (c.deref-2.ensures.value)
    (λ place kind q lt low at.
    carriers_within c.args.program.now c.args.grouped.now.asked.now.roots.items groups c.args.grouped.now.levels.now own flows c.requires.asked.below
    c.requires.leveled are place kind q (omega (arith, lt, length-lists_of c.args.grouped.now.groups.now)) low at)

pub returns : goal.returns
returns g c =
    let groups = lists_of c.args.grouped.now.groups.now in
    let own = c.in_ok-own.own.items in
    let flows = see_flows c.in_ok-flows.flows.items in
    let are = subst (λ (s : Seen). AreFlows (Calls (successor_lists s)) own groups flows) c.requires.asked.calls (rw (c.deref.ensures.value) at c.in_ok-flows.ensures) in
    part_told c.args.options.now.effects (TellEffects c.args.program.now groups c.args.grouped.now.levels.now) c.in_ok-bytes.bytes.items c.if-not-options.false
    (told_effects c.args.program.now groups c.args.grouped.now.levels.now own flows c.in_ok-bytes.bytes.items c.in_ok-own.ensures are
    (rw (c.deref-2.ensures.value) at c.in_ok-bytes.ensures))

pub flow-requires-sync-O : goal.flow-requires-sync-O
flow-requires-sync-O g c κs within = search (sendable, crosses, program_shared, piece.the_sync) depth 20 fits 3000
