use Rattle.std.proofs.Common.{◌<◌, All, length, sym, subst}
use Rattle.graph_law.specs.Graph.{lists_of}
use Rattle.import_rules.specs.Program.{Seen}
use Rattle.call_edges.specs.Successors.{successor_lists}
use Rattle.group_tool.proofs.GroupLemmas.{roots_listed, searched}
use Rattle.group_tool.proofs.driver.groups_alone.Goals as goal

pub drive_many-requires-clause-roots : goal.drive_many-requires-clause-roots
drive_many-requires-clause-roots c κs =
    subst (λ (s : Seen). All (λ root. root < length (successor_lists s)) c.args.roots.now) (sym c.requires.calls)
    (roots_listed c.args.program.now c.args.roots.now c.requires.roots)

pub groups_plain-requires-after_bounds : goal.groups_plain-requires-after_bounds
groups_plain-requires-after_bounds c κs =
    subst (λ (s : Seen). All (λ root. root < length (successor_lists s)) c.args.roots.now) (sym c.requires.calls)
    (roots_listed c.args.program.now c.args.roots.now c.requires.roots)

pub returns-in-Some-clause-groups : goal.returns-in-Some-clause-groups
returns-in-Some-clause-groups c =
    searched c.drive_many.result (λ groups. lists_of groups.items) c.args.program.now c.args.calls.now c.args.roots.now c.requires.calls
    c.drive_many.ensures.legal c.drive_many.ensures.complete c.drive_many.ensures.reached

pub returns-in-None-clause-groups : goal.returns-in-None-clause-groups
returns-in-None-clause-groups c =
    searched c.groups_plain.result (λ groups. lists_of groups.items) c.args.program.now c.args.calls.now c.args.roots.now c.requires.calls
    c.groups_plain.ensures.legal c.groups_plain.ensures.complete c.groups_plain.ensures.reached
