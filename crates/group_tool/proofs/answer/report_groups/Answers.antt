use Rattle.std.proofs.Common.{◌<◌, length, sym, subst}
use Rattle.graph_law.specs.Graph.{lists_of}
use Rattle.import_rules.specs.Program.{Seen}
use Rattle.call_edges.specs.Successors.{successor_lists}
use Rattle.group_tool.proofs.GroupLemmas.{members_listed}
use Rattle.group_tool.proofs.answer.report_groups.Goals as goal

pub levels-requires-clause-nodes : goal.levels-requires-clause-nodes
levels-requires-clause-nodes g c κs p has =
    subst (λ (s : Seen). p < length (successor_lists s)) (sym c.requires.asked.calls)
    (members_listed c.args.program.now c.args.asked.now.roots.items (lists_of c.args.groups.now) c.requires.asked.below c.requires.groups p has)
