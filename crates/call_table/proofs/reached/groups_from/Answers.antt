use Rattle.std.proofs.Common.{◌<◌, All, length, sym, subst}
use Rattle.call_edges.specs.Successors.{successor_lists}
use Rattle.graph_law.specs.Classes.{HasMember}
use Rattle.graph_law.specs.LegalOrder.{IsLegalOrder}
use Rattle.group_release.specs.Level.{AreLevels}
use Rattle.report_lines.specs.Reportable.{AreLeveled}
use Rattle.call_table.proofs.ReachedLemmas.{roots_listed, members_listed, are_nodes, reached_by}
use Rattle.graph_law.specs.Graph.{lists_of, Calls as ListCalls}
use Rattle.import_rules.specs.Program.{Seen}
use Rattle.call_table.proofs.reached.groups_from.Goals as goal

pub groups_plain-requires-after_bounds : goal.groups_plain-requires-after_bounds
groups_plain-requires-after_bounds c κs =
    subst (λ (s : Seen). All (λ root. root < length (successor_lists s)) c.args.roots.now) (sym c.requires.calls)
    (roots_listed c.args.program.now c.args.roots.now c.requires.below)

pub levels-requires-clause-nodes : goal.levels-requires-clause-nodes
levels-requires-clause-nodes c κs p has =
    subst (λ (s : Seen). p < length (successor_lists s)) (sym c.requires.calls)
    (members_listed c.args.program.now c.args.roots.now (lists_of c.in_ok-groups.groups.items) c.requires.below
    (reached_by c.args.calls.now c.args.program.now c.args.roots.now (lists_of c.in_ok-groups.groups.items) c.requires.calls c.in_ok-groups.ensures.reached) p
    (subst (λ gs. HasMember (lists_of gs) p) c.deref.ensures.value has))

pub returns-clause-groups : goal.returns-clause-groups
returns-clause-groups c =
    subst (λ (s : Seen). AreLeveled (ListCalls (successor_lists s)) c.args.roots.now (lists_of c.in_ok-groups.groups.items) c.in_ok-levels.levels.items) c.requires.calls
    (record {
      are = record { legal = c.in_ok-groups.ensures.legal; complete = c.in_ok-groups.ensures.complete; reached = c.in_ok-groups.ensures.reached };
      leveled = subst (λ gs. AreLevels (ListCalls (successor_lists c.args.calls.now)) (lists_of gs) c.in_ok-levels.levels.items) c.deref.ensures.value c.in_ok-levels.ensures;
    })

pub returns-clause-nodes : goal.returns-clause-nodes
returns-clause-nodes c =
    let seen = c.args.program.now in
    let groups = lists_of c.in_ok-groups.groups.items in
    are_nodes seen c.args.roots.now groups c.requires.below
    (subst (λ (s : Seen). IsLegalOrder (ListCalls (successor_lists s)) groups) c.requires.calls c.in_ok-groups.ensures.legal)
    (reached_by c.args.calls.now seen c.args.roots.now groups c.requires.calls c.in_ok-groups.ensures.reached)
