use denote.Param.Send.{sendable}
use Rattle.std.proofs.Crossing.{crosses}
use Rattle.call_edges.proofs.piece.Piece.TheSendSync as piece
use Rattle.group_feed.proofs.level_taker.LevelTaker.TheSendSync as taker
use Rattle.group_tool.proofs.SharedCalls.{program_shared}
use Rattle.std.proofs.Common.{◌≡◌, ◌<◌, All, List, ℕ, length, sym, subst}
use Rattle.graph_law.specs.Classes.{HasMember}
use Rattle.graph_law.specs.Graph.{Calls, lists_of}
use Rattle.graph_law.specs.LegalOrder.{IsComplete, IsLegalOrder}
use Rattle.graph_law.specs.Reach.{IsReached}
use Rattle.group_release.specs.Level.{AreLevels}
use Rattle.group_release.specs.declared.level.Level.{Level}
use Rattle.import_rules.specs.Program.{Seen}
use Rattle.call_edges.specs.Successors.{successor_lists}
use Rattle.report_lines.specs.Reportable.{AreGroups}
use Rattle.group_tool.proofs.GroupLemmas.{roots_listed}
use Rattle.group_tool.proofs.driver.groups_by_stream.Goals as goal

pub drive_feed-requires-clause-roots : goal.drive_feed-requires-clause-roots
drive_feed-requires-clause-roots g c κs within =
    subst (λ (s : Seen). All (λ root. root < length (successor_lists s)) c.args.roots.now) (sym c.requires.calls)
    (roots_listed c.args.program.now c.args.roots.now c.requires.roots)

-- what was taken, in a legal order, is the list of groups, over the calls of the program
fed : (seen called : Seen) (roots : List ℕ) (groups taken : List (List ℕ)) → called ≡ seen → taken ≡ groups → IsLegalOrder (Calls (successor_lists called)) taken
    → IsComplete roots groups → ((p : ℕ) → HasMember groups p → IsReached (Calls (successor_lists called)) roots p) → AreGroups (Calls (successor_lists seen)) roots groups
fed seen called roots groups taken same all legal complete reached =
    subst (λ (s : Seen). AreGroups (Calls (successor_lists s)) roots groups) same
    (record { legal = subst (λ (those : List (List ℕ)). IsLegalOrder (Calls (successor_lists called)) those) all legal; complete = complete; reached = reached })

-- and the levels of what was taken are those of the groups
levels_fed : (seen called : Seen) (lists groups taken : List (List ℕ)) (levels : List Level) → called ≡ seen → lists ≡ successor_lists called → taken ≡ groups
    → AreLevels (Calls lists) taken levels → AreLevels (Calls (successor_lists seen)) groups levels
levels_fed seen called lists groups taken levels same own all are =
    subst (λ (s : Seen). AreLevels (Calls (successor_lists s)) groups levels) same
    (subst (λ (those : List (List ℕ)). AreLevels (Calls (successor_lists called)) those levels) all
    (subst (λ (those : List (List ℕ)). AreLevels (Calls those) taken levels) own are))

pub returns-clause-groups : goal.returns-clause-groups
returns-clause-groups g c =
    fed c.args.program.now c.args.calls.now c.args.roots.now (lists_of c.in_ok-groups.groups.items) c.drive_feed.new.taker.taken c.requires.calls
    c.in_ok-groups.ensures.taken c.in_ok-groups.ensures.part c.in_ok-groups.ensures.complete c.in_ok-groups.ensures.reached

pub returns-clause-leveled : goal.returns-clause-leveled
returns-clause-leveled g c = record {
  are = fed c.args.program.now c.args.calls.now c.args.roots.now (lists_of c.in_ok-groups.groups.items) c.drive_feed.new.taker.taken
      c.requires.calls c.in_ok-groups.ensures.taken c.in_ok-groups.ensures.part c.in_ok-groups.ensures.complete c.in_ok-groups.ensures.reached;
  leveled = levels_fed c.args.program.now c.args.calls.now c.drive_feed.new.taker.lists (lists_of c.in_ok-groups.groups.items)
      c.drive_feed.new.taker.taken c.drive_feed.new.taker.levels c.requires.calls c.in_ok-groups.ensures.lists c.in_ok-groups.ensures.taken c.levels.ensures.are;
}

pub drive_feed-requires-sync-O : goal.drive_feed-requires-sync-O
drive_feed-requires-sync-O g c κs within = search (sendable, crosses, program_shared, piece.the_sync) depth 20 fits 3000

pub levels-requires-sync-O : goal.levels-requires-sync-O
levels-requires-sync-O g c κs = search (sendable, crosses, program_shared, piece.the_sync) depth 20 fits 3000

pub drive_feed-requires-send-T : goal.drive_feed-requires-send-T
drive_feed-requires-send-T g c κs within = search (sendable, crosses, program_shared, piece.the_sync, taker.the_send) depth 20 fits 3000
