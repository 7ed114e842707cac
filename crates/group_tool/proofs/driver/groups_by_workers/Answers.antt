use denote.Param.Send.{sendable}
use Rattle.std.proofs.Crossing.{crosses}
use Rattle.call_edges.proofs.piece.Piece.TheSendSync as piece
use Rattle.group_tool.proofs.SharedCalls.{program_shared}
use Rattle.std.proofs.Common.{◌<◌, All, length, sym, subst}
use Rattle.graph_law.specs.Graph.{lists_of}
use Rattle.import_rules.specs.Program.{Seen}
use Rattle.call_edges.specs.Successors.{successor_lists}
use Rattle.group_tool.proofs.GroupLemmas.{roots_listed, searched}
use Rattle.group_tool.proofs.driver.groups_by_workers.Goals as goal

pub drive_workers-requires-clause-roots : goal.drive_workers-requires-clause-roots
drive_workers-requires-clause-roots g c κs within =
    subst (λ (s : Seen). All (λ root. root < length (successor_lists s)) c.args.roots.now) (sym c.requires.calls)
    (roots_listed c.args.program.now c.args.roots.now c.requires.roots)

pub returns : goal.returns
returns g c =
    searched c.drive_workers.result (λ groups. lists_of groups.items) c.args.program.now c.args.calls.now c.args.roots.now c.requires.calls
    c.drive_workers.ensures.legal c.drive_workers.ensures.complete c.drive_workers.ensures.reached

pub drive_workers-requires-sync-O : goal.drive_workers-requires-sync-O
drive_workers-requires-sync-O g c κs within = search (sendable, crosses, program_shared, piece.the_sync) depth 20 fits 3000
