use denote.Param.Send.{sendable}
use Rattle.std.proofs.Crossing.{crosses}
use Rattle.call_edges.proofs.piece.Piece.TheSendSync as piece
use Rattle.group_tool.proofs.SharedCalls.{program_shared}
use Rattle.group_tool.proofs.answer.report_waiting.Goals as goal

pub new-requires-sync-O : goal.new-requires-sync-O
new-requires-sync-O g c κs = search (sendable, crosses, program_shared, piece.the_sync) depth 20 fits 3000

pub levels-requires-sync-O : goal.levels-requires-sync-O
levels-requires-sync-O g c κs = search (sendable, crosses, program_shared, piece.the_sync) depth 20 fits 3000
