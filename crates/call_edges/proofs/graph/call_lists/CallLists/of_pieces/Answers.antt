use Rattle.std.proofs.Common.{arith}
use Rattle.call_edges.proofs.SuccessorLemmas.{lists_count}
use Rattle.call_edges.proofs.graph.call_lists.CallLists.of_pieces.Goals as goal

pub invariant_of-result : goal.invariant_of-result
invariant_of-result c = record {
  as_many = λ number inside. c.requires.as_many number (omega (arith, inside, lists_count c.args.program.now));
  each = λ number piece is. (c.requires.each number piece is).laid_out;
}
