use Rattle.std.proofs.Common.{◌+◌, ◌*◌, map}
use Rattle.prolog_terms.specs.Weight.{weight, weights}
use Rattle.prolog_terms.specs.Terms.{tree_of, trees_of}
use Rattle.call_edges.specs.ProgramRows.{rows_of}
use Rattle.call_edges.specs.Meant.{AreMeant}
use Rattle.call_edges.specs.Seen.{see_mets, see_taken}
use Rattle.call_edges.proofs.MetLemmas.{AddsBelow}
use Rattle.call_edges.proofs.walk.+walking.Given as goal

-- what is met in the arguments so far, and what is kept of it
abbrev pub invariant-walk_args-loop-at : goal.invariant-walk_args-loop-at
invariant-walk_args-loop-at l = record {
  met : AddsBelow (rows_of l.program) (see_taken l.taken) (map tree_of l.arg-items) l.at (see_mets l.fn.met.items) (see_mets l.met.items);
  meant : AreMeant l.program l.fn.met.items → AreMeant l.program l.met.items;
}

-- the arguments weigh as much as their compound, and each of them less

abbrev pub decreases-walk : goal.decreases-walk
decreases-walk l = 2 * weight (tree_of l.term.now) + 1

abbrev pub decreases-walk_args : goal.decreases-walk_args
decreases-walk_args l = 2 * weights (trees_of l.args.now)
