use Rattle.std.proofs.Common.{◌≡◌, ◌++◌, All, map, take}
use Rattle.clause_text.specs.Clauses.{clause_trees}
use Rattle.import_rules.specs.Program.{Seen}
use Rattle.call_edges.specs.Bodies.{IsAtHome, IsHomeOf, see_body, clause_bodies}
use Rattle.call_edges.proofs.body.push_bodies.Given as goal

-- the bodies of the clauses so far, each kept with its file
abbrev pub invariant-loop-clause : goal.invariant-loop-clause
invariant-loop-clause l = record {
  bodies : map see_body l.bodies.items ≡ map see_body l.fn.bodies.items ++ clause_bodies l.file l.owner (clause_trees l.names (take l.clause-index l.clauses));
  home : (seen : Seen) → IsHomeOf seen l.owner l.names l.home → All (IsAtHome seen) l.fn.bodies.items → All (IsAtHome seen) l.bodies.items;
}
