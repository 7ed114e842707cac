use Rattle.std.proofs.Common.{map, take}
use Rattle.prolog_terms.specs.Terms.{tree_in}
use Rattle.kept_clauses.specs.Plain.{plain}
use Rattle.kept_clauses.specs.Words.{AreKept}
use Rattle.clause_text.proofs.piece.plain_clauses.Given as goal

-- the clauses so far
abbrev pub invariant-loop-end : goal.invariant-loop-end
invariant-loop-end l = AreKept l.names l.list l.begins.items (map (λ end. plain (tree_in l.names l.nodes end)) (take l.end-index l.ends))
