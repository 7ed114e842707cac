use Rattle.std.proofs.Common.{◌-◌, ◌≤◌, length, All}
use Rattle.prolog_ops.specs.Table.{ops_of}
use Rattle.prolog_terms.specs.Terms.{tree_in}
use Rattle.std.proofs.Common.{map}
use Rattle.kept_clauses.specs.Plain.{plain}
use Rattle.clause_text.specs.Pieces.{LeadTo}
use Rattle.clause_text.proofs.piece.read_on.Given as goal

abbrev pub invariant-loop-at : goal.invariant-loop-at
invariant-loop-at l =
    LeadTo (ops_of l.table) l.text l.tokens l.stretch.from (map plain (map (tree_in l.numbered.names l.nodes) l.ends.items)) (ops_of l.table) l.at × (l.at ≤ l.stretch.to)
    × All (λ end. end ≤ length l.nodes) l.ends.items

abbrev pub decreases-loop-at : goal.decreases-loop-at
decreases-loop-at l = l.stretch.to - l.at
