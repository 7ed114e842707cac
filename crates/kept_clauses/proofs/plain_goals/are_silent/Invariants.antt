use Rattle.std.proofs.Common.{◌≡◌, length}
use Rattle.prolog_terms.specs.Terms.{trees_of}
use Rattle.prolog_terms.specs.Views.{trees_in}
use Rattle.kept_clauses.specs.Plain.{all_silent}
use Rattle.kept_clauses.proofs.plain_goals.are_silent.Given as goal

-- all are silent if those that are left are
abbrev pub invariant-loop-before : goal.invariant-loop-before
invariant-loop-before l = all_silent (trees_of l.others) ≡ all_silent (trees_of l.fn.args)

abbrev pub decreases-loop-before : goal.decreases-loop-before
decreases-loop-before l = length (trees_in (trees_of l.others))
