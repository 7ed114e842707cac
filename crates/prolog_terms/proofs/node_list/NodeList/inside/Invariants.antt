use Rattle.std.proofs.Common.{◌≡◌, List, ℕ, length, take}
use Rattle.prolog_terms.specs.Forest.{forest, last_of}
use Rattle.prolog_terms.specs.Views.{inside}
use Rattle.prolog_terms.proofs.node_list.NodeList.inside.Given as goal

-- the brackets round the term are passed so far
abbrev pub invariant-loop-node : goal.invariant-loop-node
invariant-loop-node l =
    (names : List (List ℕ)) → inside (last_of (forest names (take l.inner l.self))) ≡ inside (last_of (forest names (take l.end l.self)))

abbrev pub decreases-loop-node : goal.decreases-loop-node
decreases-loop-node l = length (take l.inner l.self)
