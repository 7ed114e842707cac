use Rattle.std.proofs.Common.{◌≡◌, ◌-◌, List, ℕ, [], length}
use Rattle.prolog_terms.specs.Forest.{forest}
use Rattle.prolog_terms.specs.Sized.{filled}
use Rattle.prolog_terms.proofs.node_list.NodeList.fill.Given as goal

-- the same is missing that was, or is there
abbrev pub invariant-loop-self : goal.invariant-loop-self
invariant-loop-self l = (names : List (List ℕ)) → filled l.count (forest names l.self) ≡ filled l.count (forest names l.fn.self)

abbrev pub decreases-loop-self : goal.decreases-loop-self
decreases-loop-self l = l.count - length (forest [] l.self)
