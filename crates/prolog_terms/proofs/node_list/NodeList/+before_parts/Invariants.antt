use Rattle.std.proofs.Common.{◌≡◌, ◌≤◌, ◌-◌, List, ℕ, take}
use Rattle.prolog_terms.specs.Forest.{forest, without}
use Rattle.prolog_terms.proofs.node_list.NodeList.+before_parts.Given as goal

-- as many are still to be taken as are left
abbrev pub invariant-loop-part : goal.invariant-loop-part
invariant-loop-part l = record {
  rest : (names : List (List ℕ)) → without (l.count - l._part) (forest names (take l.at l.self)) ≡ without l.count (forest names (take (l.end - 1) l.self));
  within : l.at ≤ l.end - 1;
}

abbrev pub decreases-before_parts : goal.decreases-before_parts
decreases-before_parts l = l.end
