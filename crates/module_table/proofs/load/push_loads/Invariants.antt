use Rattle.std.proofs.Common.{ℕ, List, map, take}
use Rattle.prolog_terms.specs.Terms.{tree_of}
use Rattle.module_table.specs.Kept.{IsAdded}
use Rattle.module_table.specs.Loading.{loads_said}
use Rattle.module_table.proofs.load.push_loads.Given as goal

-- the loads so far
abbrev pub invariant-loop-spec : goal.invariant-loop-spec
invariant-loop-spec l = (names : List (List ℕ)) → IsAdded names l.initial.kinds (loads_said l.user l.kind (map tree_of (take l.spec-index l.specs))) l.kinds
