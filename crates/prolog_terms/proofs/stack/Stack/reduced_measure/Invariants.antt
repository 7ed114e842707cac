use Rattle.std.proofs.Common.{◌≡◌, ◌≤◌, List, length, take, reverse}
use Rattle.prolog_terms.specs.Tree.{Tree}
use Rattle.prolog_terms.specs.ReaderSeen.{reduced_measure}
use Rattle.prolog_terms.specs.StackSeen.{Names, see_entries, innermost}
use Rattle.prolog_terms.proofs.stack.Stack.reduced_measure.Given as goal

-- what the lowest entries are left, of any trees
abbrev pub invariant-loop-height : goal.invariant-loop-height
invariant-loop-height l =
    (l.height ≤ length l.self.entries.items)
    × ((names : Names) (trees : List Tree) → (rest : List Tree)
    × (reduced_measure l.priority (see_entries names (reverse (take l.height l.self.entries.items)) rest) l.above l.depth ≡ reduced_measure l.priority (see_entries names (innermost l.self) trees) 0 1))

abbrev pub decreases-loop-height : goal.decreases-loop-height
decreases-loop-height l = l.height
