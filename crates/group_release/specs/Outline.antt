-- The nodes of kept searches, and those that they want, as lists.
use Rattle.std.specs.Prelude.{ℕ, List, [], ◌∷◌, map, Option, None, Some}
use Rattle.list_laws.specs.Counts.{flat}
use Rattle.search_stack.specs.Stack.{Stack}
use Rattle.search_stack.specs.Search.{SearchValue}
use Rattle.blocked_table.specs.declared.suspended.Suspended.{Suspended}
use Rattle.blocked_table.specs.declared.suspended.Suspended.TheVariants.{Kept, Moved}

-- the nodes of a stack in its order
abbrev pub nodes_on : Stack → List ℕ
nodes_on s = map (λ entry. entry.node) s.entries

-- the nodes of a search that may be there, and the node that it wants
abbrev pub nodes_of : Option SearchValue → List ℕ
nodes_of None = []
nodes_of (Some search) = nodes_on search.stack

abbrev pub listed : Option ℕ → List ℕ
listed None = []
listed (Some w) = w ∷ []

abbrev pub wants_of : Option SearchValue → List ℕ
wants_of None = []
wants_of (Some search) = listed search.wanted

-- the nodes of all kept searches, one search after another
abbrev pub kept_nodes : List (Option SearchValue) → List ℕ
kept_nodes kept = flat (map nodes_of kept)

-- the nodes that they want
abbrev pub wanted_nodes : List (Option SearchValue) → List ℕ
wanted_nodes kept = flat (map wants_of kept)

-- the nodes of the search that goes on, and the nodes that are wanted anew: the one that the kept search wants, or some of the search that goes on
abbrev pub nodes_going : Suspended → List ℕ
nodes_going Kept = []
nodes_going (Moved after) = nodes_on after.stack

abbrev pub newly_wanted : ℕ → Suspended → List ℕ
newly_wanted on Kept = on ∷ []
newly_wanted on (Moved after) = nodes_on after.stack
