-- How much is left to do in a state of many searches, as a number that each event lowers.
use Rattle.std.specs.Prelude.{ℕ, ◌+◌, ◌-◌, ◌*◌, Bool, List, [], ◌∷◌, length, slice_index_or, if◌then◌else◌, Option, None, Some}
use Rattle.list_laws.specs.Counts.{total}
use Rattle.search_stack.specs.Stack.{Entry, Stack}
use Rattle.search_stack.specs.Search.{SearchValue}
use Rattle.search_machine.specs.State.{State}

-- to open a node with these successors, to begin each, and to be done with its frame
abbrev pub opening_work : List ℕ → ℕ
opening_work list = 3 * length list + 2

-- of the nodes that aren't claimed
abbrev pub unclaimed_work : List Bool → List (List ℕ) → ℕ
unclaimed_work claimed [] = 0
unclaimed_work [] (list ∷ lists) = opening_work list + unclaimed_work [] lists
unclaimed_work (mark ∷ claimed) (list ∷ lists) = (if mark then 0 else opening_work list) + unclaimed_work claimed lists

-- of a node that is waited for
abbrev pub waiting_work : List (List ℕ) → Option ℕ → ℕ
waiting_work lists None = 0
waiting_work lists (Some v) = opening_work (slice_index_or lists v [])

-- of an entry and of a stack: what it has not begun, and its frames
abbrev pub entry_work : Entry → ℕ
entry_work entry = 3 * (length entry.succs - entry.begun)

abbrev pub stack_work : Stack → ℕ
stack_work s = total entry_work s.entries + length s.frames

-- of a search at a place, where there is one
abbrev pub running_work : Option SearchValue → ℕ
running_work None = 0
running_work (Some search) = stack_work search.stack

-- of a kept search: to be woken where it wants a node, and to be taken
abbrev pub taking_work : Option ℕ → ℕ
taking_work None = 1
taking_work (Some w) = 2

abbrev pub kept_work : Option SearchValue → ℕ
kept_work None = 0
kept_work (Some search) = stack_work search.stack + taking_work search.wanted

-- all that is left to do, with a turn for each root to come
abbrev pub work : List (List ℕ) → State → ℕ
work lists s =
    unclaimed_work s.claimed lists + total (waiting_work lists) s.waiting + total running_work s.running + total kept_work s.kept
    + length s.to_come
