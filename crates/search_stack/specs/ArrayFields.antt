-- How the arrays of a search of a whole graph hold its stack.
use Rattle.std.specs.Prelude.{◌≡◌, ℕ, ◌+◌, ◌<◌, ◌≤◌, ◌^◌, ◌⊎◌, Bool, not, List, length, map, take, drop, nat_eq, slice_index, slice_index_or, All, count_by}
use Rattle.search_stack.specs.declared.array_search.ArraySearch.TheInside.{Inside}
use Rattle.search_stack.specs.declared.array_search.OpenNode.{OpenNode}
use Rattle.search_stack.specs.declared.array_search.TheConstants.{FOUND}
use Rattle.search_stack.specs.declared.frame.Frame.{Frame}
use Rattle.search_stack.specs.Search.{IsOn}
use Rattle.search_stack.specs.Stack.{Entry, Stack, IsShaped, size, node}

-- what contracts see of the search: the stack, and for each node of the graph whether it was met
pub record ArrayValue : Type 0 where
  pub stack : Stack
  pub seen : List Bool

-- the entry of a node, whose successors are a range of one list
abbrev pub entry_in : List ℕ → OpenNode → Entry
entry_in succs it = record { node = it.node; succs = take it.count (drop it.start succs); begun = it.begun }

abbrev pub stack_in : List ℕ → List OpenNode → List Frame → Stack
stack_in succs nodes frames = record { entries = map (entry_in succs) nodes; frames = frames }

-- the nodes with a place other than 0
abbrev pub met_in : List ℕ → List Bool
met_in places = map (λ place. not (nat_eq place 0)) places

abbrev pub value_in : Inside → ArrayValue
value_in fields = record {
  stack = stack_in fields.succs.items fields.nodes.items fields.frames.items;
  seen = met_in fields.places.items;
}

-- the ranges lie one behind the other, in a list of this length
pub record AreRanges (nodes : List OpenNode) (count : ℕ) : Type 0 where
  pub within : All (λ it. it.start + it.count ≤ count) nodes
  pub rise : (i j : ℕ) (d : OpenNode) → i < j → j < length nodes
      → (slice_index_or nodes i d).start + (slice_index_or nodes i d).count ≤ (slice_index_or nodes j d).start

-- a node on the stack has one more than its place there, a node of a group that was found has FOUND, and one that wasn't met has 0;
-- each node on the stack was met, so there are no more of them than nodes, whose number a `u32` counts
pub record ArePlaces (places : List ℕ) (s : Stack) : Type 0 where
  pub standing : (i : ℕ) → i < size s → slice_index places (node s i) ≡ i + 1
  pub others : (v : ℕ) → (slice_index places v ≡ 0) ⊎ ((slice_index places v ≡ FOUND) ⊎ IsOn s v)
  pub room : size s + count_by not (met_in places) ≤ length places
  pub small : length places < 2 ^ 32

-- the stack has its shape, and the successors and the places are those of its nodes
pub record AreArrays (places : List ℕ) (nodes : List OpenNode) (frames : List Frame) (succs : List ℕ) : Type 0 where
  pub shaped : IsShaped (stack_in succs nodes frames)
  pub ranges : AreRanges nodes (length succs)
  pub are_places : ArePlaces places (stack_in succs nodes frames)

abbrev pub IsArraySearch : Inside → Type 0
IsArraySearch fields = AreArrays fields.places.items fields.nodes.items fields.frames.items fields.succs.items
