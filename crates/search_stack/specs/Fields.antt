-- How the fields of a search hold its stack.
use Rattle.std.specs.Prelude.{ℕ, ◌+◌, ◌<◌, ◌≤◌, ◌^◌, List, length, map, vec_capacity}
use Rattle.indexmap.specs.IndexMap.{spare}
use Rattle.search_stack.specs.declared.frame.Frame.{Frame}
use Rattle.search_stack.specs.declared.search.Opened.{Opened}
use Rattle.search_stack.specs.declared.search.Search.TheInside.{Inside}
use Rattle.search_stack.specs.Stack.{Entry, Stack, IsShaped}
use Rattle.search_stack.specs.Search.{SearchValue}

-- the entry of a node
abbrev pub entry_of : ℕ × Opened → Entry
entry_of (node, opened) = record { node = node; succs = opened.succs.items; begun = opened.begun }

-- the stack of these entries and frames
abbrev pub stack_of : List (ℕ × Opened) → List Frame → Stack
stack_of entries frames = record { entries = map entry_of entries; frames = frames }

abbrev pub value_of : Inside → SearchValue
value_of fields = record {
  stack = stack_of fields.opened.entries fields.frames.items;
  wanted = fields.wanted;
  spare = fields.spare;
}

-- the stack has its shape, and there is room for the spare entries and frames, whose number a `u32` counts
pub record IsSearch (fields : Inside) : Type 0 where
  pub shaped : IsShaped (stack_of fields.opened.entries fields.frames.items)
  pub entry_room : fields.spare ≤ spare fields.opened
  pub frame_room : length fields.frames.items + fields.spare ≤ vec_capacity fields.frames
  pub small : length fields.opened.entries + fields.spare < 2 ^ 32
