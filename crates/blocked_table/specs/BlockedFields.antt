-- How the fields hold the suspended searches.
use Rattle.std.specs.Prelude.{◌≡◌, ℕ, ◌+◌, ◌<◌, ◌≤◌, ◌↔◌, List, length, Option, None, Some, slice_index_or, vec_capacity}
use Rattle.search_stack.specs.Search.{SearchValue}
use Rattle.blocked_table.specs.declared.blocked.Blocked.TheInside.{Inside}
use Rattle.blocked_table.specs.Blocked.{BlockedValue, IsTable, IsReadyAt}
use Rattle.blocked_table.specs.Listed.{AreJust}
use Rattle.blocked_table.specs.Kept.{kept_at, Holds}
use Rattle.blocked_table.specs.Waiters.{WaitersValue}

abbrev pub value_of : Inside → BlockedValue
value_of fields = record { count = fields.count; most = fields.most; kept = fields.kept.items }

-- a slot without a search
abbrev pub IsVacant : List (Option SearchValue) → ℕ → Type 0
IsVacant kept place = (place < length kept) × (kept_at kept place ≡ None)

-- the word of a node is one more than the slot of the search that holds it, or 0
abbrev pub AreWords : List ℕ → List (Option SearchValue) → Type 0
AreWords holders kept = (place v : ℕ) → (slice_index_or holders v 0 ≡ place + 1) ↔ Holds kept place v

-- the word of what is waited for, if anything, and of a search, if there is one: one more than the
-- node, or 0
abbrev pub wanted_word : Option ℕ → ℕ
wanted_word None = 0
wanted_word (Some w) = w + 1

abbrev pub wait_word : Option SearchValue → ℕ
wait_word None = 0
wait_word (Some search) = wanted_word search.wanted

-- each slot waits for the node that its search waits for
abbrev pub AreWaiting : List ℕ → List (Option SearchValue) → Type 0
AreWaiting words kept = (place : ℕ) → slice_index_or words place 0 ≡ wait_word (kept_at kept place)

-- each node has a word and a list of the slots that wait for it, and each slot has a word
pub record AreWhole (count most : ℕ) (holders : List ℕ) (waiters : WaitersValue) : Type 0 where
  pub words : length holders ≡ count
  pub nodes : waiters.count ≡ count
  pub places : most ≤ length waiters.words

-- the words of the nodes and the lists of who waits for each node, which are empty until a slot is
-- used, the lists of vacant and of ready slots, and capacity for all slots
pub record IsBlocked (fields : Inside) : Type 0 where
  pub table : IsTable (value_of fields)
  pub words : AreWords fields.holders.items fields.kept.items
  pub waiting : AreWaiting fields.waiters.words fields.kept.items
  pub whole : 0 < length fields.kept.items → AreWhole fields.count fields.most fields.holders.items fields.waiters
  pub vacant : AreJust (IsVacant fields.kept.items) fields.vacant.items
  pub ready : AreJust (IsReadyAt fields.kept.items) fields.ready.items
  pub kept_room : fields.most ≤ vec_capacity fields.kept
  pub vacant_room : fields.most ≤ vec_capacity fields.vacant
  pub ready_room : fields.most ≤ vec_capacity fields.ready
