-- The events of many searches on one thread.
use Rattle.std.specs.Prelude.{◌≡◌, ℕ, ◌<◌, ◌⊎◌, true, List, [], ◌∷◌, length, slice_index_or, slice_set, Option, None, Some}
use Rattle.graph_law.specs.Classes.{HasMember}
use Rattle.search_stack.specs.Stack.{Stack, size, node, top, position, low}
use Rattle.search_stack.specs.Search.{SearchValue, IsDone, IsOn, IsRipe, below_frame, empty_stack, lowered, next_successor, nodes_from, one_more_begun, pushed}
use Rattle.search_stack.specs.Search.{retreated}
use Rattle.blocked_table.specs.declared.suspended.Suspended.TheVariants.{Kept, Moved}
use Rattle.blocked_table.specs.Blocked.{HasReady, IsTaken, IsWoken}
use Rattle.blocked_table.specs.Kept.{kept_at}
use Rattle.blocked_table.specs.Suspending.{IsSuspended}
use Rattle.group_release.specs.Released.{IsAppended}
use Rattle.search_machine.specs.State.{State, IsClaimed, waiting_at}

-- at the place stands this then, and what stood at the others stays
pub record SetsAt (old new : List (Option SearchValue)) (place : ℕ) (after : Option SearchValue) : Type 0 where
  pub counted : length new ≡ length old
  pub at : kept_at new place ≡ after
  pub same : (i : ℕ) → (i ≡ place → ⊥) → kept_at new i ≡ kept_at old i

-- the search at the place goes on with this stack, wanting nothing, and the others stay
pub record GoesOn (old new : List (Option SearchValue)) (place : ℕ) (stack : Stack) : Type 0 where
  pub after : SearchValue
  pub stack_is : after.stack ≡ stack
  pub wants_nothing : after.wanted ≡ None
  pub sets : SetsAt old new place (Some after)

-- the place has no search and waits for no opening
pub record IsIdle (s : State) (place : ℕ) : Type 0 where
  pub within : place < length s.running
  pub at : kept_at s.running place ≡ None
  pub free : waiting_at s place ≡ None

-- the place has this search and waits for no opening
pub record Runs (s : State) (place : ℕ) (stack : Stack) : Type 0 where
  pub search : SearchValue
  pub at : kept_at s.running place ≡ Some search
  pub stack_is : stack ≡ search.stack
  pub free : waiting_at s place ≡ None

-- the top of the search at the place begins an edge to v, and has the stack `begun` then
pub record Begins (s : State) (place v : ℕ) (begun : Stack) : Type 0 where
  pub stack : Stack
  pub runs : Runs s place stack
  pub next : next_successor stack ≡ Some v
  pub is : begun ≡ one_more_begun stack (position stack (top stack))

-- the node is claimed, isn't released and isn't on the stack
pub record IsOther (s : State) (stack : Stack) (v : ℕ) : Type 0 where
  pub claimed : IsClaimed s v
  pub unreleased : HasMember s.groups v → ⊥
  pub off : IsOn stack v → ⊥

-- an idle place takes the next root, which is claimed already, and passes it over
pub record Skips (s : State) (place : ℕ) (t : State) : Type 0 where
  pub idle : IsIdle s place
  pub none_ready : HasReady s.kept → ⊥
  pub root : ℕ
  pub next : s.to_come ≡ root ∷ t.to_come
  pub claimed : IsClaimed s root
  pub only : t ≡ record s { to_come = t.to_come }

-- an idle place takes the next root, which isn't claimed yet, claims it, and waits for its opening
pub record TakesRoot (s : State) (place v : ℕ) (t : State) : Type 0 where
  pub idle : IsIdle s place
  pub none_ready : HasReady s.kept → ⊥
  pub next : s.to_come ≡ v ∷ t.to_come
  pub unclaimed : IsClaimed s v → ⊥
  pub only : t ≡ record s { to_come = t.to_come; claimed = slice_set s.claimed v true; waiting = slice_set s.waiting place (Some v) }

-- the top begins an edge to a node that isn't claimed yet, claims it, and waits for its opening
pub record ClaimsNext (s : State) (place v : ℕ) (t : State) : Type 0 where
  pub begun : Stack
  pub begins : Begins s place v begun
  pub unclaimed : IsClaimed s v → ⊥
  pub goes_on : GoesOn s.running t.running place begun
  pub only : t ≡ record s { running = t.running; claimed = slice_set s.claimed v true; waiting = slice_set s.waiting place (Some v) }

-- the place claims v and waits for its opening
abbrev pub Asks : State → ℕ → ℕ → State → Type 0
Asks s place v t = TakesRoot s place v t ⊎ ClaimsNext s place v t

-- the stack at a place, which is empty where no search is there
abbrev pub running_stack : Option SearchValue → Stack
running_stack None = empty_stack
running_stack (Some search) = search.stack

-- the node that the place waits for is opened: it is pushed with its successors
pub record Opens (lists : List (List ℕ)) (s : State) (place v : ℕ) (t : State) : Type 0 where
  pub waits : waiting_at s place ≡ Some v
  pub goes_on : GoesOn s.running t.running place (pushed (running_stack (kept_at s.running place)) v (slice_index_or lists v []))
  pub only : t ≡ record s { running = t.running; waiting = slice_set s.waiting place None }

-- an idle place takes a ready search
pub record Resumes (s : State) (place : ℕ) (t : State) : Type 0 where
  pub idle : IsIdle s place
  pub search : SearchValue
  pub taken : IsTaken s.kept t.kept search
  pub goes_on : GoesOn s.running t.running place search.stack
  pub only : t ≡ record s { running = t.running; kept = t.kept }

-- the top begins an edge back to a node of its own stack
pub record GoesBack (s : State) (place : ℕ) (t : State) : Type 0 where
  pub v : ℕ
  pub begun : Stack
  pub begins : Begins s place v begun
  pub at : ℕ
  pub within : at < size begun
  pub is : node begun at ≡ v
  pub goes_on : GoesOn s.running t.running place (lowered begun at)
  pub only : t ≡ record s { running = t.running }

-- the top begins an edge to a released node
pub record Passes (s : State) (place : ℕ) (t : State) : Type 0 where
  pub v : ℕ
  pub begun : Stack
  pub begins : Begins s place v begun
  pub released : HasMember s.groups v
  pub goes_on : GoesOn s.running t.running place begun
  pub only : t ≡ record s { running = t.running }

-- the top begins an edge to a node of another search, or to one that another place waits for, and following wants doesn't come back:
-- the search is kept
pub record Suspends (s : State) (place : ℕ) (t : State) : Type 0 where
  pub v : ℕ
  pub begun : Stack
  pub begins : Begins s place v begun
  pub other : IsOther s begun v
  pub search : SearchValue
  pub stack_is : search.stack ≡ begun
  pub kept : IsSuspended s.kept t.kept search v Kept
  pub leaves : SetsAt s.running t.running place None
  pub only : t ≡ record s { running = t.running; kept = t.kept }

-- and it comes back: what it leads over has moved on top of the search, which goes on
pub record Transfers (s : State) (place : ℕ) (t : State) : Type 0 where
  pub v : ℕ
  pub begun : Stack
  pub begins : Begins s place v begun
  pub other : IsOther s begun v
  pub search : SearchValue
  pub stack_is : search.stack ≡ begun
  pub after : SearchValue
  pub moved : IsSuspended s.kept t.kept search v (Moved after)
  pub goes_on : GoesOn s.running t.running place after.stack
  pub only : t ≡ record s { running = t.running; kept = t.kept }

-- the top has begun all, and its segment joins the one below
pub record Retreats (s : State) (place : ℕ) (t : State) : Type 0 where
  pub stack : Stack
  pub runs : Runs s place stack
  pub done : IsDone stack
  pub below : low stack (top stack) < position stack (top stack)
  pub goes_on : GoesOn s.running t.running place (retreated stack)
  pub only : t ≡ record s { running = t.running }

-- nothing of the search is left, and the place is idle, or it goes on with what is left
abbrev pub GoesOnWith : List (Option SearchValue) → List (Option SearchValue) → ℕ → Stack → Type 0
GoesOnWith old new place left = ((size left ≡ 0) × SetsAt old new place None) ⊎ ((0 < size left) × GoesOn old new place left)

-- the ripe top segment is released, and kept searches that want one of its nodes are ready
pub record Releases (s : State) (place : ℕ) (t : State) : Type 0 where
  pub stack : Stack
  pub runs : Runs s place stack
  pub ripe : IsRipe stack
  pub appended : IsAppended (record { count = length s.claimed; groups = s.groups }) (nodes_from stack (top stack))
      (record { count = length t.claimed; groups = t.groups })
  pub woken : IsWoken (nodes_from stack (top stack)) s.kept t.kept
  pub goes_on : GoesOnWith s.running t.running place (below_frame stack (top stack))
  pub only : t ≡ record s { running = t.running; kept = t.kept; groups = t.groups }

-- an event at the place that asks for no opening
pub data IsPlainEvent (place : ℕ) (s t : State) : Type 0 where
  skip : Skips s place t → IsPlainEvent place s t
  resume : Resumes s place t → IsPlainEvent place s t
  back : GoesBack s place t → IsPlainEvent place s t
  pass : Passes s place t → IsPlainEvent place s t
  suspend : Suspends s place t → IsPlainEvent place s t
  transfer : Transfers s place t → IsPlainEvent place s t
  retreat : Retreats s place t → IsPlainEvent place s t
  release : Releases s place t → IsPlainEvent place s t

-- one that claims a node, which is opened at once
pub record Claims (lists : List (List ℕ)) (s : State) (place : ℕ) (t : State) : Type 0 where
  pub v : ℕ
  pub between : State
  pub asks : Asks s place v between
  pub opens : Opens lists between place v t

-- what one turn of the place makes of the state
abbrev pub IsEvent : List (List ℕ) → ℕ → State → State → Type 0
IsEvent lists place s t = IsPlainEvent place s t ⊎ Claims lists s place t
