-- What moves if a search would wait for itself when it is suspended.
use Rattle.std.specs.Prelude.{◌≡◌, ℕ, ◌<◌, ◌⊎◌, List, [], ◌∷◌, Option, None, Some}
use Rattle.search_stack.specs.Stack.{Stack, size, node}
use Rattle.search_stack.specs.Search.{SearchValue, IsCut, IsOn, below_frame, joined, last_begun, lowered as lowered_to}
use Rattle.blocked_table.specs.Kept.{kept_at}

-- what is left of a search that is cut at a frame: nothing, or the part below, which waits for the
-- last node that its top has begun
abbrev pub IsLeft : Option SearchValue → Stack → ℕ → Type 0
IsLeft left donor frame = ((frame ≡ 0) × (left ≡ None))
    ⊎ ((rest : SearchValue) × (left ≡ Some rest) × (rest.stack ≡ below_frame donor frame) × (0 < frame) × (rest.wanted ≡ last_begun rest.stack))

-- the search in a slot is cut at v, its upper part moves away, and it waited for a node before
pub record IsCutAway (now : List (Option SearchValue)) (v : ℕ) (cut : ℕ × ℕ) : Type 0 where
  pub donor : SearchValue
  pub at : kept_at now cut.0 ≡ Some donor
  pub cut_is : IsCut donor.stack v cut.1
  pub wants : ℕ
  pub wanted : donor.wanted ≡ Some wants
  pub next : List (Option SearchValue)
  pub left : IsLeft (kept_at next cut.0) donor.stack cut.1
  pub same : (i : ℕ) → (i ≡ cut.0 → ⊥) → kept_at next i ≡ kept_at now i

-- the search that holds v is cut there and comes on top of s, then the one that holds what it
-- waited for, and so on, up to the node `end`; each cut is a slot and a frame
abbrev pub ArePartsMoved : List (Option SearchValue) → Stack → ℕ → List (ℕ × ℕ) → List (Option SearchValue) → Stack → ℕ → Type 0
ArePartsMoved now s v [] new t end = (new ≡ now) × (t ≡ s) × (end ≡ v)
ArePartsMoved now s v (cut ∷ cuts) new t end =
    (away : IsCutAway now v cut) × ArePartsMoved away.next (joined s away.donor.stack cut.1) away.wants cuts new t end

-- following what searches wait for leads from v back to s: the upper parts have moved, the edge at
-- the end is a back edge, and each rest stays
pub record IsTransfer (old new : List (Option SearchValue)) (s : Stack) (v : ℕ) (t : Stack) : Type 0 where
  pub cuts : List (ℕ × ℕ)
  pub whole : Stack
  pub end : ℕ
  pub moved : ArePartsMoved old s v cuts new whole end
  pub back : IsOn s end
  pub place : ℕ
  pub within : place < size whole
  pub is : node whole place ≡ end
  pub lowered : t ≡ lowered_to whole place
