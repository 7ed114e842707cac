-- What each kind of step tells, and when it may be made.
use Rattle.std.specs.Prelude.{◌≡◌, ◌≢◌, ◌⊎◌, ℕ, zero, suc, ◌+◌, ◌<◌, ◌≤◌, Bool, true, false, List, [], ◌∷◌, ◌++◌, length, Option, None, Some}
use Rattle.atomic_table.specs.Table.{Me, Step}
use Rattle.list_laws.specs.Counts.{times, flat, IsLonger}
use Rattle.group_release.specs.Book.{BookValue}
use Rattle.node_claims.specs.declared.view.Outline.{Outline}
use Rattle.node_claims.specs.declared.view.Taken.{Taken}
use Rattle.node_claims.specs.declared.view.View.{View}
use Rattle.node_claims.specs.Views.{Noted, held_word, claimed, looked, outline_of}
use Rattle.node_claims.specs.Rule.{Slot}

-- node x has word x + 1
abbrev pub node_of : ℕ → ℕ
node_of zero = zero
node_of (suc x) = x

-- the number is no less than what the pass knew of the node
pub record IsLater (x : ℕ) (v : View) (n : ℕ) : Type 0 where
  pub small : n ≤ 2
  pub held : Noted x held_word v.looks → 0 < n
  pub own : 0 < times x v.nodes → 0 < n
  pub seen : 0 < times x v.seen → n ≡ 2

abbrev pub claims : Step Slot → Me Slot View → ℕ → Me Slot View → Type 0
claims st m n m' = IsLater (node_of st.word) m.0 n × (m' ≡ (claimed (node_of st.word) n m.0, m.1))

abbrev pub looks_at : Step Slot → Me Slot View → ℕ → Me Slot View → Type 0
looks_at st m n m' = IsLater (node_of st.word) m.0 n × (m' ≡ (looked (node_of st.word) n m.0, m.1))

-- what the taken book is to the pass that took it: what it saw finished is released, what it has is neither released nor kept, and a book that
-- it gave back failed has failed
pub record IsLent (v : View) (o : Outline) : Type 0 where
  pub lists : v.lists ≡ o.lists
  pub roots : v.roots ≡ o.roots
  pub seen : (x : ℕ) → 0 < times x v.seen → 0 < times x (flat o.released)
  pub apart : (x : ℕ) → times x v.nodes + (times x o.kept + times x (flat o.released)) ≤ 1
  pub below : (x : ℕ) → 0 < times x v.nodes + (times x o.kept + times x (flat o.released)) → x < length o.lists
  pub told : v.told ≡ true → o.failed ≡ true

pub record Took (m m' : Me Slot View) : Type 0 where
  pub book : BookValue
  pub view : m'.0 ≡ record m.0 { turn = Some (record { book = outline_of book; closed = [] }) }
  pub slots : m'.1 ≡ (0, Some book) ∷ m.1
  pub lent : IsLent m.0 (outline_of book)

-- the turn is taken where the word was 0, and else nothing changes
abbrev pub takes_turn : Step Slot → Me Slot View → ℕ → Me Slot View → Type 0
takes_turn st m n m' = (n ≡ 0 → Took m m') × (n ≢ 0 → m' ≡ m)

abbrev pub one_more_closed : ℕ → Option Taken → Option Taken
one_more_closed x None = None
one_more_closed x (Some t) = Some (record { book = t.book; closed = t.closed ++ x ∷ [] })

abbrev pub closes : Step Slot → Me Slot View → ℕ → Me Slot View → Type 0
closes st m n m' = m' ≡ (record m.0 { turn = one_more_closed (node_of st.word) m.0.turn }, m.1)

-- the node may be closed: it stood with the pass or on a kept search as the turn was taken, and isn't closed yet
pub record MayClose (v : View) (t : Taken) (x : ℕ) : Type 0 where
  pub stands : 0 < times x v.nodes + times x t.book.kept
  pub open_yet : times x t.closed ≡ 0

abbrev pub released_in : List (ℕ × Slot) → List ℕ
released_in ((k, Some book) ∷ held) = flat book.groups
released_in _ = []

abbrev pub failed_in : List (ℕ × Slot) → Bool
failed_in ((k, Some book) ∷ held) = book.failed
failed_in _ = false

-- the pass has these nodes then, has seen all that is released, and has told of a failure where the book has failed
abbrev pub gives_turn : List ℕ → Step Slot → Me Slot View → ℕ → Me Slot View → Type 0
gives_turn nodes st m n m' = m' ≡ (record m.0 { nodes = nodes; seen = m.0.seen ++ released_in m.1; told = failed_in m.1; turn = None }, [])

-- the book may come back, and the pass has these nodes then: a book that had failed still has, no node is lost or doubled, groups were released
-- behind the others, what was released anew is what was closed, and each wanted node was wanted before, stands here or was found held by this
-- pass
pub record MayGive (v : View) (t : Taken) (now : Outline) (nodes : List ℕ) : Type 0 where
  pub lists : now.lists ≡ t.book.lists
  pub roots : now.roots ≡ t.book.roots
  pub failed : t.book.failed ≡ true → now.failed ≡ true
  pub released : IsLonger t.book.released now.released
  pub closed : (x : ℕ) → times x (flat now.released) ≡ times x (flat t.book.released) + times x t.closed
  pub same : (x : ℕ) → times x nodes + (times x now.kept + times x (flat now.released))
      ≡ times x v.nodes + (times x t.book.kept + times x (flat t.book.released))
  pub wants : (x : ℕ) → 0 < times x now.wants
      → (0 < times x t.book.wants) ⊎ ((0 < times x nodes + (times x now.kept + times x (flat now.released))) ⊎ Noted x held_word v.looks)
