-- What holds between any two steps, of the words of the nodes, the word of the turn, the book in its slot and what all passes know.
use Rattle.std.specs.Prelude.{◌≡◌, ◌≢◌, ◌⊎◌, ℕ, suc, ◌+◌, ◌<◌, ◌≤◌, true, List, [], ◌∷◌, length, slice_index, Option, None, Some}
use mathlib.Core.Option.{none, some}
use lib.ListN.{get_elem?}
use Rattle.atomic_table.specs.Table.{State}
use Rattle.list_laws.specs.Counts.{times, flat, total}
use Rattle.group_release.specs.Book.{BookValue}
use Rattle.node_claims.specs.declared.view.Outline.{Outline}
use Rattle.node_claims.specs.declared.view.View.{View}
use Rattle.node_claims.specs.Views.{Noted, finished_word, held_word, outline_of, unseen_word}

-- the slot has a book, or none while a pass puts it back
abbrev pub Slot : Type 0
Slot = Option BookValue

-- how often x stands on the lists of all passes, of the kept searches and of the released groups
abbrev pub standing : List View → Outline → ℕ → ℕ
standing views o x = total (λ v. times x v.nodes) views + (times x o.kept + times x (flat o.released))

-- how often it is released or closed
abbrev pub finished : Outline → List ℕ → ℕ → ℕ
finished o closed x = times x (flat o.released) + times x closed

-- the word says that the node stands nowhere, that it stands somewhere, or that it is finished
pub record WordIs (stands done word : ℕ) : Type 0 where
  pub unseen : stands ≡ 0 → word ≡ unseen_word
  pub held : 0 < stands → done ≡ 0 → word ≡ held_word
  pub closed : 0 < done → word ≡ finished_word

-- what a pass knows is so: it has the graph and the roots, what it saw finished is finished, what it found held stands somewhere, and a book
-- that it gave back failed has failed
pub record Agrees (o : Outline) (stands done : ℕ → ℕ) (v : View) : Type 0 where
  pub lists : v.lists ≡ o.lists
  pub roots : v.roots ≡ o.roots
  pub seen : (x : ℕ) → 0 < times x v.seen → 0 < done x
  pub held : (x : ℕ) → Noted x held_word v.looks → 0 < stands x
  pub finished : (x : ℕ) → Noted x finished_word v.looks → 0 < times x v.seen
  pub told : v.told ≡ true → o.failed ≡ true

-- the word of the turn is 0, the book is in the slot, and no pass has the turn
pub record AtHome (s : State Slot View) (o : Outline) (closed : List ℕ) : Type 0 where
  pub book : BookValue
  pub word : slice_index s.words 0 ≡ 0
  pub homes : s.homes ≡ some (Some book) ∷ []
  pub outline : outline_of book ≡ o
  pub none_closed : closed ≡ []
  pub none_has : (k : ℕ) (v : View) → get_elem? s.views k ≡ some v → v.turn ≡ None

-- the word of the turn is 1, and one pass has the turn, and no two
pub record IsOut (s : State Slot View) (o : Outline) (closed : List ℕ) : Type 0 where
  pub seat : ℕ
  pub holder : View
  pub word : slice_index s.words 0 ≡ 1
  pub homes : s.homes ≡ none ∷ []
  pub at : get_elem? s.views seat ≡ some holder
  pub has : holder.turn ≡ Some (record { book = o; closed = closed })
  pub no_other : (k : ℕ) (v : View) → get_elem? s.views k ≡ some v → k ≢ seat → v.turn ≡ None

-- The known book is the one in the slot, or else the one that a pass took. Each node stands once on all lists together, and tells by its
-- word whether it stands there and whether it is finished. Each pass knows what is so, and each wanted node stands somewhere.
pub record RuleHolds (s : State Slot View) : Type 0 where
  pub known : Outline
  pub closed : List ℕ
  pub turn : AtHome s known closed ⊎ IsOut s known closed
  pub count : length s.words ≡ suc (length known.lists)
  pub once : (x : ℕ) → standing s.views known x ≤ 1
  pub below : (x : ℕ) → 0 < standing s.views known x → x < length known.lists
  pub words : (x : ℕ) → x < length known.lists → WordIs (standing s.views known x) (finished known closed x) (slice_index s.words (suc x))
  pub agrees : (k : ℕ) (v : View) → get_elem? s.views k ≡ some v → v.live ≡ true → Agrees known (standing s.views known) (finished known closed) v
  pub wants : (x : ℕ) → 0 < times x known.wants → 0 < standing s.views known x
