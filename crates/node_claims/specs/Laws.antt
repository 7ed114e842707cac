-- What follows for every table that keeps the rule.
use Rattle.std.specs.Prelude.{◌≡◌, ◌⊎◌, ℕ, suc, ◌+◌, ◌<◌, true, [], ◌∷◌, length, slice_index, Some}
use mathlib.Core.Option.{some}
use lib.ListN.{get_elem?}
use Rattle.atomic_table.specs.Table.{State}
use Rattle.list_laws.specs.Counts.{flat, times, total}
use Rattle.group_release.specs.Book.{BookValue}
use Rattle.node_claims.specs.declared.view.View.{View}
use Rattle.node_claims.specs.Rule.{RuleHolds, Slot}

-- no node is with two passes
abbrev pub AreClaimedOnce : Type 0
AreClaimedOnce =
    (s : State Slot View) → RuleHolds s → (x i j : ℕ) (v w : View) → get_elem? s.views i ≡ some v → get_elem? s.views j ≡ some w
    → 0 < times x v.nodes → 0 < times x w.nodes → i ≡ j

-- a node whose word is 1 stands once, with a pass or on a kept search of the known book
abbrev pub StandSomewhere : Type 0
StandSomewhere =
    (s : State Slot View) (holds : RuleHolds s) (x : ℕ) → x < length holds.known.lists → slice_index s.words (suc x) ≡ 1
    → total (λ v. times x v.nodes) s.views + times x holds.known.kept ≡ 1

-- a node whose word isn't 0 is released in the known book, or stands once, with a pass or on a kept search
abbrev pub ClaimedStandOnce : Type 0
ClaimedStandOnce =
    (s : State Slot View) (holds : RuleHolds s) (x : ℕ) → x < length holds.known.lists → 0 < slice_index s.words (suc x)
    → (0 < times x (flat holds.known.released)) ⊎ (total (λ v. times x v.nodes) s.views + times x holds.known.kept ≡ 1)

-- and so does one that is closed while the turn lasts, whose word is 2
abbrev pub ClosedStandOnce : Type 0
ClosedStandOnce =
    (s : State Slot View) (holds : RuleHolds s) (x : ℕ) → x < length holds.known.lists → 0 < times x holds.closed
    → (slice_index s.words (suc x) ≡ 2)
    × ((0 < times x (flat holds.known.released)) ⊎ (total (λ v. times x v.nodes) s.views + times x holds.known.kept ≡ 1))

-- where a pass has told of a failure, a book that lies in the slot has failed
abbrev pub FailureStays : Type 0
FailureStays =
    (s : State Slot View) → RuleHolds s → (i : ℕ) (v : View) (book : BookValue) → get_elem? s.views i ≡ some v → v.live ≡ true → v.told ≡ true
    → s.homes ≡ some (Some book) ∷ [] → book.failed ≡ true
