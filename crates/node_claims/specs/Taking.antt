-- What a pass has when it took the turn.
use Rattle.std.specs.Prelude.{◌≡◌, true, [], ◌∷◌, None, Some}
use Rattle.atomic_table.specs.declared.shared.Seat.{Seat}
use Rattle.group_release.specs.Book.{BookValue}
use Rattle.node_claims.specs.declared.view.View.{View}
use Rattle.node_claims.specs.Claims.{PassValue}
use Rattle.node_claims.specs.Rule.{Slot}
use Rattle.node_claims.specs.Steps.{IsLent}
use Rattle.node_claims.specs.Views.{outline_of}

-- the seat knows the book as it was taken, and the slot is empty
pub record IsTurnTaken (pass : PassValue) (seat : Seat Slot View) (book : BookValue) : Type 0 where
  pub table : seat.table_id ≡ pass.table
  pub live : pass.view.live ≡ true
  pub free : pass.view.turn ≡ None
  pub me : seat.me ≡ (record pass.view { turn = Some (record { book = outline_of book; closed = [] }) }, (0, None) ∷ [])
  pub lent : IsLent pass.view (outline_of book)
