-- How the fields hold a turn.
use Rattle.std.specs.Prelude.{◌≡◌, true, false, [], ◌∷◌, Option, None, Some}
use Rattle.node_claims.specs.declared.turn.Turn.TheInside.{Inside}
use Rattle.node_claims.specs.declared.view.Taken.{Taken}
use Rattle.node_claims.specs.Claims.{TurnValue}

abbrev pub taken_of : Option Taken → Taken
taken_of (Some taken) = taken
taken_of None = record { book = record { lists = []; roots = []; failed = false; kept = []; wants = []; released = [] }; closed = [] }

abbrev pub turn_of : Inside → TurnValue
turn_of fields = record {
  table = fields.seat.table_id;
  view = record fields.seat.me.0 { turn = None };
  taken = taken_of fields.seat.me.0.turn;
  book = fields.book;
}

-- the seat is of these claims, has the slot, which is empty, wasn't joined away, and took what it took
abbrev pub IsTurn : Inside → Type 0
IsTurn fields =
    (fields.claims.now.table ≡ fields.seat.table_id)
    × ((fields.seat.me.1 ≡ (0, None) ∷ [])
    × ((fields.seat.me.0.live ≡ true)
    × ((fields.seat.me.0.turn ≡ Some (taken_of fields.seat.me.0.turn)) × (fields.claims.now.lists ≡ fields.seat.me.0.lists))))
