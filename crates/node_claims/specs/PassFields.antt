-- How the fields hold a pass.
use Rattle.std.specs.Prelude.{◌≡◌, true, [], None}
use Rattle.node_claims.specs.declared.pass.Pass.TheInside.{Inside}
use Rattle.node_claims.specs.Claims.{PassValue}

abbrev pub pass_of : Inside → PassValue
pass_of fields = record { table = fields.seat.table_id; view = fields.seat.me.0 }

-- it has no slot, wasn't joined away, and hasn't the turn
abbrev pub IsPass : Inside → Type 0
IsPass fields = (fields.seat.me.1 ≡ []) × ((fields.seat.me.0.live ≡ true) × (fields.seat.me.0.turn ≡ None))
