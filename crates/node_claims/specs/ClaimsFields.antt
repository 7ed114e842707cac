-- How the fields hold the claims.
use Rattle.std.specs.Prelude.{◌≡◌, suc, length}
use Rattle.node_claims.specs.declared.claims.Claims.TheInside.{Inside}
use Rattle.node_claims.specs.Claims.{ClaimsValue}

abbrev pub claims_of : Inside → ClaimsValue
claims_of fields = record {
  table = fields.table.shared.table_id;
  lists = fields.table.shared.key.value.lists;
  roots = fields.table.shared.key.value.roots;
}

-- one word for the turn, one for each node, and one slot
abbrev pub IsClaims : Inside → Type 0
IsClaims fields =
    (fields.table.shared.table_id.words ≡ suc (length fields.table.shared.key.value.lists)) × (fields.table.shared.table_id.slots ≡ 1)
