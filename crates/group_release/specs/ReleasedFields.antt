-- How the fields hold the released groups.
use Rattle.std.specs.Prelude.{◌≡◌, ℕ, ◌≤◌, ◌↔◌, true, false, length, slice_index_or, vec_capacity}
use Rattle.graph_law.specs.Classes.{HasMember}
use Rattle.graph_law.specs.Graph.{lists_of}
use Rattle.group_release.specs.declared.released.Released.TheInside.{Inside}
use Rattle.group_release.specs.Released.{ReleasedGroups, AreReleased}

abbrev pub value_of : Inside → ReleasedGroups
value_of fields = record { count = length fields.held.items; groups = lists_of fields.groups.items }

-- a node is marked just where a group has it, and there is room for as many groups as nodes
pub record IsReleased (fields : Inside) : Type 0 where
  pub released : AreReleased (value_of fields)
  pub marks : (p : ℕ) → (slice_index_or fields.held.items p false ≡ true) ↔ HasMember (value_of fields).groups p
  pub room : length fields.held.items ≤ vec_capacity fields.groups
