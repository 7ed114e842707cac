-- The table of a program's calls.
use Rattle.std.specs.Prelude.{ℕ, List, length, map}
use Rattle.std.specs.List.{AllZip}
use Rattle.prolog_tokens.specs.declared.token.Place.{Place}
use Rattle.import_rules.specs.Program.{Seen}
use Rattle.call_edges.specs.CallPlaces.{CallAt, AreCallsOf}
use Rattle.call_edges.specs.PlacedSeen.{see_calls}
use Rattle.call_edges.specs.declared.placed_calls.PlacedCall.{PlacedCall}
use Rattle.call_table.specs.declared.clause_at.ClauseAt.{ClauseAt}
use Rattle.call_table.specs.declared.extents.Extent.{Extent}
use Rattle.call_table.specs.declared.table.CallTable.{CallTable}
use Rattle.call_table.specs.Clauses.{AreClausesOf}
use Rattle.call_table.specs.Memberships.{AreGroupsOf}
use Rattle.file_library.specs.Loaded.{NamedText}
use Rattle.file_library.specs.Spots.{IsSpotPlace}

-- where a clause starts
abbrev pub clause_spot : ClauseAt → ℕ × ℕ
clause_spot c = (c.file, c.offset)

-- where it ends: directly after its last character
abbrev pub clause_end : ClauseAt → ℕ × ℕ
clause_end c = (c.file, c.end)

-- a start with the end beside it
abbrev pub extent : Place × Place → Extent
extent places = record { start = places.0; end = places.1 }

-- the lines and the columns of both
pub record IsExtentOf (texts : List NamedText) (c : ClauseAt) (extent : Extent) : Type 0 where
  pub start : IsSpotPlace texts (clause_spot c) extent.start
  pub end : IsSpotPlace texts (clause_end c) extent.end

-- where the goal of a call starts
abbrev pub call_spot : CallAt → ℕ × ℕ
call_spot c = (c.file, c.offset)

-- the same of a call that is kept
abbrev pub kept_spot : PlacedCall → ℕ × ℕ
kept_spot c = (c.named.file, c.named.offset)

-- all clauses of the predicates, with their lines and columns
pub record ArePlacedClauses (seen : Seen) (nodes : List ℕ) (clauses : List ClauseAt) (extents : List Extent) : Type 0 where
  pub are : AreClausesOf seen nodes clauses
  pub placed : AllZip (IsExtentOf seen.loaded.texts) clauses extents

-- all calls of the predicates, likewise
pub record ArePlacedCalls (seen : Seen) (nodes : List ℕ) (calls : List PlacedCall) (places : List Place) : Type 0 where
  pub are : AreCallsOf seen nodes (see_calls calls)
  pub placed : AllZip (IsSpotPlace seen.loaded.texts) (map call_spot (see_calls calls)) places

-- the table of these predicates and these groups: their clauses and their calls, each once and by file and offset, with lines and columns; and for each
-- predicate of the program the group that it is in
pub record IsTable (seen : Seen) (nodes : List ℕ) (groups : List (List ℕ)) (table : CallTable) : Type 0 where
  pub clauses : AreClausesOf seen nodes table.clauses.items
  pub clause_extents : AllZip (IsExtentOf seen.loaded.texts) table.clauses.items table.clause_extents.items
  pub calls : AreCallsOf seen nodes (see_calls table.calls.items)
  pub call_places : AllZip (IsSpotPlace seen.loaded.texts) (map call_spot (see_calls table.calls.items)) table.call_places.items
  pub groups_are : AreGroupsOf (length seen.predicates) groups table.groups.items
