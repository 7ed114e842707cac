-- Rows of a table, cut into stretches that are written side by side.
use Rattle.std.specs.Prelude.{ℕ, ◌≡◌, List, Bool, All, length, flat_map, zip}
use Rattle.prolog_tokens.specs.declared.token.Place.{Place}
use Rattle.import_rules.specs.Program.{Seen}
use Rattle.call_edges.specs.PlacedSeen.{see_calls}
use Rattle.call_edges.specs.declared.placed_calls.PlacedCall.{PlacedCall}
use Rattle.call_table.specs.declared.clause_at.ClauseAt.{ClauseAt}
use Rattle.call_table.specs.declared.extents.Extent.{Extent}
use Rattle.call_writer.specs.Lines.{call_line_if, clause_line}
use Rattle.call_told.specs.declared.stretches.Stretch.{Stretch}

-- the stretches, one behind the other, are the rows and their places, and each has as many rows as places
pub record AreStretches {T P : Type 0} (rows : List T) (places : List P) (cut : List (Stretch T P)) : Type 0 where
  pub rows_are : flat_map (λ (s : Stretch T P). s.rows.now) cut ≡ rows
  pub places_are : flat_map (λ (s : Stretch T P). s.places.now) cut ≡ places
  pub even : All (λ (s : Stretch T P). length s.rows.now ≡ length s.places.now) cut

-- the lines of a stretch of calls
abbrev pub call_stretch : Bool → Seen → Stretch PlacedCall Place → List ℕ
call_stretch undefined seen s = flat_map (λ pair. call_line_if undefined seen pair.0 pair.1) (zip (see_calls s.rows.now) s.places.now)

-- the lines of a stretch of clauses
abbrev pub clause_stretch : Seen → Stretch ClauseAt Extent → List ℕ
clause_stretch seen s = flat_map (λ pair. clause_line seen pair.0 pair.1) (zip s.rows.now s.places.now)
