-- Calls of directives with their lines and columns.
use Rattle.std.specs.Prelude.{List, map}
use Rattle.std.specs.List.{AllZip}
use Rattle.prolog_tokens.specs.declared.token.Place.{Place}
use Rattle.file_library.specs.Spots.{IsSpotPlace}
use Rattle.import_rules.specs.Program.{Seen}
use Rattle.call_edges.specs.CallPlaces.{CallAt}
use Rattle.call_edges.specs.DirectiveCalls.{AreDirectiveCalls}
use Rattle.call_table.specs.Table.{call_spot}

-- all calls of goals of directives, with the line and the column of each
pub record ArePlacedDirectives (seen : Seen) (calls : List CallAt) (places : List Place) : Type 0 where
  pub are : AreDirectiveCalls seen calls
  pub placed : AllZip (IsSpotPlace seen.loaded.texts) (map call_spot calls) places
