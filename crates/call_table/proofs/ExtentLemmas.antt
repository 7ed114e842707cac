-- Starts and ends of clauses side by side.
use Rattle.std.proofs.Common.{List, [], ◌∷◌, map}
use Rattle.std.specs.List.{AllZip, zip}
use Rattle.prolog_tokens.specs.declared.token.Place.{Place}
use Rattle.file_library.specs.Loaded.{NamedText}
use Rattle.file_library.specs.Spots.{IsSpotPlace}
use Rattle.call_table.specs.declared.clause_at.ClauseAt.{ClauseAt}
use Rattle.call_table.specs.Table.{IsExtentOf, clause_end, clause_spot, extent}

pub extents_are : (texts : List NamedText) (clauses : List ClauseAt) (starts ends : List Place) → AllZip (IsSpotPlace texts) (map clause_spot clauses) starts
    → AllZip (IsSpotPlace texts) (map clause_end clauses) ends → AllZip (IsExtentOf texts) clauses (map extent (zip starts ends))
extents_are texts [] [] ends are also = tt
extents_are texts [] (s ∷ starts) ends are also = absurd are
extents_are texts (c ∷ clauses) [] ends are also = absurd are
extents_are texts (c ∷ clauses) (s ∷ starts) [] are also = absurd also
extents_are texts (c ∷ clauses) (s ∷ starts) (e ∷ ends) are also = (record { start = are.0; end = also.0 }, extents_are texts clauses starts ends are.1 also.1)
