-- Predicates of a program have a table of their clauses and their calls.
use Rattle.std.proofs.Common.{◌≡◌, ◌<◌, ◌≤◌, ◌^◌, ℕ, List, [], ◌∷◌, All, length, map, sym, subst, arith}
use Rattle.std.specs.List.{AllZip, zip}
use Rattle.std.proofs.lemmas.List.{length-map}
use Rattle.std.proofs.lemmas.List.Elements.{All-head, All-tail}
use Rattle.list_laws.proofs.Zips.{zip_count}
use Rattle.prolog_tokens.specs.declared.token.Place.{Place}
use Rattle.file_library.specs.Loaded.{NamedText, WasLoaded}
use Rattle.file_library.specs.Spots.{IsSpotPlace, StandsInText}
use Rattle.import_rules.specs.declared.resolve.TheConstants.{MOST_PREDICATES}
use Rattle.import_rules.specs.Program.{IsKnown, Seen}
use Rattle.import_rules.proofs.Loaded.{were_apart}
use Rattle.call_edges.specs.CallPlaces.{AreCallsOf, CallAt}
use Rattle.call_edges.specs.PlacedSeen.{see_calls}
use Rattle.call_edges.proofs.CallOffsets.{calls_stand}
use Rattle.call_table.specs.declared.clause_at.ClauseAt.{ClauseAt}
use Rattle.call_table.specs.declared.extents.Extent.{Extent}
use Rattle.call_table.specs.declared.table.CallTable.{CallTable}
use Rattle.call_table.specs.Memberships.{AreGroupsOf}
use Rattle.call_table.specs.Table.{IsExtentOf, IsTable, call_spot, clause_end, clause_spot, extent}
use Rattle.call_table.proofs.ClauseLemmas.{clauses_stand}
use Rattle.call_table.proofs.EndOrder.{ends_stand}
use Rattle.call_table.proofs.ExtentLemmas.{extents_are}
use Rattle.laws.proofs.CallCounts.{all_calls_few, all_clauses_few}
use Rattle.laws.proofs.KeptCalls.{kept, kept_seen}
use Rattle.laws.proofs.MemoryLists.{vec_of}
use Rattle.laws.proofs.OrderedClauses.{HasCalls, HasClauses, has_calls, has_clauses}
use Rattle.laws.proofs.Placed.{has_place}

-- the lines and the columns of spots

spot_place : (texts : List NamedText) (s : ℕ × ℕ) → StandsInText texts s.0 s.1 → (place : Place) × IsSpotPlace texts s place
spot_place texts s stands =
    let place = has_place stands.text.1 s.1 stands.stands in
    (place.0, record { text = stands.text; is = stands.is; stands = place.1 })

-- of what stands at them
abbrev pub HavePlaces : {X : Type 0} → (X → ℕ × ℕ) → List NamedText → List X → Type 0
HavePlaces spot texts xs = (places : List Place) × AllZip (IsSpotPlace texts) (map spot xs) places

pub each_place : {X : Type 0} (spot : X → ℕ × ℕ) (texts : List NamedText) (xs : List X) → All (λ x. StandsInText texts (spot x).0 (spot x).1) xs
    → HavePlaces spot texts xs
each_place spot texts [] stand = ([], tt)
each_place {X = X} spot texts (x ∷ xs) stand =
    let P : X → Type 0 = λ y. StandsInText texts (spot y).0 (spot y).1 in
    let first = spot_place texts (spot x) (All-head P x xs stand) in
    let rest = each_place spot texts xs (All-tail P x xs stand) in
    (first.0 ∷ rest.0, (first.1, rest.1))

as_many : {X : Type 0} (spot : X → ℕ × ℕ) (texts : List NamedText) (xs : List X) (places : HavePlaces spot texts xs) → length places.0 ≡ length xs
as_many spot texts xs places = omega (arith, zip_count (IsSpotPlace texts) (map spot xs) places.0 places.1, length-map xs spot)

-- of clauses
abbrev pub HaveExtents : List NamedText → List ClauseAt → Type 0
HaveExtents texts clauses = (extents : List Extent) × AllZip (IsExtentOf texts) clauses extents

each_extent : (texts : List NamedText) (clauses : List ClauseAt) → All (λ (c : ClauseAt). StandsInText texts c.file c.offset) clauses
    → All (λ (c : ClauseAt). StandsInText texts c.file c.end) clauses → HaveExtents texts clauses
each_extent texts clauses stand also =
    let starts = each_place clause_spot texts clauses stand in
    let ends = each_place clause_end texts clauses also in
    (map extent (zip starts.0 ends.0), extents_are texts clauses starts.0 ends.0 starts.1 ends.1)

-- the table of these lists

module _ (seen : Seen) (known : IsKnown seen) (was : WasLoaded seen.loaded) (nodes : List ℕ) (few : length nodes ≤ MOST_PREDICATES)
    (groups : List (List ℕ))
  where
    abbrev texts : List NamedText
    texts = seen.loaded.texts

    table_of : (clauses : HasClauses seen nodes) → HaveExtents texts clauses.clauses → (calls : HasCalls seen nodes)
        → HavePlaces call_spot texts calls.calls
        → (places : List ℕ) → AreGroupsOf (length seen.predicates) groups places → (table : CallTable) × IsTable seen nodes groups table
    table_of clauses extents calls call_places places are =
        let clauses_short : length clauses.clauses < 2 ^ 63 = omega (arith, clauses.fewer, all_clauses_few seen was nodes few) in
        let calls_short : length calls.calls < 2 ^ 63 = omega (arith, calls.fewer, all_calls_few seen was nodes few) in
        let back : see_calls (map kept calls.calls) ≡ calls.calls = kept_seen calls.calls in (
          record {
            clauses = vec_of clauses.clauses clauses_short;
            clause_extents = vec_of extents.0 (omega (arith, clauses_short, zip_count (IsExtentOf texts) clauses.clauses extents.0 extents.1));
            calls = vec_of (map kept calls.calls) (omega (arith, calls_short, length-map calls.calls kept));
            call_places = vec_of call_places.0 (omega (arith, calls_short, as_many call_spot texts calls.calls call_places));
            groups = vec_of places (omega (arith, are.each, known.few));
          },
          record {
            clauses = clauses.are;
            clause_extents = extents.1;
            calls = subst (AreCallsOf seen nodes) (sym back) calls.are;
            call_places = subst (λ (cs : List CallAt). AllZip (IsSpotPlace texts) (map call_spot cs) call_places.0) (sym back) call_places.1;
            groups_are = are;
          },
        )

    pub has_table : (places : List ℕ) → AreGroupsOf (length seen.predicates) groups places → (table : CallTable) × IsTable seen nodes groups table
    has_table places are =
        let clauses = has_clauses seen nodes in
        let calls = has_calls seen nodes in
        table_of clauses
        (each_extent texts clauses.clauses (clauses_stand seen nodes clauses.clauses known clauses.are)
        (ends_stand seen (were_apart seen.loaded was) nodes clauses.clauses clauses.are)) calls
        (each_place call_spot texts calls.calls (calls_stand seen nodes calls.calls known calls.are)) places are
