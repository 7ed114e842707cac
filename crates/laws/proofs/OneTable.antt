-- A program has one table of the clauses and calls of its predicates.
use Rattle.std.proofs.Common.{◌≡◌, ℕ, List, [], ◌∷◌, map, refl, sym, ◌∙◌, subst}
use Rattle.std.specs.List.{AllZip}
use Rattle.std.specs.declared.cmp.Ordering.TheVariants.{Less}
use Rattle.std.proofs.lemmas.Option.{same_Some}
use Rattle.list_laws.proofs.OneOrder.{less_strict, same_order}
use Rattle.prolog_tokens.specs.declared.token.Place.{Place}
use Rattle.prolog_tokens.specs.Places.{IsPlace}
use Rattle.prolog_tokens.proofs.PlaceSteps.{place_once}
use Rattle.file_library.specs.Loaded.{NamedText}
use Rattle.file_library.specs.Spots.{IsSpotPlace}
use Rattle.import_rules.specs.Program.{Seen}
use Rattle.call_edges.specs.CallPlaces.{AreCallsOf, CallAt, call_cmp}
use Rattle.call_edges.specs.PlacedSeen.{see_calls}
use Rattle.call_edges.proofs.PlacedCallLemmas.{call_cmp_total}
use Rattle.call_table.specs.declared.clause_at.ClauseAt.{ClauseAt}
use Rattle.call_table.specs.declared.extents.Extent.{Extent}
use Rattle.call_table.specs.declared.table.CallTable.{CallTable}
use Rattle.call_table.specs.Clauses.{AreClausesOf, clause_cmp}
use Rattle.call_table.specs.Table.{IsExtentOf, IsTable, call_spot, clause_end, clause_spot}
use Rattle.call_table.proofs.ClauseLemmas.{clause_cmp_total}

same_clauses : (seen : Seen) (nodes : List ℕ) (clauses others : List ClauseAt) → AreClausesOf seen nodes clauses → AreClausesOf seen nodes others
    → clauses ≡ others
same_clauses seen nodes clauses others are also =
    same_order (λ a b. clause_cmp a b ≡ Less) (less_strict clause_cmp clause_cmp_total) clauses others are.ordered also.ordered
    (λ c has. (also.each c).1 ((are.each c).0 has)) (λ c has. (are.each c).1 ((also.each c).0 has))

same_calls : (seen : Seen) (nodes : List ℕ) (calls others : List CallAt) → AreCallsOf seen nodes calls → AreCallsOf seen nodes others → calls ≡ others
same_calls seen nodes calls others are also =
    same_order (λ a b. call_cmp a b ≡ Less) (less_strict call_cmp call_cmp_total) calls others are.ordered also.ordered
    (λ c has. (also.each c).1 ((are.each c).0 has)) (λ c has. (are.each c).1 ((also.each c).0 has))

-- each spot has one line and column
same_place : (texts : List NamedText) (s : ℕ × ℕ) (p q : Place) → IsSpotPlace texts s p → IsSpotPlace texts s q → p ≡ q
same_place texts s p q is also =
    let text : is.text ≡ also.text = same_Some is.text also.text (sym is.is ∙ also.is) in
    place_once also.text.1 s.1 p q (subst (λ (t : NamedText). IsPlace t.1 s.1 p) text is.stands) also.stands

pub same_places : (texts : List NamedText) (spots : List (ℕ × ℕ)) (ps qs : List Place) → AllZip (IsSpotPlace texts) spots ps
    → AllZip (IsSpotPlace texts) spots qs → ps ≡ qs
same_places texts [] [] [] are also = refl
same_places texts [] [] (q ∷ qs) are also = absurd also
same_places texts [] (p ∷ ps) qs are also = absurd are
same_places texts (s ∷ spots) [] qs are also = absurd are
same_places texts (s ∷ spots) (p ∷ ps) [] are also = absurd also
same_places texts (s ∷ spots) (p ∷ ps) (q ∷ qs) are also =
    let first = same_place texts s p q are.0 also.0 in
    let rest = same_places texts spots ps qs are.1 also.1 in
    λ i. first i ∷ rest i

-- and so does each clause
same_extent : (texts : List NamedText) (c : ClauseAt) (x y : Extent) → IsExtentOf texts c x → IsExtentOf texts c y → x ≡ y
same_extent texts c x y is also =
    let start = same_place texts (clause_spot c) x.start y.start is.start also.start in
    let end = same_place texts (clause_end c) x.end y.end is.end also.end in
    λ i. record { start = start i; end = end i }

same_extents : (texts : List NamedText) (clauses : List ClauseAt) (xs ys : List Extent) → AllZip (IsExtentOf texts) clauses xs
    → AllZip (IsExtentOf texts) clauses ys → xs ≡ ys
same_extents texts [] [] [] are also = refl
same_extents texts [] [] (y ∷ ys) are also = absurd also
same_extents texts [] (x ∷ xs) ys are also = absurd are
same_extents texts (c ∷ clauses) [] ys are also = absurd are
same_extents texts (c ∷ clauses) (x ∷ xs) [] are also = absurd also
same_extents texts (c ∷ clauses) (x ∷ xs) (y ∷ ys) are also =
    let first = same_extent texts c x y are.0 also.0 in
    let rest = same_extents texts clauses xs ys are.1 also.1 in
    λ i. first i ∷ rest i

module _ (seen : Seen) (nodes : List ℕ) (groups others : List (List ℕ)) (a b : CallTable)
    (is : IsTable seen nodes groups a) (also : IsTable seen nodes others b)
  where
    pub one_clauses : a.clauses.items ≡ b.clauses.items
    one_clauses = same_clauses seen nodes a.clauses.items b.clauses.items is.clauses also.clauses

    pub one_clause_extents : a.clause_extents.items ≡ b.clause_extents.items
    one_clause_extents =
        let texts = seen.loaded.texts in
        let P : List ClauseAt → Type 0 = λ cs. AllZip (IsExtentOf texts) cs a.clause_extents.items in
        same_extents texts b.clauses.items a.clause_extents.items b.clause_extents.items (subst P one_clauses is.clause_extents) also.clause_extents

    pub one_calls : see_calls a.calls.items ≡ see_calls b.calls.items
    one_calls = same_calls seen nodes (see_calls a.calls.items) (see_calls b.calls.items) is.calls also.calls

    pub one_call_places : a.call_places.items ≡ b.call_places.items
    one_call_places =
        let texts = seen.loaded.texts in
        let P : List CallAt → Type 0 = λ cs. AllZip (IsSpotPlace texts) (map call_spot cs) a.call_places.items in
        same_places texts (map call_spot (see_calls b.calls.items)) a.call_places.items b.call_places.items (subst P one_calls is.call_places) also.call_places
