-- Rows of a table that are cut into stretches, and the lines of these one behind the other.
use Rattle.std.proofs.Common.{◌≡◌, ℕ, suc, ◌+◌, List, [], ◌∷◌, ◌++◌, All, String, Global, Result, Ok, Err, IfOk, length, map, ap, sym, ◌∙◌, subst, refl, append_assoc, append-nil, arith}
use Rattle.std.specs.Prelude.{Contains, MatchResult}
use Rattle.std.specs.List.{AllZip, flat_map, zip}
use Rattle.std.specs.String.{string_bytes}
use Rattle.std.specs.declared.alloc.AllocError.{AllocError}
use Rattle.std.proofs.lemmas.Grind.{flat_map-append}
use Rattle.std.proofs.lemmas.List.{flat_map_more, length-map, nil_from_length}
use Rattle.std.proofs.lemmas.List.Elements.{All-push}
use Rattle.rayon.proofs.ListFacts.{zip-append}
use Rattle.import_rules.specs.Program.{Seen}
use Rattle.call_edges.specs.PlacedSeen.{see_call, see_calls}
use Rattle.list_laws.proofs.Zips.{zip_count}
use Rattle.call_table.specs.Table.{IsExtentOf, IsTable, call_spot}
use Rattle.file_library.specs.Spots.{IsSpotPlace}
use Rattle.call_table.specs.declared.table.CallTable.{CallTable}
use Rattle.call_told.specs.Stretches.{AreStretches}
use Rattle.call_told.specs.Told.{joined}
use Rattle.call_told.specs.declared.stretches.Stretch.{Stretch}

-- one list more, off the front of what is left
flat_push : {X A : Type 0} (f : X → List A) (xs : List X) (x : X) (near far rest all : List A) → rest ≡ near ++ far → f x ≡ near
    → flat_map f xs ++ rest ≡ all → flat_map f (xs ++ x ∷ []) ++ far ≡ all
flat_push f xs x near far rest all split is so_far =
    ap (λ l. l ++ far) (sym (flat_map_more f [] xs x))
    ∙ (append_assoc (flat_map f xs) (f x) far ∙ (ap (λ l. flat_map f xs ++ l) (ap (λ n. n ++ far) is ∙ sym split) ∙ so_far))

module _ {T P : Type 0} where
  abbrev pub rows_of : List (Stretch T P) → List T
  rows_of cut = flat_map (λ (s : Stretch T P). s.rows.now) cut

  abbrev pub places_of : List (Stretch T P) → List P
  places_of cut = flat_map (λ (s : Stretch T P). s.places.now) cut

  -- the rows up to what is left of them are cut, with their places
  pub record IsCutting (rows rest : List T) (places later : List P) (cut : List (Stretch T P)) : Type 0 where
    pub rows_are : rows_of cut ++ rest ≡ rows
    pub places_are : places_of cut ++ later ≡ places
    pub even : All (λ (s : Stretch T P). length s.rows.now ≡ length s.places.now) cut
    pub left : length rest ≡ length later

  pub cutting_none : (rows : List T) (places : List P) (cut : List (Stretch T P)) → length rows ≡ length places → cut ≡ [] → IsCutting rows rows places places cut
  cutting_none rows places cut as_many none =
      subst (λ (ss : List (Stretch T P)). IsCutting rows rows places places ss) (sym none)
      (record { rows_are = refl; places_are = refl; even = λ k d lt. absurd (omega (arith, lt)); left = as_many })

  pub cutting_more : (rows rest near far : List T) (places later near_by far_by : List P) (size : ℕ) (cut next : List (Stretch T P)) (s : Stretch T P)
      → IsCutting rows rest places later cut → rest ≡ near ++ far → later ≡ near_by ++ far_by → length near ≡ size → length near_by ≡ size
      → length far + size ≡ length rest → length far_by + size ≡ length later → s.rows.now ≡ near → s.places.now ≡ near_by → next ≡ cut ++ s ∷ []
      → IsCutting rows far places far_by next
  cutting_more rows rest near far places later near_by far_by size cut next s is split split_by long long_by left left_by own own_by pushed =
      subst (λ (ss : List (Stretch T P)). IsCutting rows far places far_by ss) (sym pushed)
      (record {
        rows_are = flat_push (λ (t : Stretch T P). t.rows.now) cut s near far rest rows split own is.rows_are;
        places_are = flat_push (λ (t : Stretch T P). t.places.now) cut s near_by far_by later places split_by own_by is.places_are;
        even = All-push (λ (t : Stretch T P). length t.rows.now ≡ length t.places.now) cut s is.even (ap length own ∙ (long ∙ (sym long_by ∙ ap length (sym own_by))));
        left = omega (arith, left, left_by, is.left);
      })

  pub cutting_done : (rows rest : List T) (places later : List P) (cut : List (Stretch T P)) → IsCutting rows rest places later cut → length rest ≡ 0
      → AreStretches rows places cut
  cutting_done rows rest places later cut is none =
      let none_by : length later ≡ 0 = omega (arith, none, is.left) in
      record {
        rows_are = sym (ap (λ l. rows_of cut ++ l) (nil_from_length rest none) ∙ append-nil (rows_of cut)) ∙ is.rows_are;
        places_are = sym (ap (λ l. places_of cut ++ l) (nil_from_length later none_by) ∙ append-nil (places_of cut)) ∙ is.places_are;
        even = is.even;
      }

module _ {T P X : Type 0} (see : List T → List X) (none : see [] ≡ []) (both : (a b : List T) → see (a ++ b) ≡ see a ++ see b)
    (as_long : (a : List T) → length (see a) ≡ length a) (f : X × P → List ℕ) where
  -- the lines of one stretch
  abbrev pub lines_of : Stretch T P → List ℕ
  lines_of s = flat_map f (zip (see s.rows.now) s.places.now)

  each_line : (cut : List (Stretch T P)) → All (λ (s : Stretch T P). length s.rows.now ≡ length s.places.now) cut
      → flat_map lines_of cut ≡ flat_map f (zip (see (rows_of cut)) (places_of cut))
  each_line [] even = ap (λ xs. flat_map f (zip xs [])) (sym none)
  each_line (s ∷ cut) even =
      let later : All (λ (t : Stretch T P). length t.rows.now ≡ length t.places.now) cut = λ k d lt. even (suc k) d (omega (arith, lt)) in
      let here : length (see s.rows.now) ≡ length s.places.now = as_long s.rows.now ∙ even 0 s (omega arith) in
      ap (λ l. lines_of s ++ l) (each_line cut later)
      ∙ (sym (flat_map-append f (zip (see s.rows.now) s.places.now) (zip (see (rows_of cut)) (places_of cut)))
      ∙ (ap (flat_map f) (sym (zip-append (see s.rows.now) (see (rows_of cut)) s.places.now (places_of cut) here))
      ∙ ap (λ xs. flat_map f (zip xs (s.places.now ++ places_of cut))) (sym (both s.rows.now (rows_of cut)))))

  pub all_lines : (rows : List T) (places : List P) (cut : List (Stretch T P)) → AreStretches rows places cut
      → flat_map lines_of cut ≡ flat_map f (zip (see rows) places)
  all_lines rows places cut are = each_line cut are.even ∙ (λ i. flat_map f (zip (see (are.rows_are i)) (are.places_are i)))

-- the texts that were made, where memory was wanting for none

abbrev pub found_text : String Global → Result (String Global) AllocError
found_text text = Ok text

texts_joined : {S : Type 0} (f : S → List ℕ) (xs : List S) (texts : List (String Global)) → AllZip (λ x one. IfOk one (λ text. string_bytes text ≡ f x)) xs (map found_text texts)
    → joined texts ≡ flat_map f xs
texts_joined f [] [] made = refl
texts_joined f [] (text ∷ texts) made = absurd made
texts_joined f (x ∷ xs) [] made = absurd made
texts_joined f (x ∷ xs) (text ∷ texts) made = λ i. made.0 i ++ texts_joined f xs texts made.1 i

pub texts_found : {V S : Type 0} (items : V → List (String Global)) (f : S → List ℕ) (xs : List S) (each : List (Result (String Global) AllocError)) (found : Result V AllocError)
    → AllZip (λ x one. IfOk one (λ text. string_bytes text ≡ f x)) xs each
    → MatchResult found (λ v. (texts : List (String Global)) × (each ≡ map found_text texts) × (items v ≡ texts)) (λ e. Contains each (Err e))
    → IfOk found (λ v. joined (items v) ≡ flat_map f xs)
texts_found {S = S} items f xs each (Ok v) made is =
    let R : S → Result (String Global) AllocError → Type 0 = λ x one. IfOk one (λ text. string_bytes text ≡ f x) in
    ap joined is.2 ∙ texts_joined f xs is.0 (subst (AllZip R xs) is.1 made)
texts_found items f xs each (Err e) made is = tt

-- what is made of parts of a list, one behind the other
pub parts_lines : {X : Type 0} (f : X → List ℕ) (parts : List (List X)) → flat_map (flat_map f) parts ≡ flat_map f (flat_map (λ part. part) parts)
parts_lines f [] = refl
parts_lines f (part ∷ parts) =
    ap (λ l. flat_map f part ++ l) (parts_lines f parts) ∙ sym (flat_map-append f part (flat_map (λ one. one) parts))

-- one text behind another
pub text_behind : (texts more : List (String Global)) → joined (texts ++ more) ≡ joined texts ++ joined more
text_behind texts more = flat_map-append (λ (text : String Global). string_bytes text) texts more

pub one_text : (text : String Global) → joined (text ∷ []) ≡ string_bytes text
one_text text = append-nil (string_bytes text)

-- texts, and others behind them twice
pub lines_joined : (first clauses calls more all : List (String Global)) → more ≡ first ++ clauses → all ≡ more ++ calls
    → joined all ≡ joined first ++ (joined clauses ++ joined calls)
lines_joined first clauses calls more all append also =
    ap joined (also ∙ ap (λ l. l ++ calls) append)
    ∙ (text_behind (first ++ clauses) calls
    ∙ (ap (λ l. l ++ joined calls) (text_behind first clauses) ∙ append_assoc (joined first) (joined clauses) (joined calls)))

-- a table has a place for each row

pub calls_even : (seen : Seen) (nodes : List ℕ) (groups : List (List ℕ)) (table : CallTable) → IsTable seen nodes groups table
    → length table.calls.items ≡ length table.call_places.items
calls_even seen nodes groups table is =
    let calls = see_calls table.calls.items in
    omega (arith, zip_count (IsSpotPlace seen.loaded.texts) (map call_spot calls) table.call_places.items is.call_places, length-map calls call_spot, length-map table.calls.items see_call)

pub clauses_even : (seen : Seen) (nodes : List ℕ) (groups : List (List ℕ)) (table : CallTable) → IsTable seen nodes groups table
    → length table.clauses.items ≡ length table.clause_extents.items
clauses_even seen nodes groups table is =
    zip_count (IsExtentOf seen.loaded.texts) table.clauses.items table.clause_extents.items is.clause_extents
