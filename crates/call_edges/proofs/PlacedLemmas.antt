-- Lines and columns of goals that aren't callable.
use Rattle.std.proofs.Common.{◌≡◌, ◌⊎◌, inl, inr, ℕ, ◌+◌, ◌<◌, List, [], ◌∷◌, ◌++◌, Some, Vec, Global, length, get_or, take, slice_get, ap, sym, ◌∙◌, subst, refl, arith}
use Rattle.std.specs.List.{AllZip}
use Rattle.std.specs.Ordering.{ordering_then, nat_cmp}
use Rattle.std.specs.declared.cmp.Ordering.{Ordering}
use Rattle.std.specs.declared.cmp.Ordering.TheVariants.{Less, Equal, Greater}
use Rattle.std.proofs.lemmas.Cmp.{ranked}
use Rattle.std.proofs.lemmas.List.{take_more}
use Rattle.std.proofs.lemmas.Option.{slice_get_within, get_or_from_slice_get}
use Rattle.list_laws.proofs.Members.{all_by}
use Rattle.list_laws.proofs.Zips.{zip_at, zip_one}
use Rattle.prolog_tokens.specs.declared.token.Place.{Place}
use Rattle.clause_text.specs.declared.cause.Cause.TheVariants.{NotCallable}
use Rattle.module_table.specs.Facts.{Facts}
use Rattle.file_library.specs.Loaded.{NamedText}
use Rattle.file_library.specs.declared.fault.Fault.{Fault}
use Rattle.file_library.specs.Spots.{IsUpto, AreSpots, IsSpotPlace, StandsInText, texts_of}
use Rattle.import_rules.specs.Files.{pair_cmp}
use Rattle.import_rules.specs.Program.{Seen, IsKnown, IsReadFrom}
use Rattle.call_edges.specs.ProgramRows.{rows_of}
use Rattle.import_rules.proofs.MetaTold.{seen_at}
use Rattle.call_edges.specs.FaultPlaces.{AreFaultPlaces, IsPlaced}
use Rattle.call_edges.proofs.CallOffsets.{zip_text}
use Rattle.call_edges.proofs.OffsetLemmas.{file_fault_stands}

-- pairs of numbers in order

pair_less_by : (o : Ordering) (a b : ℕ × ℕ) → o ≡ nat_cmp a.0 b.0 → ordering_then o (nat_cmp a.1 b.1) ≡ Less → (a.0 < b.0) ⊎ ((a.0 ≡ b.0) × (a.1 < b.1))
pair_less_by Less a b is less = inl (ranked a.0 b.0 Less is)
pair_less_by Equal a b is less = inr (ranked a.0 b.0 Equal is, ranked a.1 b.1 Less (sym less))
pair_less_by Greater a b is less = let both : Greater ≡ Less = less in absurd (cc)

pub pair_less : (a b : ℕ × ℕ) → pair_cmp a b ≡ Less → (a.0 < b.0) ⊎ ((a.0 ≡ b.0) × (a.1 < b.1))
pair_less a b less = pair_less_by (nat_cmp a.0 b.0) a b refl less

-- texts and files go side by side

pub read_at : (texts : List NamedText) (files : List Facts) (k : ℕ) (text : NamedText) (file : Facts) → AllZip IsReadFrom texts files → slice_get texts k ≡ Some text
    → slice_get files k ≡ Some file → IsReadFrom text file
read_at texts files k text file read here there =
    let zip = zip_at IsReadFrom texts files k text file read (slice_get_within texts k text here) in
    let P : NamedText → Type 0 = λ t. IsReadFrom t (get_or files k file) in
    subst (IsReadFrom text) (get_or_from_slice_get files k file file there) (subst P (get_or_from_slice_get texts k text text here) zip)

-- the places of goals that aren't callable are spots of the texts

pair_upto : (a b : ℕ × ℕ) → pair_cmp a b ≡ Less → IsUpto a b
pair_upto a b less = elim (pair_less a b less) [ inl lt ↦ inl lt | inr both ↦ inr (both.0, omega (arith, both.1)) ]

pub are_spots : (seen : Seen) (places : List (ℕ × ℕ)) → IsKnown seen → AreFaultPlaces seen places → AreSpots seen.loaded.texts places
are_spots seen places known are = record {
  ordered = λ i j d before lt. pair_upto (get_or places i d) (get_or places j d) (are.ordered i j d before lt);
  stand = all_by (λ (p : ℕ × ℕ). StandsInText seen.loaded.texts p.0 p.1) places
      (λ p has.
      let there = (are.each p).0 has in
      let text = zip_text seen.loaded.texts seen.loaded.files p.0 there.file known.read there.is in
      record { text = text.0; is = text.1; stands = file_fault_stands text.0.1 (rows_of seen) there.file p.1 text.2.placed there.met });
}

-- one more fault, with the line and the column of its spot
pub placed_more : (texts : List (List ℕ × Vec ℕ Global)) (spots : List (ℕ × ℕ)) (places : List Place) (k : ℕ) (d : ℕ × ℕ) (e : Place) (text : List ℕ × Vec ℕ Global) (name : List ℕ)
    (old new : List Fault) → AllZip (IsSpotPlace (texts_of texts)) spots places → k < length spots → text ≡ get_or texts (get_or spots k d).0 text → name ≡ text.0
    → new ≡ old ++ record { file = name; offset = (get_or spots k d).1; place = get_or places k e; cause = NotCallable } ∷ []
    → AllZip (IsPlaced (texts_of texts)) (take k spots) old → AllZip (IsPlaced (texts_of texts)) (take (k + 1) spots) new
placed_more texts spots places k d e text name old new zip lt read named is sofar =
    let see : List ℕ × Vec ℕ Global → NamedText = λ t. (t.0, t.1.items) in
    let spot = get_or spots k d in
    let at = zip_at (IsSpotPlace (texts_of texts)) spots places k d e zip lt in
    let own : see text ≡ at.text = seen_at see texts spot.0 text at.text read at.is in
    let placed : IsPlaced (texts_of texts) spot (record { file = name; offset = spot.1; place = get_or places k e; cause = NotCallable }) =
    record { text = at.text; is = at.is; placed = record { in_file = named ∙ ap (λ (t : NamedText). t.0) own; offset = refl; cause = refl; stands = at.stands } } in
    subst (AllZip (IsPlaced (texts_of texts)) (take (k + 1) spots)) (sym is)
    (subst (λ (xs : List (ℕ × ℕ)). AllZip (IsPlaced (texts_of texts)) xs (old ++ record { file = name; offset = spot.1; place = get_or places k e; cause = NotCallable } ∷ []))
    (sym (take_more spots k d lt)) (zip_one (IsPlaced (texts_of texts)) (take k spots) spot old _ sofar placed))

pub spot_within : (texts : List NamedText) (spots : List (ℕ × ℕ)) (places : List Place) (k : ℕ) (d : ℕ × ℕ) (e : Place) → AllZip (IsSpotPlace texts) spots places → k < length spots
    → (get_or spots k d).0 < length texts
spot_within texts spots places k d e zip lt =
    let at = zip_at (IsSpotPlace texts) spots places k d e zip lt in slice_get_within texts (get_or spots k d).0 at.text at.is
