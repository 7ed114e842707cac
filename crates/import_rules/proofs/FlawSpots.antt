-- Where what is wrong stands: file by file, in order.
use Rattle.std.proofs.Common.{◌≡◌, ℕ, ◌+◌, ◌<◌, ◌≤◌, true, false, List, [], ◌∷◌, ◌++◌, ◌⊎◌, Some, Vec, Global, All, Contains, length, map, take, slice_get, get_or, refl, sym, ap, ◌∙◌, subst, inl, inr, arith, append_assoc}
use Rattle.std.specs.List.{AllZip, list_any}
use Rattle.std.specs.List.Sorted.{IsSortedBy, IsSorted}
use Rattle.std.specs.Ordering.{nat_cmp, is_eq, is_lt, ordering_then}
use Rattle.std.specs.Cmp.{IsTotalOrder}
use Rattle.std.specs.Cmp.Lexicographic.{slice_cmp}
use Rattle.std.specs.declared.cmp.Ordering.{Ordering}
use Rattle.std.specs.declared.cmp.Ordering.TheVariants.{Less, Equal, Greater}
use Rattle.std.proofs.lemmas.Bool.{cases_order}
use Rattle.std.proofs.lemmas.Cmp.{then_total, on_total, nat_list_cmp_total, nat_cmp_total, tied_itself, ranked}
use Rattle.std.proofs.lemmas.List.{length-map, get_or-map, get_or_default, map-append, take_more}
use Rattle.std.proofs.lemmas.Simd.{map-map}
use Rattle.std.proofs.lemmas.List.Elements.{All-contains, Contains-get_or}
use Rattle.std.proofs.lemmas.List.Sorted.{ranks_by, sorted_far}
use Rattle.std.proofs.lemmas.Map.Keys.{Less-from_sorted}
use Rattle.std.proofs.lemmas.Map.Lookups.{exact_bytes}
use Rattle.std.proofs.lemmas.Option.{same_Some, slice_get_within, get_or_from_slice_get}
use Rattle.list_laws.proofs.Members.{any_there, map_from, map_has, seen_there}
use Rattle.list_laws.proofs.OneOrder.{less_strict}
use Rattle.list_laws.proofs.Zips.{zip_at, zip_count, zip_one}
use Rattle.prolog_tokens.specs.declared.token.Place.{Place}
use Rattle.prolog_tokens.specs.Places.{IsOffset, IsPlace}
use Rattle.clause_text.specs.Cause.{number_of}
use Rattle.file_library.specs.Asked.{AreInOrder}
use Rattle.file_library.specs.Loaded.{NamedText}
use Rattle.file_library.specs.Spots.{IsUpto, AreSpots, IsSpotPlace, texts_of}
use Rattle.file_library.specs.declared.fault.Fault.{Fault}
use Rattle.import_rules.specs.declared.finding.Finding.{Finding}
use Rattle.import_rules.specs.Findings.{see_finding, see_findings}
use Rattle.import_rules.specs.Flaws.{Flaw, flaw_cmp, IsFaultOf}
use Rattle.import_rules.specs.PlacedFlaws.{StandsIn, IsSpotOf, fault_at, faults_at}
use Rattle.import_rules.proofs.Searches.{sorted_from_rising}
use Rattle.import_rules.proofs.Runs.{comes_before}

pub flaw_cmp_total : IsTotalOrder flaw_cmp
flaw_cmp_total =
    then_total (on_total (λ (f : Flaw). f.file) nat_list_cmp_total)
    (then_total (on_total (λ (f : Flaw). f.offset) nat_cmp_total) (on_total (λ (f : Flaw). number_of f.cause) nat_cmp_total))

-- a name has one text
pub one_text : (texts : List NamedText) (name a b : List ℕ) → AreInOrder (map (λ (text : NamedText). text.0) texts) → Contains texts (name, a) → Contains texts (name, b) → a ≡ b
one_text texts name a b up in_a in_b =
    elim (cases_order in_a.0 in_b.0) [
      | inl same ↦
          let both : (name, a) ≡ (name, b) =
          sym in_a.2 ∙ (get_or_default texts in_a.0 (name, a) (name, b) in_a.1 ∙ (ap (λ i. get_or texts i (name, b)) same ∙ in_b.2)) in
          ap (λ (text : NamedText). text.1) both
      | inr (inl less) ↦ absurd (apart in_a.0 in_b.0 a b less in_b.1 in_a.2 in_b.2)
      | inr (inr more) ↦ absurd (apart in_b.0 in_a.0 b a more in_a.1 in_b.2 in_a.2)
    ]
  where
    apart : (i j : ℕ) (x y : List ℕ) → i < j → j < length texts → get_or texts i (name, x) ≡ (name, x) → get_or texts j (name, y) ≡ (name, y) → ⊥
    apart i j x y less within is_x is_y =
        let lower : i < length texts = omega (arith, less, within) in
        let inside : j < length (map (λ (text : NamedText). text.0) texts) = omega (arith, within, length-map texts (λ (text : NamedText). text.0)) in
        let at_i = get_or-map (λ (text : NamedText). text.0) texts i (name, x) name lower ∙ ap (λ (text : NamedText). text.0) is_x in
        let at_j = get_or-map (λ (text : NamedText). text.0) texts j (name, y) name within ∙ ap (λ (text : NamedText). text.0) is_y in
        let itself : slice_cmp nat_cmp name name ≡ Less =
        subst (λ n. slice_cmp nat_cmp n name ≡ Less) at_i
        (subst (λ n. slice_cmp nat_cmp (get_or (map (λ (text : NamedText). text.0) texts) i name) n ≡ Less) at_j
        (Less-from_sorted (slice_cmp nat_cmp) (map (λ (text : NamedText). text.0) texts) i j name up less inside)) in
        (less_strict (slice_cmp nat_cmp) nat_list_cmp_total).one_way name name itself itself

-- of two flaws of one file in order, the first doesn't stand behind the second
not_behind : (f g : Flaw) → g.file ≡ f.file → is_lt (flaw_cmp g f) ≡ false → f.offset ≤ g.offset
not_behind f g same up =
    at (slice_cmp nat_cmp g.file f.file) (nat_cmp g.offset f.offset) (nat_cmp (number_of g.cause) (number_of f.cause))
    (ap (λ file. slice_cmp nat_cmp file f.file) same ∙ tied_itself nat_list_cmp_total f.file) refl up
  where
    at : (files offsets causes : Ordering) → files ≡ Equal → offsets ≡ nat_cmp g.offset f.offset → is_lt (ordering_then files (ordering_then offsets causes)) ≡ false → f.offset ≤ g.offset
    at Less offsets causes tie is up = cc
    at Greater offsets causes tie is up = cc
    at Equal Less causes tie is up = cc
    at Equal Equal causes tie is up = let same : g.offset ≡ f.offset = ranked g.offset f.offset Equal is in omega (arith, same)
    at Equal Greater causes tie is up = let less : f.offset < g.offset = ranked g.offset f.offset Greater is in omega (arith, less)

-- what is sorted is sorted as it is seen
pub seen_sorted : (flaws : List Finding) → IsSortedBy (comes_before flaw_cmp see_finding) flaws → IsSorted flaw_cmp (see_findings flaws)
seen_sorted [] up k d low within = let no : ⊥ = omega (arith, within) in absurd no
seen_sorted (first ∷ flaws) up k d low within =
    let inside : k + 1 < length (first ∷ flaws) = omega (arith, within, length-map (first ∷ flaws) see_finding) in
    let lower : k < length (first ∷ flaws) = omega (arith, inside) in
    subst (λ f. is_lt (flaw_cmp f (get_or (see_findings (first ∷ flaws)) k d)) ≡ false) (sym (get_or-map see_finding (first ∷ flaws) (k + 1) first d inside))
    (subst (λ f. is_lt (flaw_cmp (see_finding (get_or (first ∷ flaws) (k + 1) first)) f) ≡ false) (sym (get_or-map see_finding (first ∷ flaws) k first d lower)) (up k first low inside))

-- the texts are in order of name
pub texts_sorted : (texts : List (List ℕ × Vec ℕ Global)) → AreInOrder (map (λ (text : NamedText). text.0) (texts_of texts))
    → IsSortedBy (comes_before (slice_cmp nat_cmp) (λ (text : List ℕ × Vec ℕ Global). text.0)) texts
texts_sorted texts up =
    sorted_from_rising (slice_cmp nat_cmp) nat_list_cmp_total (λ (text : List ℕ × Vec ℕ Global). text.0) texts
    (λ i j d less within.
    let names : List (List ℕ) = map (λ (text : List ℕ × Vec ℕ Global). text.0) texts in
    let ordered : AreInOrder names = subst AreInOrder (map-map (λ (text : NamedText). text.0) (λ (text : List ℕ × Vec ℕ Global). (text.0, text.1.items)) texts) up in
    let lower : i < length texts = omega (arith, less, within) in
    let inside : j < length names = omega (arith, within, length-map texts (λ (text : List ℕ × Vec ℕ Global). text.0)) in
    subst (λ n. slice_cmp nat_cmp n (get_or texts j d).0 ≡ Less) (get_or-map (λ (text : List ℕ × Vec ℕ Global). text.0) texts i d d.0 lower)
    (subst (λ n. slice_cmp nat_cmp (get_or names i d.0) n ≡ Less) (get_or-map (λ (text : List ℕ × Vec ℕ Global). text.0) texts j d d.0 within)
    (Less-from_sorted (slice_cmp nat_cmp) names i j d.0 ordered less inside)))

pub text_missing : (texts : List (List ℕ × Vec ℕ Global)) (name text : List ℕ) → Contains (texts_of texts) (name, text)
    → false ≡ list_any (λ (t : List ℕ × Vec ℕ Global). is_eq (slice_cmp nat_cmp name t.0)) texts → ⊥
text_missing texts name text has missing =
    let from = map_from (λ (t : List ℕ × Vec ℕ Global). (t.0, t.1.items)) texts (name, text) has in
    let own : from.0.0 ≡ name = ap (λ (t : NamedText). t.0) from.2 in
    let found = any_there (λ (t : List ℕ × Vec ℕ Global). is_eq (slice_cmp nat_cmp name t.0)) texts from.0 from.1
    (ap (λ n. is_eq (slice_cmp nat_cmp name n)) own ∙ ap is_eq (tied_itself nat_list_cmp_total name)) in
    let both : false ≡ true = missing ∙ found in cc

-- the text that a search finds is that of the file
pub text_found : (texts : List (List ℕ × Vec ℕ Global)) (name text : List ℕ) (i : ℕ) (d : List ℕ × Vec ℕ Global) → AreInOrder (map (λ (t : NamedText). t.0) (texts_of texts)) → i < length texts
    → slice_cmp nat_cmp (get_or texts i d).0 name ≡ Equal → Contains (texts_of texts) (name, text) → slice_get (texts_of texts) i ≡ Some (name, text)
text_found texts name text i d up within tie has =
    let see : List ℕ × Vec ℕ Global → NamedText = λ t. (t.0, t.1.items) in
    let one = get_or texts i d in
    let own : one.0 ≡ name = exact_bytes one.0 name tie in
    let there : Contains (texts_of texts) (name, one.1.items) =
    subst (λ n. Contains (texts_of texts) (n, one.1.items)) own (map_has see texts one (Contains-get_or texts i d within)) in
    let body : one.1.items ≡ text = one_text (texts_of texts) name one.1.items text up there has in
    seen_there see texts i one within (get_or_default texts i d one within) ∙ (λ k. Some (own k, body k))

-- the text at a place has the name there
name_at : (texts : List NamedText) (k : ℕ) (text : NamedText) (d : List ℕ) → slice_get texts k ≡ Some text → get_or (map (λ (t : NamedText). t.0) texts) k d ≡ text.0
name_at texts k text d is =
    get_or-map (λ (t : NamedText). t.0) texts k text d (slice_get_within texts k text is) ∙ ap (λ (t : NamedText). t.0) (get_or_from_slice_get texts k text text is)

there_named : (texts : List NamedText) (k : ℕ) (text : NamedText) (name : List ℕ) → slice_get texts k ≡ Some text → text.0 ≡ name → Contains texts (name, text.1)
there_named texts k text name is named =
    subst (λ n. Contains texts (n, text.1)) named (k, slice_get_within texts k text is, get_or_from_slice_get texts k text text is)

-- the spots so far, and one more

flaw_there : (texts : List NamedText) (flaws : List Finding) (k : ℕ) (d : Finding) → All (StandsIn texts) (see_findings flaws) → k < length flaws → StandsIn texts (see_finding (get_or flaws k d))
flaw_there texts flaws k d stand lt =
    All-contains (StandsIn texts) (see_findings flaws) (see_finding (get_or flaws k d)) stand (map_has see_finding flaws (get_or flaws k d) (Contains-get_or flaws k d lt))

pub flaw_text : (texts : List NamedText) (flaws : List Finding) (k : ℕ) (d : Finding) → All (StandsIn texts) (see_findings flaws) → k < length flaws
    → (text : List ℕ) × Contains texts ((get_or flaws k d).file.now, text)
flaw_text texts flaws k d stand lt = let is = flaw_there texts flaws k d stand lt in (is.text, is.there)

-- the place is that of the text of the file
abbrev pub IsPlaceFor : List NamedText → List ℕ → ℕ → Type 0
IsPlaceFor texts file place = (text : List ℕ) → Contains texts (file, text) → slice_get texts place ≡ Some (file, text)

pub place_within : (texts : List NamedText) (flaws : List Finding) (k : ℕ) (d : Finding) (place : ℕ) → All (StandsIn texts) (see_findings flaws) → k < length flaws
    → IsPlaceFor texts (get_or flaws k d).file.now place → place < length texts
place_within texts flaws k d place stand lt told =
    let is = flaw_there texts flaws k d stand lt in slice_get_within texts place ((get_or flaws k d).file.now, is.text) (told is.text is.there)

pub spots_more : (texts : List NamedText) (flaws : List Finding) (k : ℕ) (d : Finding) (place : ℕ) (spots new : List (ℕ × ℕ)) → All (StandsIn texts) (see_findings flaws) → k < length flaws
    → IsPlaceFor texts (get_or flaws k d).file.now place → new ≡ spots ++ (place, (get_or flaws k d).offset) ∷ [] → AllZip (IsSpotOf texts) (see_findings (take k flaws)) spots
    → AllZip (IsSpotOf texts) (see_findings (take (k + 1) flaws)) new
spots_more texts flaws k d place spots new stand lt told is sofar =
    let flaw = get_or flaws k d in
    let there = flaw_there texts flaws k d stand lt in
    let more : see_findings (take (k + 1) flaws) ≡ see_findings (take k flaws) ++ see_finding flaw ∷ [] = ap see_findings (take_more flaws k d lt) ∙ map-append see_finding (take k flaws) (flaw ∷ []) in
    let one : IsSpotOf texts (see_finding flaw) (place, flaw.offset) =
    record { text = (flaw.file.now, there.text); is = told there.text there.there; named = refl; offset = refl } in
    subst (AllZip (IsSpotOf texts) (see_findings (take (k + 1) flaws))) (sym is)
    (subst (λ (fs : List Flaw). AllZip (IsSpotOf texts) fs (spots ++ (place, flaw.offset) ∷ [])) (sym more)
    (zip_one (IsSpotOf texts) (see_findings (take k flaws)) (see_finding flaw) spots (place, flaw.offset) sofar one))

-- what is wrong in an earlier file comes first
earlier_file : (f g : Flaw) → slice_cmp nat_cmp g.file f.file ≡ Less → is_lt (flaw_cmp g f) ≡ true
earlier_file f g less = ap (λ o. is_lt (ordering_then o (ordering_then (nat_cmp g.offset f.offset) (nat_cmp (number_of g.cause) (number_of f.cause))))) less

upto : (texts : List NamedText) (f g : Flaw) (a b : ℕ × ℕ) → AreInOrder (map (λ (t : NamedText). t.0) texts) → IsSpotOf texts f a → IsSpotOf texts g b → is_lt (flaw_cmp g f) ≡ false → IsUpto a b
upto texts f g a b up of_f of_g far =
    elim (cases_order a.0 b.0) [
      | inl same ↦
          let text : of_g.text ≡ of_f.text = same_Some of_g.text of_f.text (sym of_g.is ∙ (ap (slice_get texts) (sym same) ∙ of_f.is)) in
          let file : g.file ≡ f.file = sym of_g.named ∙ (ap (λ (t : NamedText). t.0) text ∙ of_f.named) in
          inr (same, omega (arith, not_behind f g file far, of_f.offset, of_g.offset))
      | inr (inl less) ↦ inl less
      | inr (inr more) ↦
          let names : List (List ℕ) = map (λ (t : NamedText). t.0) texts in
          let within : a.0 < length names = omega (arith, slice_get_within texts a.0 of_f.text of_f.is, length-map texts (λ (t : NamedText). t.0)) in
          let P : List ℕ → List ℕ → Type 0 = λ m n. slice_cmp nat_cmp m n ≡ Less in
          let less : slice_cmp nat_cmp g.file f.file ≡ Less =
          subst (λ n. P g.file n) (name_at texts a.0 of_f.text [] of_f.is ∙ of_f.named)
          (subst (λ m. P m (get_or names a.0 [])) (name_at texts b.0 of_g.text [] of_g.is ∙ of_g.named)
          (Less-from_sorted (slice_cmp nat_cmp) names b.0 a.0 [] up more within)) in
          let both : true ≡ false = sym (earlier_file f g less) ∙ far in
          absurd (cc)
    ]

-- the spots of what is wrong, in order
pub are_spots : (texts : List NamedText) (flaws : List Flaw) (spots : List (ℕ × ℕ)) → AreInOrder (map (λ (t : NamedText). t.0) texts) → All (StandsIn texts) flaws → IsSorted flaw_cmp flaws
    → AllZip (IsSpotOf texts) flaws spots → AreSpots texts spots
are_spots texts [] [] up stand sorted zip = record { ordered = λ i j d before lt. absurd (omega (arith, lt)); stand = λ k d lt. absurd (omega (arith, lt)) }
are_spots texts [] (spot ∷ spots) up stand sorted zip = absurd zip
are_spots texts (first ∷ rest) spots up stand sorted zip =
    let flaws : List Flaw = first ∷ rest in
    let count = zip_count (IsSpotOf texts) flaws spots zip in
    let own : Flaw → Flaw = λ f. f in
    record {
      ordered = λ i j d before lt.
          let inside : j < length flaws = omega (arith, lt, count) in
          let earlier : i < length flaws = omega (arith, before, inside) in
          upto texts (get_or flaws i first) (get_or flaws j first) (get_or spots i d) (get_or spots j d) up (zip_at (IsSpotOf texts) flaws spots i first d zip earlier)
          (zip_at (IsSpotOf texts) flaws spots j first d zip inside)
          (sorted_far (comes_before flaw_cmp own) (ranks_by flaw_cmp_total own) flaws sorted i j first (omega (arith, before)) inside);
      stand = λ k d lt.
          let inside : k < length flaws = omega (arith, lt, count) in
          let flaw = get_or flaws k first in
          let spot = get_or spots k d in
          let is = zip_at (IsSpotOf texts) flaws spots k first d zip inside in
          let stands : StandsIn texts flaw = stand k first inside in
          let text : stands.text ≡ is.text.1 = one_text texts flaw.file stands.text is.text.1 up stands.there (there_named texts spot.0 is.text flaw.file is.is is.named) in
          record { text = is.text; is = is.is; stands = subst (IsOffset is.text.1) (sym is.offset) (subst (λ t. IsOffset t flaw.offset) text stands.at) };
    }

-- with the places of their spots they are faults
pub are_placed : (texts : List NamedText) (flaws : List Flaw) (spots : List (ℕ × ℕ)) (places : List Place) → AllZip (IsSpotOf texts) flaws spots → AllZip (IsSpotPlace texts) spots places
    → AllZip (IsFaultOf texts) flaws (faults_at flaws places)
are_placed texts [] [] [] zip stand = tt
are_placed texts [] [] (place ∷ places) zip stand = absurd stand
are_placed texts [] (spot ∷ spots) places zip stand = absurd zip
are_placed texts (flaw ∷ flaws) [] places zip stand = absurd zip
are_placed texts (flaw ∷ flaws) (spot ∷ spots) [] zip stand = absurd stand
are_placed texts (flaw ∷ flaws) (spot ∷ spots) (place ∷ places) zip stand =
    let one = zip.0 in
    let text : stand.0.text ≡ one.text = same_Some stand.0.text one.text (sym stand.0.is ∙ one.is) in
    let P : NamedText → Type 0 = λ t. IsPlace t.1 spot.1 place in (
      record {
        file = refl;
        offset = refl;
        cause = refl;
        text = one.text.1;
        there = there_named texts spot.0 one.text flaw.file one.is one.named;
        stands = subst (λ at. IsPlace one.text.1 at place) one.offset (subst P text stand.0.stands);
      },
      are_placed texts flaws spots places zip.1 stand.1,
    )

-- nothing is left of two lists where one is empty
pub none_left : (flaws : List Finding) (places : List Place) → (flaws ≡ []) ⊎ (places ≡ []) → faults_at (see_findings flaws) places ≡ []
none_left flaws places (inl none) = ap (λ fs. faults_at (see_findings fs) places) none
none_left [] places (inr none) = refl
none_left (flaw ∷ flaws) places (inr none) = ap (faults_at (see_findings (flaw ∷ flaws))) none

-- one more fault
pub one_more_fault : (flaws rest : List Finding) (places more : List Place) (flaw : Finding) (place : Place) (name : List ℕ) (now next all : List Fault) → flaws ≡ flaw ∷ rest → places ≡ place ∷ more
    → next ≡ now ++ record { file = name; offset = flaw.offset; place = place; cause = flaw.cause } ∷ [] → name ≡ flaw.file.now → now ++ faults_at (see_findings flaws) places ≡ all
    → next ++ faults_at (see_findings rest) more ≡ all
one_more_fault flaws rest places more flaw place name now next all first second pushed named is =
    ap (λ faults. faults ++ faults_at (see_findings rest) more) (pushed ∙ ap (λ n. now ++ record { file = n; offset = flaw.offset; place = place; cause = flaw.cause } ∷ []) named)
    ∙ (append_assoc now (fault_at (see_finding flaw) place ∷ []) (faults_at (see_findings rest) more)
    ∙ ((λ i. now ++ faults_at (see_findings (sym first i)) (sym second i)) ∙ is))
