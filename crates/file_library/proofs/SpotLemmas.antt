-- Lines and columns of spots, file by file.
use Rattle.std.proofs.Common.{◌≡◌, ◌≢◌, inl, inr, ℕ, ◌+◌, ◌<◌, ◌≤◌, List, [], ◌∷◌, ◌++◌, Some, All, AllPairs, length, get_or, take, drop, map, slice_get, option_map, ap, sym, ◌∙◌, subst, refl, arith, append_assoc, append-nil}
use Rattle.std.specs.Prelude.{Contains}
use Rattle.std.specs.List.{AllZip}
use Rattle.std.proofs.lemmas.List.{length-map, get_or-map, length-drop, get_or-take, get_or-drop, take-append-drop, get_or_default, length-append, length-take-le, get_or-append-add}
use Rattle.std.proofs.lemmas.List.Elements.{Contains-get_or, Contains-append_right, All-contains, All-head, All-tail}
use Rattle.std.proofs.lemmas.Bool.{cases_eq}
use Rattle.std.proofs.lemmas.Option.{same_Some, slice_get_within, get_or_from_slice_get, slice_get-map, slice_get_read}
use Rattle.list_laws.proofs.Zips.{zip_append}
use Rattle.prolog_tokens.specs.declared.token.Place.{Place}
use Rattle.prolog_tokens.specs.Places.{IsOffset, ArePlaces, IsAscending}
use Rattle.prolog_tokens.specs.declared.limits.TheConstants.{MOST_BYTES}
use Rattle.file_library.specs.Loaded.{NamedText}
use Rattle.file_library.specs.Spots.{IsUpto, AreLimited, AreSpots, IsSpotPlace, StandsInText}

pub text_small : (texts : List NamedText) (k : ℕ) (text : NamedText) → AreLimited texts → slice_get texts k ≡ Some text → length text.1 ≤ MOST_BYTES
text_small texts k text limited here =
    let P : NamedText → Type 0 = λ t. length t.1 ≤ MOST_BYTES in
    subst P (get_or_from_slice_get texts k text text here) (limited.small k text (slice_get_within texts k text here))

-- the spots at the front that are of the file
pub record IsRun (rest : List (ℕ × ℕ)) (at end : ℕ) : Type 0 where
  pub bound : end ≤ length rest
  pub same : (k : ℕ) → k < end → (get_or rest k (0, 0)).0 ≡ at
  pub other : end < length rest → (get_or rest end (0, 0)).0 ≢ at

-- the places so far: those of the spots of the files before
pub record IsPlacing (texts : List NamedText) (all rest : List (ℕ × ℕ)) (at : ℕ) (out : List Place) : Type 0 where
  pub done : List (ℕ × ℕ)
  pub splits : all ≡ done ++ rest
  pub later : All (λ (p : ℕ × ℕ). at ≤ p.0) rest
  pub each : AllZip (IsSpotPlace texts) done out

module _ (texts : List NamedText) (all : List (ℕ × ℕ)) (are : AreSpots texts all) where
  rest_rises : (done rest : List (ℕ × ℕ)) → all ≡ done ++ rest → AllPairs IsUpto rest
  rest_rises done rest splits i j d before lt =
      let n = length done in
      let P : List (ℕ × ℕ) → Type 0 = λ xs. AllPairs IsUpto xs in
      let rises = subst P splits are.ordered (n + i) (n + j) d (omega (arith, before)) (omega (arith, lt, length-append done rest)) in
      let Q : ℕ × ℕ → Type 0 = λ a. IsUpto a (get_or rest j d) in
      let R : ℕ × ℕ → Type 0 = λ b. IsUpto (get_or (done ++ rest) (n + i) d) b in
      subst Q (get_or-append-add done rest i d) (subst R (get_or-append-add done rest j d) rises)

  rest_there : (done rest : List (ℕ × ℕ)) (k : ℕ) (d : ℕ × ℕ) → all ≡ done ++ rest → k < length rest → StandsInText texts (get_or rest k d).0 (get_or rest k d).1
  rest_there done rest k d splits lt =
      All-contains (λ (s : ℕ × ℕ). StandsInText texts s.0 s.1) all (get_or rest k d) are.stand
      (subst (λ (xs : List (ℕ × ℕ)). Contains xs (get_or rest k d)) (sym splits) (Contains-append_right done rest (get_or rest k d) (Contains-get_or rest k d lt)))

  -- the offsets of the spots of a file
  abbrev pub run_offsets : List (ℕ × ℕ) → ℕ → List ℕ
  run_offsets rest end = map (λ (s : ℕ × ℕ). s.1) (take end rest)

  run_count : (rest : List (ℕ × ℕ)) (end : ℕ) → end ≤ length rest → length (run_offsets rest end) ≡ end
  run_count rest end bound = length-map (take end rest) (λ (s : ℕ × ℕ). s.1) ∙ length-take-le end rest bound

  run_read : (rest : List (ℕ × ℕ)) (end k d : ℕ) → end ≤ length rest → k < end → get_or (run_offsets rest end) k d ≡ (get_or rest k (0, 0)).1
  run_read rest end k d bound lt =
      let within : k < length (take end rest) = omega (arith, lt, length-take-le end rest bound) in
      get_or-map (λ (s : ℕ × ℕ). s.1) (take end rest) k (0, 0) d within ∙ ap (λ (s : ℕ × ℕ). s.1) (get_or-take end rest k (0, 0) lt)

  pub run_stands : (rest : List (ℕ × ℕ)) (at end : ℕ) (text : NamedText) (out : List Place) → slice_get texts at ≡ Some text → IsRun rest at end
      → IsPlacing texts all rest at out → All (IsOffset text.1) (run_offsets rest end)
  run_stands rest at end text out here run placing k d lt =
      let below : k < end = omega (arith, lt, run_count rest end run.bound) in
      let is = rest_there placing.done rest k (0, 0) placing.splits (omega (arith, below, run.bound)) in
      let same : is.text ≡ text = same_Some is.text text (sym is.is ∙ (ap (slice_get texts) (run.same k below) ∙ here)) in
      let P : NamedText → Type 0 = λ t. IsOffset t.1 (get_or rest k (0, 0)).1 in
      subst (IsOffset text.1) (sym (run_read rest end k d run.bound below)) (subst P same is.stands)

  pub run_ascends : (rest : List (ℕ × ℕ)) (at end : ℕ) (out : List Place) → IsRun rest at end → IsPlacing texts all rest at out → IsAscending (run_offsets rest end)
  run_ascends rest at end out run placing j k upto lt =
      let below : k < end = omega (arith, lt, run_count rest end run.bound) in
      let first : j < end = omega (arith, below, upto) in
      let here : get_or (run_offsets rest end) j 0 ≡ (get_or rest j (0, 0)).1 = run_read rest end j 0 run.bound first in
      let there : get_or (run_offsets rest end) k 0 ≡ (get_or rest k (0, 0)).1 = run_read rest end k 0 run.bound below in
      elim (cases_eq j k) [
        | inl same ↦ omega (arith, here, there, ap (λ n. (get_or rest n (0, 0)).1) same)
        | inr other ↦
            elim (rest_rises placing.done rest placing.splits j k (0, 0) (omega (arith, upto, other)) (omega (arith, below, run.bound))) [
              | inl lower ↦ absurd (omega (arith, lower, run.same j first, run.same k below))
              | inr both ↦ omega (arith, here, there, both.1)
            ]
      ]

  run_later : (rest : List (ℕ × ℕ)) (at end : ℕ) (out : List Place) → IsRun rest at end → IsPlacing texts all rest at out → All (λ (p : ℕ × ℕ). at + 1 ≤ p.0) (drop end rest)
  run_later rest at end out run placing k d lt =
      let within : end + k < length rest = omega (arith, lt, length-drop end rest, run.bound) in
      let first = get_or rest end (0, 0) in
      let here = get_or rest (end + k) (0, 0) in
      let above : at + 1 ≤ first.0 = (let low : at ≤ first.0 = placing.later end (0, 0) (omega (arith, within)) in omega (arith, low, run.other (omega (arith, within)))) in
      let read : get_or (drop end rest) k d ≡ here = get_or-drop end rest k d ∙ get_or_default rest (end + k) d (0, 0) within in
      let P : ℕ × ℕ → Type 0 = λ p. at + 1 ≤ p.0 in
      subst P (sym read)
      (elim (cases_eq k 0) [
        | inl none ↦
            let same : end + k ≡ end = omega (arith, none) in
            omega (arith, above, ap (λ n. (get_or rest n (0, 0)).0) same)
        | inr some ↦
            elim (rest_rises placing.done rest placing.splits end (end + k) (0, 0) (omega (arith, some)) within) [
              | inl lower ↦ omega (arith, above, lower)
              | inr both ↦ omega (arith, above, both.0)
            ]
      ])

  run_placed : (rest : List (ℕ × ℕ)) (at end : ℕ) (text : NamedText) (more : List Place) → slice_get texts at ≡ Some text → IsRun rest at end
      → ArePlaces text.1 (run_offsets rest end) more → AllZip (IsSpotPlace texts) (take end rest) more
  run_placed rest at end text more here run places =
      by_list (take end rest) more
      (λ k d lt.
      let below : k < end = omega (arith, lt, length-take-le end rest run.bound) in
      ap (λ (s : ℕ × ℕ). s.0) (get_or-take end rest k d below ∙ get_or_default rest k d (0, 0) (omega (arith, below, run.bound))) ∙ run.same k below)
      places
    where
      by_list : (spots : List (ℕ × ℕ)) (places : List Place) → All (λ (s : ℕ × ℕ). s.0 ≡ at) spots → ArePlaces text.1 (map (λ (s : ℕ × ℕ). s.1) spots) places
          → AllZip (IsSpotPlace texts) spots places
      by_list [] [] same are = tt
      by_list [] (place ∷ places) same are = absurd are
      by_list (s ∷ spots) [] same are = absurd are
      by_list (s ∷ spots) (place ∷ places) same are = (
        record { text = text; is = ap (slice_get texts) (All-head (λ (x : ℕ × ℕ). x.0 ≡ at) s spots same) ∙ here; stands = are.0 },
        by_list spots places (All-tail (λ (x : ℕ × ℕ). x.0 ≡ at) s spots same) are.1,
      )

  -- one more file
  pub placing_more : (rest : List (ℕ × ℕ)) (at end : ℕ) (text : NamedText) (mid new more : List Place) → slice_get texts at ≡ Some text → IsRun rest at end
      → ArePlaces text.1 (run_offsets rest end) more → new ≡ mid ++ more → IsPlacing texts all rest at mid → IsPlacing texts all (drop end rest) (at + 1) new
  placing_more rest at end text mid new more here run places is placing =
      let P : List Place → Type 0 = λ xs. AllZip (IsSpotPlace texts) (placing.done ++ take end rest) xs in
      record {
        done = placing.done ++ take end rest;
        splits = placing.splits ∙ (ap (λ xs. placing.done ++ xs) (sym (take-append-drop end rest)) ∙ sym (append_assoc placing.done (take end rest) (drop end rest)));
        later = run_later rest at end mid run placing;
        each = subst P (sym is)
            (zip_append (IsSpotPlace texts) placing.done (take end rest) mid more placing.each (run_placed rest at end text more here run places));
      }

  pub placing_none : IsPlacing texts all all 0 []
  placing_none = record { done = []; splits = refl; later = λ k d lt. omega arith; each = tt }

  -- all files
  pub placing_all : (rest : List (ℕ × ℕ)) (at : ℕ) (out : List Place) → length texts ≤ at → IsPlacing texts all rest at out → AllZip (IsSpotPlace texts) all out
  placing_all [] at out past placing =
      let P : List (ℕ × ℕ) → Type 0 = λ xs. AllZip (IsSpotPlace texts) xs out in
      subst P (sym (placing.splits ∙ append-nil placing.done)) placing.each
  placing_all (p ∷ rest) at out past placing =
      let is = rest_there placing.done (p ∷ rest) 0 p placing.splits (omega arith) in
      let within = slice_get_within texts p.0 is.text is.is in
      let low : at ≤ p.0 = placing.later 0 p (omega arith) in
      absurd (omega (arith, within, past, low))
