-- The faults of a program's goals, from their places; and that there is one list of them.
use Rattle.std.proofs.Common.{◌≡◌, inl, inr, ℕ, ◌<◌, List, [], ◌∷◌, Some, All, AllPairs, length, get_or, map, slice_get, ap, sym, ◌∙◌, subst, refl, arith}
use Rattle.std.specs.Prelude.{Contains}
use Rattle.std.specs.List.{AllZip}
use Rattle.std.specs.Cmp.{IsTotalOrder}
use Rattle.std.specs.Cmp.Lexicographic.{slice_cmp}
use Rattle.std.specs.Ordering.{ordering_then, nat_cmp}
use Rattle.std.specs.declared.cmp.Ordering.{Ordering}
use Rattle.std.specs.declared.cmp.Ordering.TheVariants.{Less, Equal, Greater}
use Rattle.std.proofs.lemmas.Bool.{cases_order}
use Rattle.std.proofs.lemmas.Cmp.{ranked, then_total, on_total, nat_cmp_total, nat_list_cmp_total, tied_itself}
use Rattle.std.proofs.lemmas.List.{length-map, get_or-map}
use Rattle.std.proofs.lemmas.List.Elements.{Contains-get_or, All-contains}
use Rattle.std.proofs.lemmas.Map.Keys.{Less-from_sorted}
use Rattle.std.proofs.lemmas.Option.{same_Some, slice_get_within, get_or_from_slice_get}
use Rattle.list_laws.proofs.OneOrder.{same_order, less_strict}
use Rattle.list_laws.proofs.Members.{stands_in}
use Rattle.prolog_tokens.specs.Places.{IsPlace}
use Rattle.prolog_tokens.proofs.PlaceSteps.{place_once}
use Rattle.file_library.specs.declared.fault.Fault.{Fault}
use Rattle.file_library.specs.Asked.{AreInOrder}
use Rattle.file_library.specs.Loaded.{NamedText}
use Rattle.import_rules.specs.Program.{Seen, IsKnown}
use Rattle.call_edges.specs.Goals.{fault}
use Rattle.call_edges.specs.ProgramRows.{rows_of}
use Rattle.call_edges.specs.GoalFaults.{IsMetInFile, IsGoalFault, fault_cmp, AreGoalFaults}
use Rattle.call_edges.specs.FaultPlaces.{IsFaultPlace, AreFaultPlaces, IsPlaced}
use Rattle.call_edges.proofs.CheckLemmas.{place_in}
use Rattle.call_edges.proofs.PlacedLemmas.{pair_less, read_at}
use Rattle.list_laws.proofs.Zips.{zip_at, zip_count}

fault_cmp_total : IsTotalOrder fault_cmp
fault_cmp_total = then_total (on_total (λ (f : Fault). f.file) nat_list_cmp_total) (on_total (λ (f : Fault). f.offset) nat_cmp_total)

-- there is one list
pub one_list : (seen : Seen) (faults others : List Fault) → AreGoalFaults seen faults → AreGoalFaults seen others → faults ≡ others
one_list seen faults others are also =
    same_order (λ a b. fault_cmp a b ≡ Less) (less_strict fault_cmp fault_cmp_total) faults others are.ordered also.ordered
    (λ one has. also.all one (All-contains (IsGoalFault seen) faults one are.sound has))
    (λ one has. are.all one (All-contains (IsGoalFault seen) others one also.sound has))

-- orders

less_by : (o : Ordering) (x y : ℕ) → o ≡ nat_cmp x y → x < y → o ≡ Less
less_by Less x y is lt = refl
less_by Equal x y is lt = let same : x ≡ y = ranked x y Equal is in absurd (omega (arith, same, lt))
less_by Greater x y is lt = let above : y < x = ranked x y Greater is in absurd (omega (arith, above, lt))

file_first : (a b : Fault) → slice_cmp nat_cmp a.file b.file ≡ Less → fault_cmp a b ≡ Less
file_first a b less = ap (λ o. ordering_then o (nat_cmp a.offset b.offset)) less

offset_next : (a b : Fault) → a.file ≡ b.file → a.offset < b.offset → fault_cmp a b ≡ Less
offset_next a b same lt =
    let tied : slice_cmp nat_cmp a.file b.file ≡ Equal = ap (slice_cmp nat_cmp a.file) (sym same) ∙ tied_itself nat_list_cmp_total a.file in
    ap (λ o. ordering_then o (nat_cmp a.offset b.offset)) tied ∙ less_by (nat_cmp a.offset b.offset) a.offset b.offset refl lt

same_fault : (a b : Fault) → a.file ≡ b.file → a.offset ≡ b.offset → a.place ≡ b.place → a.cause ≡ b.cause → a ≡ b
same_fault a b files offsets places causes = λ i. record { file = files i; offset = offsets i; place = places i; cause = causes i }

-- names of texts rise

abbrev names : List NamedText → List (List ℕ)
names texts = map (λ (text : NamedText). text.0) texts

name_at : (texts : List NamedText) (k : ℕ) (text : NamedText) → slice_get texts k ≡ Some text → get_or (names texts) k [] ≡ text.0
name_at texts k text is =
    get_or-map (λ (t : NamedText). t.0) texts k text [] (slice_get_within texts k text is) ∙ ap (λ (t : NamedText). t.0) (get_or_from_slice_get texts k text text is)

names_less : (texts : List NamedText) (j k : ℕ) (one two : NamedText) → AreInOrder (names texts) → slice_get texts j ≡ Some one → slice_get texts k ≡ Some two → j < k
    → slice_cmp nat_cmp one.0 two.0 ≡ Less
names_less texts j k one two ordered here there lt =
    let within = slice_get_within texts k two there in
    let less = Less-from_sorted (slice_cmp nat_cmp) (names texts) j k [] ordered lt (omega (arith, within, length-map texts (λ (t : NamedText). t.0))) in
    let P : List ℕ → Type 0 = λ n. slice_cmp nat_cmp n two.0 ≡ Less in
    let Q : List ℕ → Type 0 = λ n. slice_cmp nat_cmp (get_or (names texts) j []) n ≡ Less in
    subst P (name_at texts j one here) (subst Q (name_at texts k two there) less)

not_less : (n : List ℕ) → slice_cmp nat_cmp n n ≡ Less → ⊥
not_less n less = let both : Equal ≡ Less = sym (tied_itself nat_list_cmp_total n) ∙ less in cc

one_name : (texts : List NamedText) (j k : ℕ) (one two : NamedText) → AreInOrder (names texts) → slice_get texts j ≡ Some one → slice_get texts k ≡ Some two → one.0 ≡ two.0 → j ≡ k
one_name texts j k one two ordered here there same =
    elim (cases_order j k) [
      | inl is ↦ is
      | inr apart ↦
          elim apart [
            | inl before ↦
                let less = names_less texts j k one two ordered here there before in
                absurd (not_less two.0 (subst (λ n. slice_cmp nat_cmp n two.0 ≡ Less) same less))
            | inr after ↦
                let less = names_less texts k j two one ordered there here after in
                absurd (not_less two.0 (subst (λ n. slice_cmp nat_cmp two.0 n ≡ Less) same less))
          ]
    ]

module _ (seen : Seen) (known : IsKnown seen) (places : List (ℕ × ℕ)) (faults : List Fault) (are : AreFaultPlaces seen places)
    (zip : AllZip (IsPlaced seen.loaded.texts) places faults) where
  in_order : AllPairs (λ a b. fault_cmp a b ≡ Less) faults
  in_order i j d before lt =
      let texts = seen.loaded.texts in
      let count = zip_count (IsPlaced texts) places faults zip in
      let p = get_or places i (0, 0) in
      let q = get_or places j (0, 0) in
      let a = get_or faults i d in
      let b = get_or faults j d in
      let first : IsPlaced texts p a = zip_at (IsPlaced texts) places faults i (0, 0) d zip (omega (arith, before, lt, count)) in
      let second : IsPlaced texts q b = zip_at (IsPlaced texts) places faults j (0, 0) d zip (omega (arith, lt, count)) in
      elim (pair_less p q (are.ordered i j (0, 0) before (omega (arith, lt, count)))) [
        | inl less ↦
            let named = names_less texts p.0 q.0 first.text second.text known.ordered first.is second.is less in
            let P : List ℕ → Type 0 = λ n. slice_cmp nat_cmp n b.file ≡ Less in
            let Q : List ℕ → Type 0 = λ n. slice_cmp nat_cmp first.text.0 n ≡ Less in
            file_first a b (subst P (sym first.placed.in_file) (subst Q (sym second.placed.in_file) named))
        | inr both ↦
            let one : Some first.text ≡ Some second.text = sym first.is ∙ (ap (slice_get texts) both.0 ∙ second.is) in
            let same : first.text ≡ second.text = same_Some first.text second.text one in
            let named : a.file ≡ b.file = first.placed.in_file ∙ (ap (λ (t : NamedText). t.0) same ∙ sym second.placed.in_file) in
            offset_next a b named (omega (arith, both.1, first.placed.offset, second.placed.offset))
      ]

  sound : All (IsGoalFault seen) faults
  sound k d lt =
      let texts = seen.loaded.texts in
      let count = zip_count (IsPlaced texts) places faults zip in
      let p = get_or places k (0, 0) in
      let one = get_or faults k d in
      let within : k < length places = omega (arith, lt, count) in
      let placed : IsPlaced texts p one = zip_at (IsPlaced texts) places faults k (0, 0) d zip within in
      let is : IsFaultPlace seen p = (are.each p).0 (Contains-get_or places k (0, 0) within) in
      let read = read_at texts seen.loaded.files p.0 placed.text is.file known.read placed.is is.is in
      record {
        file = is.file;
        has_file = stands_in seen.loaded.files p.0 is.file is.is;
        named = placed.placed.in_file ∙ sym read.named;
        met = subst (λ at. (IsMetInFile (rows_of seen)) is.file (fault at)) (sym placed.placed.offset) is.met;
        cause = placed.placed.cause;
        text = placed.text.1;
        has_text = subst (λ n. Contains texts (n, placed.text.1)) (sym placed.placed.in_file) (stands_in texts p.0 placed.text placed.is);
        stands = subst (λ at. IsPlace placed.text.1 at one.place) (sym placed.placed.offset) placed.placed.stands;
      }

  all : (one : Fault) → IsGoalFault seen one → Contains faults one
  all one wrong =
      let texts = seen.loaded.texts in
      let count = zip_count (IsPlaced texts) places faults zip in
      let at_file = place_in seen.loaded.files wrong.file wrong.has_file in
      let own : NamedText = (one.file, wrong.text) in
      let at_text = place_in texts own wrong.has_text in
      let k = at_file.0 in
      let p : ℕ × ℕ = (k, one.offset) in
      let in_places : Contains places p = (are.each p).1 (record { file = wrong.file; is = at_file.1; met = wrong.met }) in
      let n = in_places.0 in
      let found = get_or faults n one in
      let P : ℕ × ℕ → Type 0 = λ q. IsPlaced texts q found in
      let placed : IsPlaced texts p found = subst P in_places.2 (zip_at (IsPlaced texts) places faults n p one zip in_places.1) in
      let read = read_at texts seen.loaded.files k placed.text wrong.file known.read placed.is at_file.1 in
      let named : own.0 ≡ placed.text.0 = wrong.named ∙ read.named in
      let same_place : at_text.0 ≡ k = one_name texts at_text.0 k own placed.text known.ordered at_text.1 placed.is named in
      let same : placed.text ≡ own = same_Some placed.text own (sym placed.is ∙ (ap (slice_get texts) (sym same_place) ∙ at_text.1)) in
      let Q : List ℕ → Type 0 = λ bytes. IsPlace bytes one.offset found.place in
      let stands : IsPlace wrong.text one.offset found.place = subst Q (ap (λ (t : NamedText). t.1) same) placed.placed.stands in
      let is : found ≡ one =
      same_fault found one (placed.placed.in_file ∙ ap (λ (t : NamedText). t.0) same) placed.placed.offset
      (place_once wrong.text one.offset found.place one.place stands wrong.stands) (placed.placed.cause ∙ sym wrong.cause) in
      (n, omega (arith, in_places.1, count), is)

  pub goal_faults : AreGoalFaults seen faults
  goal_faults = record { ordered = in_order; sound = sound; all = all }

pub some_faults : {X Y : Type 0} (R : X → Y → Type 0) (xs : List X) (ys : List Y) → AllZip R xs ys → (xs ≡ [] → ⊥) → ys ≡ [] → ⊥
some_faults R [] ys zip some none = some refl
some_faults R (x ∷ xs) [] zip some none = zip
some_faults R (x ∷ xs) (y ∷ ys) zip some none = cc
