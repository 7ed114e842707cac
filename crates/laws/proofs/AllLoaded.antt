-- What is loaded, where no file has a fault.
use Rattle.std.proofs.Common.{◌≡◌, ℕ, suc, ◌+◌, ◌≤◌, List, [], ◌∷◌, Option, Some, None, Contains, length, map, sym, subst, ap, ◌∙◌, arith}
use Rattle.std.specs.List.{cons_option, filter_map, AllZip}
use Rattle.std.proofs.lemmas.List.{map-id}
use Rattle.list_laws.proofs.OneOrder.{holds_of}
use Rattle.list_laws.proofs.Members.{map_from, all_by}
use Rattle.module_table.specs.Facts.{Facts}
use Rattle.module_table.specs.FileText.{HasFacts}
use Rattle.file_library.specs.Asked.{AreInOrder}
use Rattle.file_library.specs.Library.{Files}
use Rattle.file_library.specs.declared.limits.TheConstants.{MOST_FILES}
use Rattle.prolog_tokens.specs.declared.limits.TheConstants.{MOST_BYTES}
use Rattle.file_library.specs.Loaded.{NamedText, LoadedFiles, AreThose, IsAskedIn, size_of, AreWithin, IsTextOf, IsLoaded}
use Rattle.file_library.specs.AskedFile.{Found, absent, sound, faulty, text_of, IsTold}
use Rattle.file_library.specs.SortedOut.{facts_at, text_at, absent_at, AreJustAsked}
use Rattle.file_library.proofs.NameLists.{no_more}
use Rattle.file_library.proofs.WaveLaws.{Names}
use Rattle.file_library.proofs.LoadedFiles.{absent_given, absent_named, some_once, text_named}
use Rattle.laws.proofs.AllFaults.{fault_at, faults_at, fault_of, root_absent, faultless}
use Rattle.laws.proofs.FoundAt.{IsAt}
use Rattle.laws.proofs.Given.{given_in, given_from, none_given, given_rise, given_sum}
use Rattle.laws.proofs.NextNames.{AreOrderedOf}

-- what a file gives

text_given : (roots : Names) (name bytes : List ℕ) (found : Found) → text_of found ≡ Some bytes → fault_of roots name found ≡ None → text_at name found ≡ Some (name, bytes)
text_given roots name bytes absent there none = let both : None ≡ Some bytes = there in absurd (cc)
text_given roots name bytes (sound own facts) there none =
    let same : own ≡ bytes = some_once there in
    ap (λ text. Some (name, text)) same
text_given roots name bytes (faulty own refusal) there none = absurd (faultless roots name own refusal none)

no_root_absent : (roots : Names) (name : List ℕ) (found : Found) → text_of found ≡ None → fault_of roots name found ≡ None → Contains roots name → ⊥
no_root_absent roots name absent there none has = root_absent roots name none has
no_root_absent roots name (sound own facts) there none has = let both : Some own ≡ None = there in absurd (cc)
no_root_absent roots name (faulty own refusal) there none has = let both : Some own ≡ None = there in absurd (cc)

abbrev HasFactsOf : NamedText → Facts → Type 0
HasFactsOf text facts = HasFacts text.0 text.1 facts

module _ (files : Files) (roots : Names) (find : (name : List ℕ) → IsAt files name) where
  abbrev text_for : List ℕ → Option NamedText
  text_for name = text_at name (find name).found

  abbrev facts_for : List ℕ → Option Facts
  facts_for name = facts_at (find name).found

  abbrev absent_for : List ℕ → Option (List ℕ)
  absent_for name = absent_at name (find name).found

  facts_paired : (names : Names) → AllZip HasFactsOf (filter_map text_for names) (filter_map facts_for names)
  facts_paired [] = tt
  facts_paired (name ∷ names) = at (facts_paired names) (find name).found (find name).told
    where
      at : AllZip HasFactsOf (filter_map text_for names) (filter_map facts_for names) → (found : Found) → IsTold name found
          → AllZip HasFactsOf (cons_option (text_at name found) (filter_map text_for names)) (cons_option (facts_at found) (filter_map facts_for names))
      at rest absent told = rest
      at rest (sound text facts) told = (told, rest)
      at rest (faulty text refusal) told = rest

  fewer : (names : Names) → length (filter_map text_for names) + length (filter_map absent_for names) ≤ length names
  fewer [] = omega arith
  fewer (name ∷ names) = at (fewer names) (find name).found
    where
      at : length (filter_map text_for names) + length (filter_map absent_for names) ≤ length names → (found : Found)
          → length (cons_option (text_at name found) (filter_map text_for names)) + length (cons_option (absent_at name found) (filter_map absent_for names)) ≤ suc (length names)
      at rest absent = omega (arith, rest)
      at rest (sound text facts) = omega (arith, rest)
      at rest (faulty text refusal) = omega (arith, rest)

  module _ (names ordered root_names : Names) (asked : AreJustAsked files roots names) (few : length names ≤ MOST_FILES) (within : AreWithin files names)
      (are : AreOrderedOf names ordered) (roots_are : AreOrderedOf roots root_names) (none : faults_at files roots find ordered ≡ []) where
    is_asked : (name : List ℕ) → Contains ordered name → IsAskedIn files roots name
    is_asked name has = asked.sound name (are.sound name has)

    in_ordered : (name : List ℕ) → IsAskedIn files roots name → Contains ordered name
    in_ordered name leads = are.all name (asked.all name leads)

    has_none : (name : List ℕ) → IsAskedIn files roots name → fault_of roots name (find name).found ≡ None
    has_none name leads = none_given (fault_at files roots find) ordered name none (in_ordered name leads)

    abbrev texts : List NamedText
    texts = filter_map text_for ordered

    missing_are : AreThose (λ name. IsAskedIn files roots name × (files name ≡ None)) (filter_map absent_for ordered)
    missing_are = record {
      ordered =
          subst AreInOrder (map-id (filter_map absent_for ordered))
          (given_rise absent_for (λ name. name) (λ name given is. (absent_named name (find name).found given is).0) ordered are.up);
      sound = λ name has.
          let from = given_from absent_for ordered name has in
          let gives = absent_named from.0 (find from.0).found name from.2 in
          subst (λ n. IsAskedIn files roots n × (files n ≡ None)) (sym gives.0) (is_asked from.0 from.1, (find from.0).there ∙ gives.1);
      all = λ name those.
          let empty : text_of (find name).found ≡ None = sym (find name).there ∙ those.1 in
          given_in absent_for ordered name name (in_ordered name those.0) (absent_given name (find name).found empty);
    }

    are_texts : (text : NamedText) → Contains texts text → IsTextOf files roots text
    are_texts text has =
        let from = given_from text_for ordered text has in
        let gives = text_named from.0 (find from.0).found text from.2 in
        record {
          asked = subst (IsAskedIn files roots) (sym gives.0) (is_asked from.0 from.1);
          there = ap files gives.0 ∙ ((find from.0).there ∙ gives.1);
        }

    all_texts : (name bytes : List ℕ) → IsAskedIn files roots name → files name ≡ Some bytes → Contains texts (name, bytes)
    all_texts name bytes leads there =
        let full : text_of (find name).found ≡ Some bytes = sym (find name).there ∙ there in
        given_in text_for ordered name (name, bytes) (in_ordered name leads) (text_given roots name bytes (find name).found full (has_none name leads))

    roots_there : (name : List ℕ) → Contains roots name → files name ≡ None → ⊥
    roots_there name has empty =
        let nothing : text_of (find name).found ≡ None = sym (find name).there ∙ empty in
        no_root_absent roots name (find name).found nothing (has_none name (0, has)) has

    are_within : AreWithin files (map (λ (text : NamedText). text.0) texts)
    are_within = record {
      each = all_by (λ name. size_of files name ≤ MOST_BYTES) (map (λ (text : NamedText). text.0) texts) (λ name has.
          let on = map_from (λ (text : NamedText). text.0) texts name has in
          let from = given_from text_for ordered on.0 on.1 in
          let same : from.0 ≡ name = sym (text_named from.0 (find from.0).found on.0 from.2).0 ∙ on.2 in
          subst (λ n. size_of files n ≤ MOST_BYTES) same
          (holds_of (λ n. size_of files n ≤ MOST_BYTES) names from.0 within.each (are.sound from.0 from.1)));
      together =
          omega (
            arith,
            within.together,
            are.sums (size_of files),
            given_sum text_for (λ (text : NamedText). text.0) (λ name text is. (text_named name (find name).found text is).0) (size_of files) ordered,
          );
    }

    abbrev pub found_files : LoadedFiles
    found_files = record { files = filter_map facts_for ordered; absent = filter_map absent_for ordered; roots = root_names; texts = texts }

    pub all_loaded : IsLoaded files roots found_files
    all_loaded = record {
      root_names = record { ordered = roots_are.up; sound = roots_are.sound; all = roots_are.all };
      absent_are = missing_are;
      ordered = given_rise text_for (λ (text : NamedText). text.0) (λ name text is. (text_named name (find name).found text is).0) ordered are.up;
      texts = all_by (IsTextOf files roots) texts are_texts;
      all = all_texts;
      facts = facts_paired ordered;
      there = roots_there;
      few = omega (arith, few, fewer ordered, no_more ordered names are.up are.sound);
      within = are_within;
    }
