-- What is loaded is what was asked for, where no file has a fault.
use Rattle.std.proofs.Common.{◌≡◌, ℕ, suc, ◌+◌, ◌≤◌, Bool, true, false, List, [], ◌∷◌, Option, Some, None, All, Contains, Vec, Global, length, map, filter, get_or, sum_by, refl, sym, subst, ◌∙◌, ap, inl, inr, arith}
use Rattle.std.specs.Prelude.{option_map, unwrap_or, cond}
use Rattle.std.specs.List.{cons_option, filter_map, AllZip, AllByRecursion}
use Rattle.std.specs.List.Sorted.{IsPermutation, IsStrictlySortedBy}
use Rattle.std.specs.Ordering.{nat_cmp}
use Rattle.std.specs.Cmp.Lexicographic.{slice_cmp}
use Rattle.std.specs.BTreeSet.{BTreeSet}
use Rattle.std.specs.declared.cmp.Ordering.TheVariants.{Less}
use Rattle.std.proofs.lemmas.List.{map-id}
use Rattle.std.proofs.lemmas.List.Elements.{Contains-get_or}
use Rattle.std.proofs.lemmas.List.Sorted.{IsPermutation-sym, IsPermutation-map, Contains-permutation, length_permutation, sum_by-IsPermutation}
use Rattle.std.proofs.lemmas.List.Sums.{sum_by-cons}
use Rattle.list_laws.proofs.Members.{map_from, all_by}
use Rattle.file_library.specs.declared.limits.TheConstants.{MOST_FILES, MOST_TEXT}
use Rattle.prolog_tokens.specs.declared.limits.TheConstants.{MOST_BYTES}
use Rattle.list_laws.proofs.OneOrder.{nothing_in, first_or_rest, in_rest, in_first, before_rest, rest_in_order, holds_of}
pub use Rattle.prolog_terms.proofs.ViewLemmas.{some_once}
use Rattle.module_table.specs.Facts.{Facts, see_facts}
use Rattle.module_table.specs.FileText.{HasFacts}
use Rattle.file_library.specs.Asked.{AreInOrder}
use Rattle.file_library.specs.Library.{Files, names_of}
use Rattle.file_library.specs.Loaded.{NamedText, LoadedFiles, AreThose, IsAskedIn, size_of, AreWithin, IsTextOf, IsLoaded}
use Rattle.file_library.specs.Answers.{bytes_of}
use Rattle.file_library.specs.AskedFile.{Found, absent, sound, faulty, FileFound, text_of, answered_of, IsTold, IsOfText}
use Rattle.file_library.specs.AskAll.{answers_of, Agrees}
use Rattle.file_library.specs.SortedOut.{AreRising, facts_at, text_at, absent_at, fault_at, sound_facts, sound_text, absent_name, has_fault, IsFaultFor, AreSortedOut, AreOrdered, AreRoots, AreJustAsked}
use Rattle.file_library.specs.declared.sorted_out.SortedOut.{SortedOut}
use Rattle.file_library.proofs.Lookups.{name_in}
use Rattle.file_library.proofs.OrderedFiles.{each_holds}
use Rattle.file_library.proofs.LoadsFound.{answer_in, named_file}
use Rattle.file_library.proofs.NextWaveLemmas.{has_no_key}

-- what is given of the items of a list

each_later : {X : Type 0} (P : X → Type 0) (x : X) (xs : List X) → ((y : X) → Contains (x ∷ xs) y → P y) → (y : X) → Contains xs y → P y
each_later {X} P x xs each y has = each y (in_rest x y xs has)

given_in : {X Y : Type 0} (h : X → Option Y) (xs : List X) (x : X) (y : Y) → Contains xs x → h x ≡ Some y → Contains (filter_map h xs) y
given_in {X} {Y} h [] x y has is = absurd (nothing_in x has)
given_in {X} {Y} h (first ∷ xs) x y has is =
    elim (first_or_rest first x xs has) [
      | inl same ↦ subst (λ o. Contains (cons_option o (filter_map h xs)) y) (sym (ap h same ∙ is)) (in_first y (filter_map h xs))
      | inr later ↦ behind (h first) (given_in h xs x y later is)
    ]
  where
    behind : (o : Option Y) → Contains (filter_map h xs) y → Contains (cons_option o (filter_map h xs)) y
    behind None there = there
    behind (Some z) there = in_rest z y (filter_map h xs) there

given_from : {X Y : Type 0} (h : X → Option Y) (xs : List X) (y : Y) → Contains (filter_map h xs) y → (x : X) × Contains xs x × (h x ≡ Some y)
given_from {X} {Y} h [] y has = absurd (nothing_in y has)
given_from {X} {Y} h (first ∷ xs) y has = at (λ there. given_from h xs y there) (h first) refl has
  where
    later : ((x : X) × Contains xs x × (h x ≡ Some y)) → (x : X) × Contains (first ∷ xs) x × (h x ≡ Some y)
    later from = (from.0, in_rest first from.0 xs from.1, from.2)

    at : (Contains (filter_map h xs) y → (x : X) × Contains xs x × (h x ≡ Some y)) → (o : Option Y) → h first ≡ o → Contains (cons_option o (filter_map h xs)) y → (x : X) × Contains (first ∷ xs) x × (h x ≡ Some y)
    at on None is there = later (on there)
    at on (Some z) is there = elim (first_or_rest z y (filter_map h xs) there) [
      | inl same ↦ (first, in_first first xs, is ∙ ap (λ w. Some w) same)
      | inr rest ↦ later (on rest)
    ]

-- what is given with the names of the files is in their order
given_rise : {Y : Type 0} (h : FileFound → Option Y) (key : Y → List ℕ) → ((file : FileFound) (y : Y) → h file ≡ Some y → key y ≡ file.name) → (files : List FileFound) → AreRising files
    → AreInOrder (map key (filter_map h files))
unfolding IsStrictlySortedBy
given_rise {Y} h key named [] rising = tt
given_rise {Y} h key named (file ∷ files) rising = at (given_rise h key named files (rest_in_order (λ a b. slice_cmp nat_cmp a.name b.name ≡ Less) file files rising)) (h file) refl
  where
    at : AreInOrder (map key (filter_map h files)) → (o : Option Y) → h file ≡ o → AreInOrder (map key (cons_option o (filter_map h files)))
    at rest None is = rest
    at rest (Some y) is = (
      each_holds (λ n. slice_cmp nat_cmp (key y) n ≡ Less) (map key (filter_map h files)) (λ n has.
          let on = map_from key (filter_map h files) n has in
          let from = given_from h files on.0 on.1 in
          let same : from.0.name ≡ n = sym (named from.0 on.0 from.2) ∙ on.2 in
          let less = before_rest (λ a b. slice_cmp nat_cmp a.name b.name ≡ Less) file from.0 files rising from.1 in
          subst (λ m. slice_cmp nat_cmp m n ≡ Less) (sym (named file y is)) (subst (λ m. slice_cmp nat_cmp file.name m ≡ Less) same less)),
      rest,
    )

-- no file has a fault where there is none

pub none_paired : {X Y : Type 0} (R : X → Y → Type 0) (xs : List X) (ys : List Y) → ys ≡ [] → AllZip R xs ys → xs ≡ []
none_paired {X} {Y} R [] ys none zip = refl
none_paired {X} {Y} R (x ∷ xs) ys none zip = let never : ⊥ = subst (λ l. AllZip R (x ∷ xs) l) none zip in absurd never

none_passes : {X : Type 0} (test : X → Bool) (xs : List X) (x : X) → filter test xs ≡ [] → Contains xs x → test x ≡ false
none_passes {X} test [] x none has = absurd (nothing_in x has)
none_passes {X} test (first ∷ xs) x none has = at (λ empty later. none_passes test xs x empty later) (test first) refl none
  where
    at : (filter test xs ≡ [] → Contains xs x → test x ≡ false) → (b : Bool) → test first ≡ b → cond b (first ∷ filter test xs) (filter test xs) ≡ [] → test x ≡ false
    at on true is empty = let both : first ∷ filter test xs ≡ [] = empty in absurd (cc)
    at on false is empty = elim (first_or_rest first x xs has) [
      | inl same ↦ subst (λ y. test y ≡ false) same is
      | inr later ↦ on empty later
    ]

-- what a file that was found gives

pub text_named : (name : List ℕ) (found : Found) (text : NamedText) → text_at name found ≡ Some text → (text.0 ≡ name) × (text_of found ≡ Some text.1)
text_named name absent text is = let both : None ≡ Some text = is in absurd (cc)
text_named name (sound own facts) text is =
    let pair : NamedText = (name, own) in
    let same : pair ≡ text = some_once is in
    (ap (λ (t : NamedText). t.0) (sym same), ap (λ (t : NamedText). Some t.1) same)
text_named name (faulty own fault) text is = let both : None ≡ Some text = is in absurd (cc)

pub absent_named : (name : List ℕ) (found : Found) (given : List ℕ) → absent_at name found ≡ Some given → (given ≡ name) × (text_of found ≡ None)
absent_named name absent given is = (sym (some_once is), refl)
absent_named name (sound own facts) given is = let both : None ≡ Some given = is in absurd (cc)
absent_named name (faulty own fault) given is = let both : None ≡ Some given = is in absurd (cc)

text_given : (set : BTreeSet (List ℕ)) (name bytes : List ℕ) (found : Found) → text_of found ≡ Some bytes → fault_at set name found ≡ false → text_at name found ≡ Some (name, bytes)
text_given set name bytes absent there none = let both : None ≡ Some bytes = there in absurd (cc)
text_given set name bytes (sound own facts) there none =
    let same : own ≡ bytes = some_once there in
    ap (λ text. Some (name, text)) same
text_given set name bytes (faulty own fault) there none = let both : true ≡ false = none in absurd (cc)

pub absent_given : (name : List ℕ) (found : Found) → text_of found ≡ None → absent_at name found ≡ Some name
absent_given name absent there = refl
absent_given name (sound own facts) there = let both : Some own ≡ None = there in absurd (cc)
absent_given name (faulty own fault) there = let both : Some own ≡ None = there in absurd (cc)

no_root : (set : BTreeSet (List ℕ)) (name : List ℕ) (found : Found) → text_of found ≡ None → fault_at set name found ≡ false → Contains set.keys name → ⊥
no_root set name absent there none has = has_no_key set name none has
no_root set name (sound own facts) there none has = let both : Some own ≡ None = there in absurd (cc)
no_root set name (faulty own fault) there none has = let both : Some own ≡ None = there in absurd (cc)

abbrev HasFactsOf : NamedText → Facts → Type 0
HasFactsOf text facts = HasFacts text.0 text.1 facts

facts_paired : (files : List FileFound) → ((file : FileFound) → Contains files file → IsOfText file) → AllZip HasFactsOf (filter_map sound_text files) (filter_map sound_facts files)
facts_paired [] each = tt
facts_paired (file ∷ files) each = at (facts_paired files (each_later IsOfText file files each)) file.found (each file (in_first file files))
  where
    at : AllZip HasFactsOf (filter_map sound_text files) (filter_map sound_facts files) → (found : Found) → IsTold file.name found
        → AllZip HasFactsOf (cons_option (text_at file.name found) (filter_map sound_text files)) (cons_option (facts_at found) (filter_map sound_facts files))
    at rest absent told = rest
    at rest (sound text facts) told = (told, rest)
    at rest (faulty text fault) told = rest

fewer : (files : List FileFound) → length (filter_map sound_text files) + length (filter_map absent_name files) ≤ length files
fewer [] = omega arith
fewer (file ∷ files) = at (fewer files) file.found
  where
    at : length (filter_map sound_text files) + length (filter_map absent_name files) ≤ length files → (found : Found)
        → length (cons_option (text_at file.name found) (filter_map sound_text files)) + length (cons_option (absent_at file.name found) (filter_map absent_name files)) ≤ suc (length files)
    at rest absent = omega (arith, rest)
    at rest (sound text facts) = omega (arith, rest)
    at rest (faulty text fault) = omega (arith, rest)

-- the size of a file is that of its answer

abbrev text_names : List FileFound → List (List ℕ)
text_names files = map (λ (text : NamedText). text.0) (filter_map sound_text files)

size_is : (files : Files) (file : FileFound) → files file.name ≡ text_of file.found → size_of files file.name ≡ bytes_of (answered_of file)
size_is files file there = ap (λ text. unwrap_or (option_map (λ bytes. length bytes) text) 0) there

sizes_within : (files : Files) (sorted : List FileFound) → ((file : FileFound) → Contains sorted file → files file.name ≡ text_of file.found)
    → sum_by (size_of files) (text_names sorted) ≤ sum_by bytes_of (answers_of sorted)
sizes_within files [] each = omega arith
sizes_within files (file ∷ sorted) each =
    let rest : sum_by (size_of files) (text_names sorted) ≤ sum_by bytes_of (answers_of sorted) = sizes_within files sorted (each_later (λ f. files f.name ≡ text_of f.found) file sorted each) in
    let more : sum_by (size_of files) (text_names (file ∷ sorted)) ≤ size_of files file.name + sum_by (size_of files) (text_names sorted) = at file.found in
    omega (arith, rest, more, size_is files file (each file (in_first file sorted)), sum_by-cons bytes_of (answered_of file) (answers_of sorted))
  where
    at : (found : Found) → sum_by (size_of files) (map (λ (text : NamedText). text.0) (cons_option (text_at file.name found) (filter_map sound_text sorted)))
        ≤ size_of files file.name + sum_by (size_of files) (text_names sorted)
    at absent = omega arith
    at (sound text facts) = let one = sum_by-cons (size_of files) file.name (text_names sorted) in omega (arith, one)
    at (faulty text fault) = omega arith

module _ (files : Files) (roots : List (List ℕ)) (found sorted : List FileFound) (set : BTreeSet (List ℕ)) (out : SortedOut) (agrees : Agrees files (answers_of found))
    (asked : AreJustAsked files roots (names_of (answers_of found))) (told : All IsOfText found) (few : length found ≤ MOST_FILES) (small : All (λ answer. bytes_of answer ≤ MOST_BYTES) (answers_of found))
    (together : sum_by bytes_of (answers_of found) ≤ MOST_TEXT) (ordered : AreOrdered found sorted) (set_is : AreRoots roots set) (is : AreSortedOut set sorted out) (none : out.faults.items ≡ []) where
  -- the files in order are those that were found

  was_found : (file : FileFound) → Contains sorted file → Contains found file
  was_found file has = Contains-permutation sorted found file (IsPermutation-sym found sorted ordered.moved) has

  is_there : (file : FileFound) → Contains sorted file → files file.name ≡ text_of file.found
  is_there file has = agrees (answered_of file) (answer_in found file (was_found file has))

  is_told : (file : FileFound) → Contains sorted file → IsOfText file
  is_told file has = holds_of IsOfText found file told (was_found file has)

  is_asked : (file : FileFound) → Contains sorted file → IsAskedIn files roots file.name
  is_asked file has = asked.sound file.name (name_in (answers_of found) (answered_of file) (answer_in found file (was_found file has)))

  is_faultless : (file : FileFound) → Contains sorted file → has_fault set file ≡ false
  is_faultless file has = none_passes (has_fault set) sorted file (none_paired IsFaultFor (filter (has_fault set) sorted) out.faults.items none is.faults) has

  file_asked : (name : List ℕ) → IsAskedIn files roots name → (file : FileFound) × Contains sorted file × (file.name ≡ name)
  file_asked name leads = let from = named_file found name (asked.all name leads) in (from.0, Contains-permutation found sorted from.0 ordered.moved from.1, from.2)

  -- what they come to, one thing after another

  missing_are : AreThose (λ name. IsAskedIn files roots name × (files name ≡ None)) (filter_map absent_name sorted)
  missing_are = record {
    ordered = subst AreInOrder (map-id (filter_map absent_name sorted)) (given_rise absent_name (λ name. name) (λ file name gives. (absent_named file.name file.found name gives).0) sorted ordered.rising);
    sound = λ name has.
        let from = given_from absent_name sorted name has in
        let gives = absent_named from.0.name from.0.found name from.2 in
        subst (λ n. IsAskedIn files roots n × (files n ≡ None)) (sym gives.0) (is_asked from.0 from.1, is_there from.0 from.1 ∙ gives.1);
    all = λ name those.
        let from = file_asked name those.0 in
        let empty : text_of from.0.found ≡ None = sym (is_there from.0 from.1) ∙ (ap files from.2 ∙ those.1) in
        given_in absent_name sorted from.0 name from.1 (subst (λ n. absent_at from.0.name from.0.found ≡ Some n) from.2 (absent_given from.0.name from.0.found empty));
  }

  text_order : AreInOrder (text_names sorted)
  text_order = given_rise sound_text (λ (text : NamedText). text.0) (λ file text gives. (text_named file.name file.found text gives).0) sorted ordered.rising

  are_texts : All (IsTextOf files roots) (filter_map sound_text sorted)
  are_texts = all_by (IsTextOf files roots) (filter_map sound_text sorted) (λ text has.
      let from = given_from sound_text sorted text has in
      let gives = text_named from.0.name from.0.found text from.2 in
      record {
        asked = subst (IsAskedIn files roots) (sym gives.0) (is_asked from.0 from.1);
        there = ap files gives.0 ∙ (is_there from.0 from.1 ∙ gives.1);
      })

  all_texts : (name bytes : List ℕ) → IsAskedIn files roots name → files name ≡ Some bytes → Contains (filter_map sound_text sorted) (name, bytes)
  all_texts name bytes leads there =
      let from = file_asked name leads in
      let full : text_of from.0.found ≡ Some bytes = sym (is_there from.0 from.1) ∙ (ap files from.2 ∙ there) in
      given_in sound_text sorted from.0 (name, bytes) from.1
      (subst (λ n. text_at from.0.name from.0.found ≡ Some (n, bytes)) from.2 (text_given set from.0.name bytes from.0.found full (is_faultless from.0 from.1)))

  pub roots_there : (name : List ℕ) → Contains roots name → files name ≡ None → ⊥
  roots_there name has empty =
      let from = file_asked name (0, has) in
      let nothing : text_of from.0.found ≡ None = sym (is_there from.0 from.1) ∙ (ap files from.2 ∙ empty) in
      no_root set from.0.name from.0.found nothing (is_faultless from.0 from.1) (subst (Contains set.keys) (sym from.2) (set_is.all name has))

  are_few : length (filter_map sound_text sorted) + length (filter_map absent_name sorted) ≤ MOST_FILES
  are_few = omega (arith, few, fewer sorted, length_permutation found sorted ordered.moved)

  are_within : AreWithin files (text_names sorted)
  are_within = record {
    each = all_by (λ name. size_of files name ≤ MOST_BYTES) (text_names sorted) (λ name has.
        let on = map_from (λ (text : NamedText). text.0) (filter_map sound_text sorted) name has in
        let from = given_from sound_text sorted on.0 on.1 in
        let same : from.0.name ≡ name = sym (text_named from.0.name from.0.found on.0 from.2).0 ∙ on.2 in
        let bound : bytes_of (answered_of from.0) ≤ MOST_BYTES = holds_of (λ answer. bytes_of answer ≤ MOST_BYTES) (answers_of found) (answered_of from.0) small (answer_in found from.0 (was_found from.0 from.1)) in
        let own : size_of files from.0.name ≤ MOST_BYTES = omega (arith, bound, size_is files from.0 (is_there from.0 from.1)) in
        subst (λ n. size_of files n ≤ MOST_BYTES) same own);
    together =
        let moved : IsPermutation (answers_of found) (answers_of sorted) = IsPermutation-map answered_of found sorted ordered.moved in
        omega (arith, together, sizes_within files sorted is_there, sum_by-IsPermutation bytes_of (answers_of found) (answers_of sorted) moved);
  }

  pub all_loaded : IsLoaded files roots (record {
    files = map see_facts out.files.items;
    absent = out.absent.items;
    roots = set.keys;
    texts = map (λ (text : List ℕ × Vec ℕ Global). (text.0, text.1.items)) out.texts.items;
  })
  all_loaded =
      let given : LoadedFiles = record { files = filter_map sound_facts sorted; absent = filter_map absent_name sorted; roots = set.keys; texts = filter_map sound_text sorted } in
      let proved : IsLoaded files roots given = record {
        root_names = record { ordered = set_is.ordered; sound = set_is.sound; all = set_is.all };
        absent_are = missing_are;
        ordered = text_order;
        texts = are_texts;
        all = all_texts;
        facts = facts_paired sorted is_told;
        there = roots_there;
        few = are_few;
        within = are_within;
      } in
      subst (IsLoaded files roots) (λ i. record { files = sym is.facts i; absent = sym is.missing i; roots = set.keys; texts = sym is.texts i }) proved
