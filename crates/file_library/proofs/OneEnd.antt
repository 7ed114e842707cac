-- Over one map of files the asking ends in one way, where no read fails and memory is ample.
use Rattle.std.proofs.Common.{◌≡◌, ℕ, ◌+◌, ◌<◌, ◌≤◌, ◌⊎◌, List, [], ◌∷◌, ◌++◌, None, length, Contains, refl, sym, subst, ap, ◌∙◌, inl, inr, arith}
use Rattle.std.specs.List.{AllZip}
use Rattle.std.proofs.lemmas.Bool.{cases_lt}
use Rattle.std.proofs.lemmas.Grind.{flat_map-append}
use Rattle.std.proofs.lemmas.List.{length-append, get_or_append_left, get_or-append-add, get_or_past, append-nil}
use Rattle.std.proofs.lemmas.List.Sums.{sum_by-append}
use Rattle.std.proofs.Math.Seq.{get_or-append_seam}
use Rattle.list_laws.proofs.OneOrder.{holds_of, in_first}
use Rattle.module_table.specs.Facts.{Facts}
use Rattle.module_table.specs.FileText.{HasFacts}
use Rattle.module_table.proofs.OneText.{same_facts, faulty_no_facts}
use Rattle.file_library.specs.declared.fault.Fault.{Fault}
use Rattle.file_library.specs.Library.{Files}
use Rattle.file_library.specs.Asked.{IsWave, wave_at, AreFirstWaves, AreWaves, names_in}
use Rattle.file_library.specs.FileLoads.{FileLoads}
use Rattle.prolog_tokens.specs.declared.limits.TheConstants.{MOST_BYTES}
use Rattle.file_library.specs.Loaded.{IsAskedIn, NamedText, LoadedFiles, size_of, AreWithin, IsTextOf, IsLoaded, IsLoadFault, AreLoadFaults}
use Rattle.file_library.specs.Asking.{AreFirst, AreAll, AreTooMany, LeadTo, IsTooMuch, LoadEnd, loaded, faults, unread, too_many, too_large, too_much, no_memory, LoadEndIs, IsDecided}
use Rattle.file_library.proofs.WaveLaws.{Names, more_waves}
use Rattle.file_library.proofs.NameLists.{Begins, two_begin, begins_before, same_last, begins_on, extends, empty_waves, names_more, one_by_key, one_in_order, those_one, no_more, zip_once, zip_partner}

-- a limit passed

-- the names up to the first with which a limit is passed
record IsCut (files : Files) (roots names : Names) (last : List ℕ) : Type 0 where
  leads : LeadTo files roots names last
  over : AreWithin files names → ⊥

within_begin : (files : Files) (a b : Names) → Begins a b → AreWithin files b → AreWithin files a
within_begin files a b on within =
    let is : AreWithin files (a ++ on.0) = subst (AreWithin files) on.1 within in
    let parts = sum_by-append (size_of files) a on.0 in
    record {
      each = λ k d less.
          subst (λ name. size_of files name ≤ MOST_BYTES) (get_or_append_left a on.0 d k less) (is.each k d (omega (arith, less, length-append a on.0)));
      together = omega (arith, is.together, parts);
    }

last_there : (before : Names) (last : List ℕ) → Contains (before ++ last ∷ []) last
last_there before last =
    let within : length before < length (before ++ last ∷ []) = omega (arith, length-append before (last ∷ [])) in
    (length before, within, get_or-append_seam before last [] last)

large_cut : (files : Files) (roots names : Names) (last : List ℕ) → LeadTo files roots names last → MOST_BYTES < size_of files last → IsCut files roots names last
large_cut files roots names last leads large =
    record {
      leads = leads;
      over = λ within.
          let has : Contains names last = subst (λ all. Contains all last) (sym leads.is) (last_there leads.before last) in
          let small : size_of files last ≤ MOST_BYTES = holds_of (λ name. size_of files name ≤ MOST_BYTES) names last within.each has in
          omega (arith, large, small);
    }

much_cut : (files : Files) (roots names : Names) (is : IsTooMuch files roots names) → IsCut files roots names is.last
much_cut files roots names is = record { leads = is.leads; over = λ within. omega (arith, is.much, within.together) }

module _ (files : Files) (roots : Names) where
  one_wave_list : (n : ℕ) (a b : Names) → IsWave (FileLoads files) roots n a → IsWave (FileLoads files) roots n b → a ≡ b
  one_wave_list n a b is also =
      one_in_order a b is.ordered also.ordered (λ x has. also.all x (is.sound x has)) (λ x has. is.all x (also.sound x has))

  -- first waves begin more first waves, and all waves

  waves_extend : (waves also : List Names) → AreFirstWaves (FileLoads files) roots waves → AreFirstWaves (FileLoads files) roots also → length waves ≤ length also
      → Begins (names_in waves) (names_in also)
  waves_extend waves also are are_also within =
      let on = extends waves also within (λ n less. one_wave_list n (wave_at waves n) (wave_at also n) (are n less) (are_also n (omega (arith, less, within)))) in
      (names_in on.0, ap (λ ws. names_in ws) on.1 ∙ flat_map-append (λ w. w) waves on.0)

  all_begin : (waves all : List Names) → AreFirstWaves (FileLoads files) roots waves → AreWaves (FileLoads files) roots all → Begins (names_in waves) (names_in all)
  all_begin waves all are are_all =
      elim (cases_lt (length all) (length waves)) [
        | inl below ↦
            let on = extends all waves (omega (arith, below)) (λ n less. one_wave_list n (wave_at all n) (wave_at waves n) (are_all n) (are n (omega (arith, less, below)))) in
            let long : length waves ≡ length (all ++ on.0) = ap (λ ws. length ws) on.1 in
            let none : names_in on.0 ≡ [] =
            empty_waves on.0 (λ k less.
            let place : length all + k < length waves = omega (arith, less, long, length-append all on.0) in
            let over : length all ≤ length all + k = omega arith in
            sym (get_or-append-add all on.0 k [])
            ∙ (ap (λ ws. wave_at ws (length all + k)) (sym on.1)
            ∙ (one_wave_list (length all + k) (wave_at waves (length all + k)) (wave_at all (length all + k)) (are (length all + k) place) (are_all (length all + k))
            ∙ get_or_past all (length all + k) [] over))) in
            let same : names_in waves ≡ names_in all =
            ap (λ ws. names_in ws) on.1 ∙ (flat_map-append (λ w. w) all on.0 ∙ (ap (λ names. names_in all ++ names) none ∙ append-nil (names_in all))) in
            ([], sym (append-nil (names_in waves) ∙ same))
        | inr over ↦ waves_extend waves all are (λ n less. are_all n) over
      ]

  -- of two lists of names asked for first one begins the other

  by_length : (a b : Names) (is : AreFirst files roots a) (also : AreFirst files roots b) → length is.waves ≤ length also.waves → Begins a b ⊎ Begins b a
  by_length a b is also within =
      let on = waves_extend is.waves also.waves is.are also.are within in
      let start = begins_on a (names_in is.waves) (names_in also.waves) is.rest is.is on in
      two_begin a b start.0 also.rest (sym start.1 ∙ also.is)

  comparable : (a b : Names) → AreFirst files roots a → AreFirst files roots b → Begins a b ⊎ Begins b a
  comparable a b is also =
      elim (cases_lt (length also.waves) (length is.waves)) [
        | inl below ↦ elim (by_length b a also is (omega (arith, below))) [ inl on ↦ inr on | inr on ↦ inl on ]
        | inr over ↦ by_length a b is also over
      ]

  -- the asking is cut off at one place

  shorter_cut : (a b : Names) (x y : List ℕ) → IsCut files roots a x → IsCut files roots b y → (rest : Names) → b ≡ a ++ rest → a ≡ b
  shorter_cut a b x y cut also [] is = sym (is ∙ append-nil a)
  shorter_cut a b x y cut also (r ∷ rest) is =
      let start = begins_before a also.leads.before r y rest (sym also.leads.is ∙ is) in
      absurd (cut.over (within_begin files a also.leads.before start also.leads.within))

  one_cut : (a b : Names) (x y : List ℕ) → IsCut files roots a x → IsCut files roots b y → x ≡ y
  one_cut a b x y cut also =
      let same : a ≡ b =
      elim (comparable a b cut.leads.first also.leads.first) [
        | inl on ↦ shorter_cut a b x y cut also on.0 on.1
        | inr on ↦ sym (shorter_cut b a y x also cut on.0 on.1)
      ] in
      same_last cut.leads.before also.leads.before x y (sym cut.leads.is ∙ (same ∙ also.leads.is))

  cut_or_all : (a b : Names) (x : List ℕ) → IsCut files roots a x → AreAll files roots b → ⊥
  cut_or_all a b x cut all =
      let first = cut.leads.first in
      let on = begins_on a (names_in first.waves) (names_in all.waves) first.rest first.is (all_begin first.waves all.waves first.are all.are) in
      cut.over (within_begin files a b (on.0, all.is ∙ on.1) all.within)

  cut_or_many : (a b : Names) (x : List ℕ) → IsCut files roots a x → AreTooMany files roots b → ⊥
  cut_or_many a b x cut many =
      let first = cut.leads.first in
      elim (cases_lt (length many.waves) (length first.waves)) [
        | inl below ↦
            let next = wave_at first.waves (length many.waves) in
            let is_next = first.are (length many.waves) (omega (arith, below)) in
            let more = many.waves ++ next ∷ [] in
            let within : length more ≤ length first.waves = omega (arith, below, length-append many.waves (next ∷ [])) in
            let on = waves_extend more first.waves (more_waves (FileLoads files) roots many.waves next many.are is_next) first.are within in
            let long : length (names_in first.waves) ≡ length (names_in more ++ on.0) = ap (λ names. length names) on.1 in
            let count : length b ≡ length (names_in many.waves) = ap (λ names. length names) many.is in
            omega (
              arith,
              first.few,
              many.many,
              long,
              length-append (names_in more) on.0,
              names_more many.waves next,
              count,
              no_more many.next next many.ordered (λ name has. is_next.all name (many.in_wave name has)),
            )
        | inr over ↦
            let on = begins_on a (names_in first.waves) (names_in many.waves) first.rest first.is (waves_extend first.waves many.waves first.are many.are over) in
            cut.over (within_begin files a b (on.0, many.is ∙ on.1) many.within)
      ]

  all_or_many : (a b : Names) → AreAll files roots a → AreTooMany files roots b → ⊥
  all_or_many a b all many =
      let next = wave_at all.waves (length many.waves) in
      let is_next = all.are (length many.waves) in
      let more = many.waves ++ next ∷ [] in
      let on = all_begin more all.waves (more_waves (FileLoads files) roots many.waves next many.are is_next) all.are in
      let long : length (names_in all.waves) ≡ length (names_in more ++ on.0) = ap (λ names. length names) on.1 in
      let count : length b ≡ length (names_in many.waves) = ap (λ names. length names) many.is in
      let whole : length a ≡ length (names_in all.waves) = ap (λ names. length names) all.is in
      omega (
        arith,
        all.few,
        many.many,
        long,
        length-append (names_in more) on.0,
        names_more many.waves next,
        count,
        whole,
        no_more many.next next many.ordered (λ name has. is_next.all name (many.in_wave name has)),
      )

  -- what is loaded, and the faults

  has_text : (found other : LoadedFiles) → IsLoaded files roots found → IsLoaded files roots other → (text : NamedText) → Contains found.texts text → Contains other.texts text
  has_text found other is also text has =
      let of : IsTextOf files roots text = holds_of (IsTextOf files roots) found.texts text is.texts has in also.all text.0 text.1 of.asked of.there

  one_loaded : (found other : LoadedFiles) → IsLoaded files roots found → IsLoaded files roots other → found ≡ other
  one_loaded found other is also =
      let texts : found.texts ≡ other.texts =
      one_by_key (λ (text : NamedText). text.0) found.texts other.texts is.ordered also.ordered (has_text found other is also) (has_text other found also is) in
      let R : NamedText → Facts → Type 0 = λ text facts. HasFacts text.0 text.1 facts in
      let facts : found.files ≡ other.files =
      zip_once R (λ text one two has has_also. same_facts text.0 text.1 one two has has_also) found.texts found.files other.files is.facts
      (subst (λ ts. AllZip R ts other.files) (sym texts) also.facts) in
      let absent = those_one (λ name. IsAskedIn files roots name × (files name ≡ None)) found.absent other.absent is.absent_are also.absent_are in
      let names = those_one (λ name. Contains roots name) found.roots other.roots is.root_names also.root_names in
      λ i. record { files = facts i; absent = absent i; roots = names i; texts = texts i }

  loaded_sound : (found : LoadedFiles) (fault : Fault) → IsLoaded files roots found → IsLoadFault files roots fault → ⊥
  loaded_sound found fault is (inl no_root) = is.there fault.file no_root.root no_root.none
  loaded_sound found fault is (inr of) =
      let partner =
      zip_partner (λ (text : NamedText) (facts : Facts). HasFacts text.0 text.1 facts) found.texts found.files (fault.file, of.text) is.facts
      (is.all fault.file of.text of.asked of.there) in
      faulty_no_facts fault.file of.text (record { cause = fault.cause; offset = fault.offset }) partner.0 of.has partner.1

  loaded_or_faults : (found : LoadedFiles) (some : List Fault) → IsLoaded files roots found → AreLoadFaults files roots some → (some ≡ [] → ⊥) → ⊥
  loaded_or_faults found [] is are any = any refl
  loaded_or_faults found (fault ∷ rest) is are any =
      loaded_sound found fault is (holds_of (IsLoadFault files roots) (fault ∷ rest) fault are.sound (in_first fault rest))

  one_faults : (some others : List Fault) → AreLoadFaults files roots some → AreLoadFaults files roots others → some ≡ others
  one_faults some others is also =
      one_by_key (λ (fault : Fault). fault.file) some others is.ordered also.ordered
      (λ fault has. also.all fault (holds_of (IsLoadFault files roots) some fault is.sound has))
      (λ fault has. is.all fault (holds_of (IsLoadFault files roots) others fault also.sound has))

  -- so the end is one

  large_or_much : (a b : Names) (x : List ℕ) → LeadTo files roots a x → MOST_BYTES < size_of files x → IsTooMuch files roots b → ⊥
  large_or_much a b x leads large is =
      let same : x ≡ is.last = one_cut a b x is.last (large_cut files roots a x leads large) (much_cut files roots b is) in
      let small : size_of files x ≤ MOST_BYTES = subst (λ name. size_of files name ≤ MOST_BYTES) (sym same) is.small in
      omega (arith, large, small)

  pub one_end : (a b : Names) (end second : LoadEnd) → IsDecided end → IsDecided second → LoadEndIs files roots a end → LoadEndIs files roots b second → end ≡ second
  one_end a b (loaded found) (loaded other) sure also_sure is also = ap (λ files. loaded files) (one_loaded found other is.1 also.1)
  one_end a b (loaded found) (faults others) sure also_sure is also = absurd (loaded_or_faults found others is.1 also.1 also.2)
  one_end a b (loaded found) (unread name) sure never is also = absurd never
  one_end a b (loaded found) too_many sure also_sure is also = absurd (all_or_many a b is.0 also)
  one_end a b (loaded found) (too_large y) sure also_sure is also = absurd (cut_or_all b a y (large_cut files roots b y also.0 also.1) is.0)
  one_end a b (loaded found) too_much sure also_sure is also = absurd (cut_or_all b a also.last (much_cut files roots b also) is.0)
  one_end a b (loaded found) no_memory sure never is also = absurd never
  one_end a b (faults some) (loaded other) sure also_sure is also = absurd (loaded_or_faults other some also.1 is.1 is.2)
  one_end a b (faults some) (faults others) sure also_sure is also = ap (λ faulty. faults faulty) (one_faults some others is.1 also.1)
  one_end a b (faults some) (unread name) sure never is also = absurd never
  one_end a b (faults some) too_many sure also_sure is also = absurd (all_or_many a b is.0 also)
  one_end a b (faults some) (too_large y) sure also_sure is also = absurd (cut_or_all b a y (large_cut files roots b y also.0 also.1) is.0)
  one_end a b (faults some) too_much sure also_sure is also = absurd (cut_or_all b a also.last (much_cut files roots b also) is.0)
  one_end a b (faults some) no_memory sure never is also = absurd never
  one_end a b (unread name) second never sure is also = absurd never
  one_end a b too_many (loaded other) sure also_sure is also = absurd (all_or_many b a also.0 is)
  one_end a b too_many (faults others) sure also_sure is also = absurd (all_or_many b a also.0 is)
  one_end a b too_many (unread name) sure never is also = absurd never
  one_end a b too_many too_many sure also_sure is also = refl
  one_end a b too_many (too_large y) sure also_sure is also = absurd (cut_or_many b a y (large_cut files roots b y also.0 also.1) is)
  one_end a b too_many too_much sure also_sure is also = absurd (cut_or_many b a also.last (much_cut files roots b also) is)
  one_end a b too_many no_memory sure never is also = absurd never
  one_end a b (too_large x) (loaded other) sure also_sure is also = absurd (cut_or_all a b x (large_cut files roots a x is.0 is.1) also.0)
  one_end a b (too_large x) (faults others) sure also_sure is also = absurd (cut_or_all a b x (large_cut files roots a x is.0 is.1) also.0)
  one_end a b (too_large x) (unread name) sure never is also = absurd never
  one_end a b (too_large x) too_many sure also_sure is also = absurd (cut_or_many a b x (large_cut files roots a x is.0 is.1) also)
  one_end a b (too_large x) (too_large y) sure also_sure is also = ap (λ name. too_large name) (one_cut a b x y (large_cut files roots a x is.0 is.1) (large_cut files roots b y also.0 also.1))
  one_end a b (too_large x) too_much sure also_sure is also = absurd (large_or_much a b x is.0 is.1 also)
  one_end a b (too_large x) no_memory sure never is also = absurd never
  one_end a b too_much (loaded other) sure also_sure is also = absurd (cut_or_all a b is.last (much_cut files roots a is) also.0)
  one_end a b too_much (faults others) sure also_sure is also = absurd (cut_or_all a b is.last (much_cut files roots a is) also.0)
  one_end a b too_much (unread name) sure never is also = absurd never
  one_end a b too_much too_many sure also_sure is also = absurd (cut_or_many a b is.last (much_cut files roots a is) also)
  one_end a b too_much (too_large y) sure also_sure is also = absurd (large_or_much b a y also.0 also.1 is)
  one_end a b too_much too_much sure also_sure is also = refl
  one_end a b too_much no_memory sure never is also = absurd never
  one_end a b no_memory second never sure is also = absurd never
