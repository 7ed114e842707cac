-- Files in order of name, and what they come to one by one.
use Rattle.std.proofs.Common.{◌≡◌, ℕ, zero, suc, ◌<◌, ◌≤◌, Bool, true, false, List, [], ◌∷◌, ◌++◌, Contains, Vec, Global, length, map, filter, get_or, refl, sym, subst, ◌∙◌, ap, inl, inr, arith, append-nil}
use Rattle.std.specs.List.{All, filter_map, AllPairs, AllZip, AllByRecursion, IsDistinct}
use Rattle.std.specs.List.Sorted.{IsPermutation, IsSortedBy}
use Rattle.std.specs.Bool.{Decides}
use Rattle.std.specs.Str.{bytes_eq}
use Rattle.std.specs.Ordering.{nat_cmp, is_lt, ordering_reverse}
use Rattle.std.specs.Cmp.{IsStrictWeakOrder}
use Rattle.std.specs.Cmp.Lexicographic.{slice_cmp}
use Rattle.std.specs.BTreeSet.{BTreeSet, contains}
use Rattle.std.specs.declared.cmp.Ordering.{Ordering}
use Rattle.std.specs.declared.cmp.Ordering.TheVariants.{Less, Equal, Greater}
use Rattle.std.proofs.lemmas.Cmp.{nat_list_cmp_total}
use Rattle.std.proofs.lemmas.List.{length-map, map-append, get_or-map, get_or_default}
use Rattle.std.proofs.lemmas.List.Elements.{filter-append, filter_map-append}
use Rattle.std.proofs.lemmas.List.Sorted.{IsPermutation-map, ranks_by, sorted_far}
use Rattle.std.proofs.lemmas.Map.Keys.{IsDistinct-IsPermutation}
use Rattle.std.proofs.lemmas.Map.Lookups.{exact_bytes}
use Rattle.std.proofs.lemmas.Slice.Eq.{bytes_eq-Decides}
use Rattle.list_laws.proofs.OneOrder.{nothing_in, first_or_rest, in_rest, in_first, before_rest, rest_in_order}
use Rattle.list_laws.proofs.Zips.{zip_append}
use Rattle.module_table.specs.declared.file_facts.FileFacts.{FileFacts}
use Rattle.module_table.specs.Facts.{see_facts}
use Rattle.module_table.specs.Said.{Refusal}
use Rattle.file_library.specs.Library.{names_of}
use Rattle.file_library.specs.AskedFile.{absent, sound, faulty, FileFound, see_file}
use Rattle.file_library.specs.AskAll.{answers_of, AreApart}
use Rattle.file_library.specs.SortedOut.{sound_facts, sound_text, absent_name, has_fault, IsFaultFor, AreSortedOut, AreOrdered}
use Rattle.file_library.specs.declared.asked_file.AskedFile.{AskedFile}
use Rattle.file_library.specs.declared.fault.Fault.{Fault}
use Rattle.file_library.specs.declared.sorted_out.SortedOut.{SortedOut}
use Rattle.file_library.proofs.Lookups.{names_apart}

-- lists of different names

pub each_holds : {X : Type 0} (P : X → Type 0) (xs : List X) → ((x : X) → Contains xs x → P x) → AllByRecursion P xs
each_holds {X} P [] each = tt
each_holds {X} P (x ∷ xs) each = (each x (in_first x xs), each_holds P xs (λ y has. each y (in_rest x y xs has)))

each_by : {X : Type 0} (P : X → Type 0) (xs : List X) (x : X) → AllByRecursion P xs → Contains xs x → P x
each_by {X} P [] x all has = absurd (nothing_in x has)
each_by {X} P (y ∷ xs) x all has = elim (first_or_rest y x xs has) [ inl is ↦ subst P is all.0 | inr later ↦ each_by P xs x all.1 later ]

differ_test : (a b : List ℕ) → (a ≡ b → ⊥) → bytes_eq a b ≡ false
differ_test a b differ = at (bytes_eq a b) (bytes_eq-Decides a b)
  where
    at : (same : Bool) → Decides same (a ≡ b) → same ≡ false
    at true decides = absurd (differ (decides.0 refl))
    at false decides = refl

test_differ : (a b : List ℕ) → bytes_eq a b ≡ false → a ≡ b → ⊥
test_differ a b test same = let both : true ≡ false = sym ((bytes_eq-Decides a b).1 same) ∙ test in cc

pub distinct_names : (names : List (List ℕ)) → AllPairs (λ a b. a ≡ b → ⊥) names → IsDistinct bytes_eq names
unfolding IsDistinct
distinct_names [] apart = tt
distinct_names (name ∷ names) apart = (
  each_holds (λ n. bytes_eq name n ≡ false) names (λ n has. differ_test name n (before_rest (λ a b. a ≡ b → ⊥) name n names apart has)),
  distinct_names names (rest_in_order (λ a b. a ≡ b → ⊥) name names apart),
)

names_differ : (names : List (List ℕ)) → IsDistinct bytes_eq names → (i j : ℕ) (d : List ℕ) → i < j → j < length names → get_or names i d ≡ get_or names j d → ⊥
unfolding IsDistinct
names_differ [] distinct i j d lt within same = let no : ⊥ = omega (arith, within) in no
names_differ (name ∷ names) distinct zero zero d lt within same = let no : ⊥ = omega (arith, lt) in no
names_differ (name ∷ names) distinct zero (suc j) d lt within same =
    let below : j < length names = omega (arith, within) in
    test_differ name (get_or names j d) (each_by (λ n. bytes_eq name n ≡ false) names (get_or names j d) distinct.0 (j, below, get_or_default names j (get_or names j d) d below)) same
names_differ (name ∷ names) distinct (suc i) zero d lt within same = let no : ⊥ = omega (arith, lt) in no
names_differ (name ∷ names) distinct (suc i) (suc j) d lt within same =
    let less : i < j = omega (arith, lt) in
    let below : j < length names = omega (arith, within) in
    names_differ names distinct.1 i j d less below same

pub flips : (a b : List ℕ) → bytes_eq a b ≡ bytes_eq b a
flips a b = at (bytes_eq a b) (bytes_eq b a) (bytes_eq-Decides a b) (bytes_eq-Decides b a)
  where
    at : (x y : Bool) → Decides x (a ≡ b) → Decides y (b ≡ a) → x ≡ y
    at true true first second = refl
    at true false first second = let both : false ≡ true = second.1 (sym (first.0 refl)) in absurd (cc)
    at false true first second = let both : false ≡ true = first.1 (sym (second.0 refl)) in absurd (cc)
    at false false first second = refl

-- files that are sorted by name

abbrev pub comes_before : AskedFile → AskedFile → Bool
comes_before a b = is_lt (slice_cmp nat_cmp a.name b.name)

pub comes_before_ranks : IsStrictWeakOrder comes_before
comes_before_ranks = ranks_by nat_list_cmp_total (λ (file : AskedFile). file.name)

less_from : (a b : List ℕ) → is_lt (slice_cmp nat_cmp b a) ≡ false → (a ≡ b → ⊥) → slice_cmp nat_cmp a b ≡ Less
less_from a b after differ = at (slice_cmp nat_cmp a b) (slice_cmp nat_cmp b a) (nat_list_cmp_total.antisymm b a) after (λ same. differ (exact_bytes a b same))
  where
    at : (r back : Ordering) → back ≡ ordering_reverse r → is_lt back ≡ false → (r ≡ Equal → ⊥) → r ≡ Less
    at Less back e after other = refl
    at Equal back e after other = absurd (other refl)
    at Greater back e after other = let both : true ≡ false = ap is_lt (sym e) ∙ after in absurd (cc)

abbrev name_of : AskedFile → List ℕ
name_of file = file.name

pub ordered_files : (files sorted : List AskedFile) → IsPermutation files sorted → IsSortedBy comes_before sorted → AreApart (answers_of (map see_file files)) → AreOrdered (map see_file files) (map see_file sorted)
ordered_files files sorted moved up apart = record {
  moved = IsPermutation-map see_file files sorted moved;
  rising = λ i j d lt within.
      let inside : j < length sorted = omega (arith, within, length-map sorted see_file) in
      let lower : i < length sorted = omega (arith, lt, inside) in
      let none : AskedFile = get_or sorted i (first_of sorted inside) in
      let up_to : i ≤ j = omega (arith, lt) in
      let names_below : j < length (map name_of sorted) = omega (arith, inside, length-map sorted name_of) in
      let differ : (get_or sorted i none).name ≡ (get_or sorted j none).name → ⊥ = λ same.
      names_differ (map name_of sorted) distinct i j none.name lt names_below
      (get_or-map name_of sorted i none none.name lower ∙ (same ∙ sym (get_or-map name_of sorted j none none.name inside))) in
      let less = less_from (get_or sorted i none).name (get_or sorted j none).name (sorted_far comes_before comes_before_ranks sorted up i j none up_to inside) differ in
      let at : (k : ℕ) → k < length sorted → (get_or (map see_file sorted) k d).name ≡ (get_or sorted k none).name = λ k below. ap (λ (f : FileFound). f.name) (get_or-map see_file sorted k none d below) in
      subst (λ n. slice_cmp nat_cmp n (get_or (map see_file sorted) j d).name ≡ Less) (sym (at i lower))
      (subst (λ n. slice_cmp nat_cmp (get_or sorted i none).name n ≡ Less) (sym (at j inside)) less);
}
  where
    first_of : (xs : List AskedFile) {j : ℕ} → j < length xs → AskedFile
    first_of [] {j} less = let no : ⊥ = omega (arith, less) in absurd no
    first_of (x ∷ xs) {j} less = x

    seen_names : (xs : List AskedFile) → names_of (answers_of (map see_file xs)) ≡ map name_of xs
    seen_names [] = refl
    seen_names (x ∷ xs) = ap (λ rest. x.name ∷ rest) (seen_names xs)

    distinct : IsDistinct bytes_eq (map name_of sorted)
    distinct =
        IsDistinct-IsPermutation bytes_eq flips (map name_of files) (map name_of sorted) (IsPermutation-map name_of files sorted moved)
        (distinct_names (map name_of files) (subst (AllPairs (λ a b. a ≡ b → ⊥)) (seen_names files) (names_apart (answers_of (map see_file files)) apart)))

-- one more file is put where it belongs

filter_one : {X : Type 0} (test : X → Bool) (x : X) (answer : Bool) → test x ≡ answer → filter test (x ∷ []) ≡ (filter (λ y. answer) (x ∷ []))
filter_one {X} test x true is = rw is refl
filter_one {X} test x false is = rw is refl

module _ (roots : BTreeSet (List ℕ)) (files : List FileFound) (out : SortedOut) (so_far : AreSortedOut roots files out) where
  put_any : (file : FileFound) (out' : SortedOut) (faults : List Fault) → map see_facts out'.files.items ≡ map see_facts out.files.items ++ filter_map sound_facts (file ∷ [])
      → map (λ (text : List ℕ × Vec ℕ Global). (text.0, text.1.items)) out'.texts.items ≡ map (λ (text : List ℕ × Vec ℕ Global). (text.0, text.1.items)) out.texts.items ++ filter_map sound_text (file ∷ [])
      → out'.absent.items ≡ out.absent.items ++ filter_map absent_name (file ∷ []) → out'.faults.items ≡ out.faults.items ++ faults
      → AllZip IsFaultFor (filter (has_fault roots) (file ∷ [])) faults → AreSortedOut roots (files ++ file ∷ []) out'
  put_any file out' faults facts texts missing gained zip = record {
    facts = facts ∙ (ap (λ l. l ++ filter_map sound_facts (file ∷ [])) so_far.facts ∙ sym (filter_map-append sound_facts files (file ∷ [])));
    texts = texts ∙ (ap (λ l. l ++ filter_map sound_text (file ∷ [])) so_far.texts ∙ sym (filter_map-append sound_text files (file ∷ [])));
    missing = missing ∙ (ap (λ l. l ++ filter_map absent_name (file ∷ [])) so_far.missing ∙ sym (filter_map-append absent_name files (file ∷ [])));
    faults =
        subst (λ l. AllZip IsFaultFor l out'.faults.items) (sym (filter-append (has_fault roots) files (file ∷ [])))
        (subst (λ l. AllZip IsFaultFor (filter (has_fault roots) files ++ filter (has_fault roots) (file ∷ [])) l) (sym gained)
        (zip_append IsFaultFor (filter (has_fault roots) files) (filter (has_fault roots) (file ∷ [])) out.faults.items faults so_far.faults zip));
  }

  pub put_sound : (name : List ℕ) (bytes : Vec ℕ Global) (facts : FileFacts) (out' : SortedOut) → out'.files.items ≡ out.files.items ++ facts ∷ [] → out'.texts.items ≡ out.texts.items ++ (name, bytes) ∷ []
      → out'.absent.items ≡ out.absent.items → out'.faults.items ≡ out.faults.items
      → AreSortedOut roots (files ++ (record { name = name; found = sound bytes.items (see_facts facts) }) ∷ []) out'
  put_sound name bytes facts out' one text same none =
      put_any (record { name = name; found = sound bytes.items (see_facts facts) }) out' [] (ap (map see_facts) one ∙ map-append see_facts out.files.items (facts ∷ []))
      (ap (map (λ (text : List ℕ × Vec ℕ Global). (text.0, text.1.items))) text ∙ map-append (λ (text : List ℕ × Vec ℕ Global). (text.0, text.1.items)) out.texts.items ((name, bytes) ∷ []))
      (same ∙ sym (append-nil out.absent.items)) (none ∙ sym (append-nil out.faults.items)) tt

  pub put_faulty : (name bytes : List ℕ) (refusal : Refusal) (fault : Fault) (out' : SortedOut) → out'.files.items ≡ out.files.items → out'.texts.items ≡ out.texts.items → out'.absent.items ≡ out.absent.items
      → out'.faults.items ≡ out.faults.items ++ fault ∷ [] → IsFaultFor (record { name = name; found = faulty bytes refusal }) fault
      → AreSortedOut roots (files ++ (record { name = name; found = faulty bytes refusal }) ∷ []) out'
  put_faulty name bytes refusal fault out' one text same gained is =
      put_any (record { name = name; found = faulty bytes refusal }) out' (fault ∷ []) (ap (map see_facts) one ∙ sym (append-nil (map see_facts out.files.items)))
      (ap (map (λ (text : List ℕ × Vec ℕ Global). (text.0, text.1.items))) text ∙ sym (append-nil (map (λ (text : List ℕ × Vec ℕ Global). (text.0, text.1.items)) out.texts.items)))
      (same ∙ sym (append-nil out.absent.items)) gained (is, tt)

  pub put_missing : (name : List ℕ) (out' : SortedOut) (test : Bool) (faults : List Fault) → contains (slice_cmp nat_cmp) roots name ≡ test → out'.files.items ≡ out.files.items → out'.texts.items ≡ out.texts.items
      → out'.absent.items ≡ out.absent.items ++ name ∷ [] → out'.faults.items ≡ out.faults.items ++ faults
      → AllZip IsFaultFor (filter (λ (file : FileFound). test) ((record { name = name; found = absent }) ∷ [])) faults
      → AreSortedOut roots (files ++ (record { name = name; found = absent }) ∷ []) out'
  put_missing name out' test faults is one text gained more zip =
      put_any (record { name = name; found = absent }) out' faults (ap (map see_facts) one ∙ sym (append-nil (map see_facts out.files.items)))
      (ap (map (λ (text : List ℕ × Vec ℕ Global). (text.0, text.1.items))) text ∙ sym (append-nil (map (λ (text : List ℕ × Vec ℕ Global). (text.0, text.1.items)) out.texts.items)))
      gained more
      (subst (λ l. AllZip IsFaultFor l faults) (sym (filter_one (has_fault roots) (record { name = name; found = absent }) test is)) zip)

-- nothing is put yet
pub none_put : (roots : BTreeSet (List ℕ)) (out : SortedOut) → out.files.items ≡ [] → out.texts.items ≡ [] → out.absent.items ≡ [] → out.faults.items ≡ [] → AreSortedOut roots [] out
none_put roots out one text same none = record {
  facts = ap (map see_facts) one;
  texts = ap (map (λ (text : List ℕ × Vec ℕ Global). (text.0, text.1.items))) text;
  missing = same;
  faults = subst (λ l. AllZip IsFaultFor [] l) (sym none) tt;
}

-- what holds of all holds of the one that comes after some
pub all_at : {X Y : Type 0} (see : X → Y) (P : Y → Type 0) (done rest items : List X) (x : X) → done ++ x ∷ rest ≡ items → All P (map see items) → P (see x)
all_at {X} {Y} see P [] rest items x is all = let whole = subst (λ l. All P (map see l)) (sym is) all in whole 0 (see x) (omega arith)
all_at {X} {Y} see P (y ∷ done) rest items x is all =
    let whole = subst (λ l. All P (map see l)) (sym is) all in
    all_at see P done rest (done ++ x ∷ rest) x refl (λ k d within. whole (suc k) d (omega (arith, within)))
