-- What searches say of exports, absent names, files and predicates.
use Rattle.std.proofs.Common.{◌≡◌, ℕ, ◌<◌, Bool, true, false, ◌&&◌, ◌||◌, not, List, [], ◌∷◌, ◌++◌, ◌+◌, Option, Some, None, MatchOption, All, AllPairs, is_some, nat_eq, map, take, cond, get_or, length, slice_get, refl, sym, ap, ◌∙◌, subst, arith}
use Rattle.std.specs.Borrow.{Bor}
use Rattle.std.specs.Cmp.{IsTotalOrder, both_tied, unsigned_ties}
use Rattle.std.specs.Cmp.Lexicographic.{slice_cmp, texts_ties}
use Rattle.std.specs.List.{list_any}
use Rattle.std.specs.List.Sorted.{IsPermutation, IsSortedBy, IsSortedByKey}
use Rattle.std.specs.Ordering.{nat_cmp, is_eq}
use Rattle.std.specs.Str.{bytes_eq}
use Rattle.std.specs.declared.cmp.Ordering.TheVariants.{Less, Equal}
use Rattle.std.proofs.lemmas.Cmp.{then_total, on_total, nat_list_cmp_total, nat_cmp_total}
use Rattle.std.proofs.lemmas.List.{length-map, get_or-map, map-append, take_more}
use Rattle.std.proofs.lemmas.List.Elements.{All-push}
use Rattle.std.proofs.lemmas.List.Folds.{list_any_more}
use Rattle.std.proofs.lemmas.List.Sorted.{list_any-IsPermutation}
use Rattle.std.proofs.lemmas.Map.Keys.{Less-from_sorted}
use Rattle.std.proofs.lemmas.Map.Lookups.{exact_bytes}
use Rattle.std.proofs.lemmas.Option.{slice_get_within, get_or_from_slice_get}
use Rattle.module_table.specs.declared.indicator.Indicator.{Indicator}
use Rattle.module_table.specs.Facts.{Facts}
use Rattle.file_library.specs.Asked.{AreInOrder}
use Rattle.import_rules.specs.declared.known_file.KnownFile.{KnownFile}
use Rattle.import_rules.specs.declared.names.PredName.{PredName}
use Rattle.import_rules.specs.Names.{is_same}
use Rattle.import_rules.specs.Files.{AreNumbered, file_named, has_export, is_local, all_defined}
use Rattle.import_rules.specs.KnownFiles.{AreRising, IsKnownIn, declares, indicator_cmp, indicators_of, see_known}
use Rattle.import_rules.proofs.Lists.{any-map, any_agrees, any_none, any_there, any_same, map_has}
use Rattle.import_rules.proofs.NameOrder.{same_itself}
use Rattle.import_rules.proofs.Runs.{comes_before}
use Rattle.import_rules.proofs.Searches.{sorted_from_rising}
use Rattle.import_rules.proofs.FileNames.{named_there, none_named, first_told}

pub indicator_cmp_total : IsTotalOrder indicator_cmp
indicator_cmp_total = then_total (on_total (λ (i : Indicator). i.name) nat_list_cmp_total) (on_total (λ (i : Indicator). i.arity) nat_cmp_total)

-- an export that ties is one of the name and arity
pub export_there : (known : KnownFile) (i : Indicator) (found : Bool) → IsPermutation (see_known known).exports (indicators_of known.exports.items)
    → found ≡ list_any (λ (e : Bor Indicator). is_eq (indicator_cmp i e.now)) known.exports.items → found ≡ has_export (see_known known) i
export_there known i found moved is =
    is
    ∙ (sym (any-map (λ e. is_eq (indicator_cmp i e)) (λ (e : Bor Indicator). e.now) known.exports.items)
    ∙ (sym (list_any-IsPermutation (λ e. is_eq (indicator_cmp i e)) (see_known known).exports (indicators_of known.exports.items) moved)
    ∙ any_agrees (λ e. is_eq (indicator_cmp i e)) (λ (e : Indicator). bytes_eq i.name e.name && nat_eq i.arity e.arity)
    (λ e. sym (both_tied _ _ _ _ (texts_ties i.name e.name) (unsigned_ties i.arity e.arity))) (see_known known).exports))

-- names in order

pub names_sorted : (names : List (List ℕ)) → AreInOrder names → IsSortedBy (comes_before (slice_cmp nat_cmp) (λ name. name)) names
names_sorted names up =
    sorted_from_rising (slice_cmp nat_cmp) nat_list_cmp_total (λ name. name) names (λ i j d lt within. Less-from_sorted (slice_cmp nat_cmp) names i j d up lt within)

pub name_there : (names : List (List ℕ)) (name : List ℕ) (found : Bool) → found ≡ list_any (λ other. is_eq (slice_cmp nat_cmp name other)) names → found ≡ list_any (bytes_eq name) names
name_there names name found is = is ∙ any_agrees (λ other. is_eq (slice_cmp nat_cmp name other)) (bytes_eq name) (λ other. sym (texts_ties name other)) names

-- files in order

abbrev pub file_of : KnownFile → List ℕ
file_of known = (see_known known).file

pub files_sorted : (known : List KnownFile) → AreRising (map see_known known) → IsSortedBy (comes_before (slice_cmp nat_cmp) file_of) known
files_sorted known up = sorted_from_rising (slice_cmp nat_cmp) nat_list_cmp_total file_of known (rising known up)
  where
    rising : (known : List KnownFile) → AreRising (map see_known known) → AllPairs (λ a b. slice_cmp nat_cmp (file_of a) (file_of b) ≡ Less) known
    rising known up i j d lt within =
        let inside : j < length (map see_known known) = omega (arith, within, length-map known see_known) in
        let lower : i < length known = omega (arith, lt, within) in
        subst (λ f. slice_cmp nat_cmp f (file_of (get_or known j d)) ≡ Less) (ap (λ (f : Facts). f.file) (get_or-map see_known known i d (see_known d) lower))
        (subst (λ f. slice_cmp nat_cmp (get_or (map see_known known) i (see_known d)).file f ≡ Less) (ap (λ (f : Facts). f.file) (get_or-map see_known known j d (see_known d) within))
        (up i j (see_known d) lt inside))

pub no_file : (known : List KnownFile) (name : List ℕ) → false ≡ list_any (λ k. is_eq (slice_cmp nat_cmp name (file_of k))) known → None ≡ file_named (map see_known known) name
no_file known name is =
    sym
    (none_named (map see_known known) name
    (any_none (λ (f : Facts). bytes_eq name f.file) (map see_known known)
    (any-map (λ (f : Facts). bytes_eq name f.file) see_known known
    ∙ (any_agrees (λ k. bytes_eq name (file_of k)) (λ k. is_eq (slice_cmp nat_cmp name (file_of k))) (λ k. texts_ties name (file_of k)) known ∙ sym is))))

pub one_file : (known : List KnownFile) (name : List ℕ) (i : ℕ) (file : KnownFile) → AreRising (map see_known known) → i < length known → file ≡ get_or known i file
    → slice_cmp nat_cmp (file_of (get_or known i file)) name ≡ Equal → Some (see_known file) ≡ file_named (map see_known known) name
one_file known name i file up within is tie =
    let own : file_of file ≡ name = ap file_of is ∙ exact_bytes (file_of (get_or known i file)) name tie in
    sym
    (subst (λ n. file_named (map see_known known) n ≡ Some (see_known file)) own
    (named_there (map see_known known) (see_known file) up (map_has see_known known file (i, within, sym is))))

-- a name among the predicates is that of a local one

pub local_there : (files : List Facts) (predicates : List PredName) (p : PredName) → AreNumbered files predicates → list_any (is_same p) predicates ≡ is_local files p
local_there files predicates p numbered = any_same (is_same p) predicates (all_defined files) numbered.defined numbered.all

pub found_there : (predicates : List PredName) (p : PredName) (found : Option ℕ) → MatchOption found (list_any (is_same p) predicates ≡ false) (λ n. slice_get predicates n ≡ Some p)
    → is_some found ≡ list_any (is_same p) predicates
found_there predicates p None is = sym is
found_there predicates p (Some n) is =
    sym (any_there (is_same p) predicates p (n, slice_get_within predicates n p is, get_or_from_slice_get predicates n p p is) (same_itself p))

-- one more module is declared
pub declared_more : (own key : List ℕ) (new old is_module : Bool) → new ≡ cond (is_eq (slice_cmp nat_cmp key own)) true old → is_module ≡ true → new ≡ (old || (is_module && bytes_eq key own))
declared_more own key new old is_module is true_ =
    is ∙ (ap (λ b. cond b true old) (sym (texts_ties key own)) ∙ (at (bytes_eq key own) old ∙ ap (λ b. old || (b && bytes_eq key own)) (sym true_)))
  where
    at : (b old : Bool) → cond b true old ≡ (old || b)
    at true true = refl
    at true false = refl
    at false true = refl
    at false false = refl

-- one more file is known

pub known_more : (files : List Facts) (i : ℕ) (old new : List KnownFile) (one : KnownFile) → AreRising files → i < length files → see_known one ≡ get_or files i (see_known one)
    → new ≡ old ++ one ∷ [] → map see_known old ≡ take i files → All (IsKnownIn files) old → IsSortedByKey (λ (e : Bor Indicator). e.now) indicator_cmp one.exports.items
    → IsPermutation (see_known one).exports (indicators_of one.exports.items)
    → one.leads ≡ ((see_known one).is_module && not (list_any (declares (see_known one).module_) (take i files)))
    → (map see_known new ≡ take (i + 1) files) × All (IsKnownIn files) new
known_more files i old new one up within here is so_far each sorted moved leads =
    let known : IsKnownIn files one = record {
      exports = record { sorted = sorted; moved = moved };
      leads = leads ∙ ap (λ b. (see_known one).is_module && b) (sym (first_told files i (see_known one) up within here));
    } in (
      ap (map see_known) is ∙ (map-append see_known old (one ∷ [])
          ∙ ((λ j. so_far j ++ here j ∷ []) ∙ sym (take_more files i (see_known one) within))),
      subst (All (IsKnownIn files)) (sym is) (All-push (IsKnownIn files) old one each known),
    )

pub declared_so_far : (own : List ℕ) (files : List Facts) (i : ℕ) (file : Facts) (old new : Bool) → i < length files → file ≡ get_or files i file
    → new ≡ (old || declares own file) → old ≡ list_any (declares own) (take i files) → new ≡ list_any (declares own) (take (i + 1) files)
declared_so_far own files i file old new within here is so_far =
    is ∙ ((λ j. so_far j || declares own (here j)) ∙ sym (list_any_more (declares own) files i file within))
