-- There is one list of import faults at most.
use Rattle.std.proofs.Common.{◌≡◌, ℕ, ◌≤◌, List, [], ◌∷◌, ◌++◌, All, Contains, IsPermutation, map, sum_by, cond, get_or, refl, sym, ap, ◌∙◌, subst, arith}
use Rattle.std.specs.Cmp.{IsTotalOrder}
use Rattle.std.specs.Cmp.Lexicographic.{slice_cmp}
use Rattle.std.specs.List.{AllZip, filter_map, flat_map}
use Rattle.std.specs.List.Sorted.{IsSorted}
use Rattle.std.specs.Ordering.{nat_cmp, is_eq, ordering_reverse, ordering_then}
use Rattle.std.specs.declared.cmp.Ordering.{Ordering}
use Rattle.std.specs.declared.cmp.Ordering.TheVariants.{Less, Equal, Greater}
use Rattle.std.proofs.lemmas.Cmp.{ranked, tied_itself}
use Rattle.std.proofs.lemmas.List.Elements.{All-contains, All-head, All-tail}
use Rattle.std.proofs.lemmas.List.Sorted.{ranks_by, sorted_far, sum_by-IsPermutation}
use Rattle.std.proofs.lemmas.List.Sums.{sum_by-cons}
use Rattle.std.proofs.lemmas.Map.Lookups.{exact_bytes}
use Rattle.list_laws.proofs.OneOrder.{less_strict, same_order}
use Rattle.prolog_tokens.specs.Places.{IsPlace}
use Rattle.prolog_tokens.proofs.PlaceSteps.{place_once}
use Rattle.clause_text.specs.Cause.{number_of}
use Rattle.clause_text.proofs.CauseNumbers.{one_number}
use Rattle.module_table.specs.Facts.{Facts}
use Rattle.file_library.specs.Asked.{AreInOrder}
use Rattle.file_library.specs.Loaded.{LoadedFiles, NamedText, WasLoaded}
use Rattle.file_library.specs.declared.fault.Fault.{Fault}
use Rattle.import_rules.specs.declared.names.PredName.{PredName}
use Rattle.import_rules.specs.Clashes.{AreClashes, Imports, clash}
use Rattle.import_rules.specs.Flaws.{AreFlaws, AreImportFaults, Flaw, IsFaultOf, clash_flaw, file_flaws, flaw_cmp}
use Rattle.import_rules.specs.Names.{pred_cmp}
use Rattle.import_rules.proofs.Lists.{map_from}
use Rattle.import_rules.proofs.NameOrder.{pred_cmp_total}
use Rattle.import_rules.proofs.FlawSpots.{flaw_cmp_total, one_text}
use Rattle.import_rules.proofs.Runs.{comes_before, less_on, sorted_rest}

-- lists in one order, of which each has as many of each element as the other

module _ {X : Type 0} (cmp : X → X → Ordering) (o : IsTotalOrder cmp) where
  -- one for an element that ties with k
  abbrev hit : X → X → ℕ
  hit k x = cond (is_eq (cmp k x)) 1 0

  abbrev hits : X → List X → ℕ
  hits k xs = sum_by (hit k) xs

  no_hits : (k : X) (xs : List X) → All (λ x. cmp k x ≡ Less) xs → hits k xs ≡ 0
  no_hits k [] less = refl
  no_hits k (x ∷ xs) less =
      let none : hit k x ≡ 0 = ap (λ r. cond (is_eq r) 1 0) (All-head (λ y. cmp k y ≡ Less) x xs less) in
      let rest : hits k xs ≡ 0 = no_hits k xs (All-tail (λ y. cmp k y ≡ Less) x xs less) in
      omega (arith, sum_by-cons (hit k) x xs, none, rest)

  own_hit : (x : X) (xs : List X) → 1 ≤ hits x (x ∷ xs)
  own_hit x xs =
      let one : hit x x ≡ 1 = ap (λ r. cond (is_eq r) 1 0) (tied_itself o x) in
      omega (arith, sum_by-cons (hit x) x xs, one)

  -- an element that is less than the first one isn't there
  missing : (x y : X) (ys : List X) → IsSorted cmp (y ∷ ys) → cmp x y ≡ Less → hits x (y ∷ ys) ≡ 0
  missing x y ys up less =
      no_hits x (y ∷ ys) (λ k d within.
      less_on cmp o (λ z. z) x y (get_or (y ∷ ys) k d) less (sorted_far (comes_before cmp (λ z. z)) (ranks_by o (λ z. z)) (y ∷ ys) up 0 k d (omega arith) within))

  same_hits : (xs ys : List X) → ((a b : X) → cmp a b ≡ Equal → a ≡ b) → IsSorted cmp xs → IsSorted cmp ys → ((k : X) → hits k xs ≡ hits k ys) → xs ≡ ys
  same_hits [] [] exact up vp same = refl
  same_hits [] (y ∷ ys) exact up vp same = let no : ⊥ = omega (arith, same y, own_hit y ys) in absurd no
  same_hits (x ∷ xs) [] exact up vp same = let no : ⊥ = omega (arith, same x, own_hit x xs) in absurd no
  same_hits (x ∷ xs) (y ∷ ys) exact up vp same = at (cmp x y) refl
      (λ is. same_hits xs ys exact (sorted_rest cmp o (λ z. z) (x ∷ []) xs up) (sorted_rest cmp o (λ z. z) (y ∷ []) ys vp)
      (λ k. omega (arith, same k, sum_by-cons (hit k) x xs, sum_by-cons (hit k) y ys, ap (hit k) is)))
    where
      at : (r : Ordering) → cmp x y ≡ r → (x ≡ y → xs ≡ ys) → (x ∷ xs) ≡ (y ∷ ys)
      at Less is rest = let no : ⊥ = omega (arith, same x, own_hit x xs, missing x y ys vp is) in absurd no
      at Equal is rest = let first : x ≡ y = exact x y is in λ i. first i ∷ rest first i
      at Greater is rest =
          let less : cmp y x ≡ Less = o.antisymm y x ∙ ap ordering_reverse is in
          let no : ⊥ = omega (arith, same y, own_hit y ys, missing y x xs up less) in absurd no

  -- a list in order is the only one of its elements
  pub one_sorted : ((a b : X) → cmp a b ≡ Equal → a ≡ b) → (zs xs ys : List X) → IsPermutation zs xs → IsPermutation zs ys → IsSorted cmp xs → IsSorted cmp ys → xs ≡ ys
  one_sorted exact zs xs ys to_xs to_ys up vp =
      same_hits xs ys exact up vp (λ k. sum_by-IsPermutation (hit k) zs xs to_xs ∙ sym (sum_by-IsPermutation (hit k) zs ys to_ys))

-- the items leave one list of clashes
pub one_clash_list : (all clashes others : List Imports) → AreClashes all clashes → AreClashes all others → clashes ≡ others
one_clash_list all clashes others are second =
    let one : are.predicates ≡ second.predicates =
    same_order (λ p q. pred_cmp p q ≡ Less) (less_strict pred_cmp pred_cmp_total) are.predicates second.predicates are.in_order second.in_order (there clashes others are second)
    (there others clashes second are) in
    are.are ∙ (ap (filter_map (clash all)) one ∙ sym second.are)
  where
    there : (xs ys : List Imports) (some : AreClashes all xs) (more : AreClashes all ys) → (p : PredName) → Contains some.predicates p → Contains more.predicates p
    there xs ys some more p has =
        let from = map_from (λ (i : Imports). i.into) all p (All-contains (Contains (map (λ (i : Imports). i.into) all)) some.predicates p some.each has) in
        subst (Contains more.predicates) from.2 (All-contains (λ (i : Imports). Contains more.predicates i.into) all from.0 more.all from.1)

-- what ties in the order of flaws is one flaw
pub one_flaw : (a b : Flaw) → flaw_cmp a b ≡ Equal → a ≡ b
one_flaw a b tie = at (slice_cmp nat_cmp a.file b.file) (nat_cmp a.offset b.offset) (nat_cmp (number_of a.cause) (number_of b.cause)) refl refl refl tie
  where
    at : (files offsets causes : Ordering) → slice_cmp nat_cmp a.file b.file ≡ files → offsets ≡ nat_cmp a.offset b.offset → causes ≡ nat_cmp (number_of a.cause) (number_of b.cause)
        → ordering_then files (ordering_then offsets causes) ≡ Equal → a ≡ b
    at Less offsets causes f o c tie = cc
    at Greater offsets causes f o c tie = cc
    at Equal Less causes f o c tie = cc
    at Equal Greater causes f o c tie = cc
    at Equal Equal Less f o c tie = cc
    at Equal Equal Greater f o c tie = cc
    at Equal Equal Equal f o c tie =
        let file : a.file ≡ b.file = exact_bytes a.file b.file f in
        let offset : a.offset ≡ b.offset = ranked a.offset b.offset Equal o in
        let number : number_of a.cause ≡ number_of b.cause = ranked (number_of a.cause) (number_of b.cause) Equal c in
        let cause : a.cause ≡ b.cause = one_number a.cause b.cause number in
        λ i. record { file = file i; offset = offset i; cause = cause i }

-- the files leave one list of import faults
pub one_list_of_flaws : (files : List Facts) (absent : List (List ℕ)) (flaws others : List Flaw) → AreFlaws files absent flaws → AreFlaws files absent others → flaws ≡ others
one_list_of_flaws files absent flaws others are second =
    let one = one_clash_list _ are.clashes second.clashes are.are_clashes second.are_clashes in
    one_sorted flaw_cmp flaw_cmp_total one_flaw (flat_map (file_flaws files absent) files ++ map clash_flaw are.clashes) flaws others are.all
    (subst (λ clashes. IsPermutation (flat_map (file_flaws files absent) files ++ map clash_flaw clashes) others) (sym one) second.all) are.in_order second.in_order

-- what is wrong in a text has one fault
same_fault : (texts : List NamedText) (flaw : Flaw) (a b : Fault) → AreInOrder (map (λ (text : NamedText). text.0) texts) → IsFaultOf texts flaw a → IsFaultOf texts flaw b → a ≡ b
same_fault texts flaw a b ordered is also =
    let text : is.text ≡ also.text = one_text texts flaw.file is.text also.text ordered is.there also.there in
    let place : a.place ≡ b.place = place_once also.text flaw.offset a.place b.place (subst (λ t. IsPlace t flaw.offset a.place) text is.stands) also.stands in
    let file : a.file ≡ b.file = is.file ∙ sym also.file in
    let offset : a.offset ≡ b.offset = is.offset ∙ sym also.offset in
    let cause : a.cause ≡ b.cause = is.cause ∙ sym also.cause in
    λ i. record { file = file i; offset = offset i; place = place i; cause = cause i }

same_faults : (texts : List NamedText) (flaws : List Flaw) (faults others : List Fault) → AreInOrder (map (λ (text : NamedText). text.0) texts) → AllZip (IsFaultOf texts) flaws faults
    → AllZip (IsFaultOf texts) flaws others → faults ≡ others
same_faults texts [] [] [] ordered are also = refl
same_faults texts [] (fault ∷ faults) others ordered are also = absurd are
same_faults texts [] [] (other ∷ others) ordered are also = absurd also
same_faults texts (flaw ∷ flaws) [] others ordered are also = absurd are
same_faults texts (flaw ∷ flaws) (fault ∷ faults) [] ordered are also = absurd also
same_faults texts (flaw ∷ flaws) (fault ∷ faults) (other ∷ others) ordered are also =
    λ i. same_fault texts flaw fault other ordered are.0 also.0 i ∷ same_faults texts flaws faults others ordered are.1 also.1 i

-- what was loaded has one list of import faults, with their places
pub one_list_of_import_faults : (loaded : LoadedFiles) (faults others : List Fault) → WasLoaded loaded → AreImportFaults loaded faults → AreImportFaults loaded others → faults ≡ others
one_list_of_import_faults loaded faults others was are also =
    let one : also.flaws ≡ are.flaws = one_list_of_flaws loaded.files loaded.absent also.flaws are.flaws also.are are.are in
    same_faults loaded.texts are.flaws faults others was.is.ordered are.placed (subst (λ flaws. AllZip (IsFaultOf loaded.texts) flaws others) one also.placed)
