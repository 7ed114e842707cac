-- Names in order: how one is found by a binary search, and that some of them stay in order.
use Rattle.std.proofs.Common.{◌≡◌, ℕ, ◌<◌, List, [], ◌∷◌, ◌++◌, Some, Ok, Err, AllPairs, false, length, map, take, get_or, sym, ap, subst, ◌∙◌, arith}
use Rattle.std.specs.Prelude.{slice_get}
use Rattle.std.specs.List.{list_any}
use Rattle.std.specs.List.Sorted.{IsBinarySearchResult, IsSearchInRange, IsSortedBy}
use Rattle.std.specs.Ordering.{is_eq}
use Rattle.std.specs.declared.cmp.Ordering.TheVariants.{Less, Equal}
use Rattle.std.proofs.lemmas.List.{get_or-map, get_or-take, length-map, length-take-le}
use Rattle.std.proofs.lemmas.List.Quantifiers.{all_pairs_push}
use Rattle.std.proofs.lemmas.Option.{slice_get-get_or}
use Rattle.import_rules.specs.declared.item.Item.{Item}
use Rattle.import_rules.specs.declared.names.PredName.{PredName}
use Rattle.import_rules.specs.Clashes.{Imports, see_item}
use Rattle.import_rules.specs.Names.{pred_cmp, is_same}
use Rattle.import_rules.specs.Sources.{AreSources}
use Rattle.import_rules.proofs.ImportedNames.{into}
use Rattle.import_rules.proofs.Lists.{any-map, any_agrees, map_from}
use Rattle.import_rules.proofs.NameOrder.{pred_cmp_total, same_parts, same_ties}
use Rattle.import_rules.proofs.Runs.{comes_before}
use Rattle.import_rules.proofs.Searches.{searched, sorted_from_rising}

module _ {X : Type 0} (key : X → PredName) where
  rising : (xs : List X) → AllPairs (λ p q. pred_cmp p q ≡ Less) (map key xs) → AllPairs (λ a b. pred_cmp (key a) (key b) ≡ Less) xs
  rising xs up i j d lt within =
      let inside : j < length (map key xs) = omega (arith, within, length-map xs key) in
      let lower : i < length xs = omega (arith, lt, within) in
      subst (λ p. pred_cmp p (key (get_or xs j d)) ≡ Less) (get_or-map key xs i d (key d) lower)
      (subst (λ p. pred_cmp (get_or (map key xs) i (key d)) p ≡ Less) (get_or-map key xs j d (key d) within) (up i j (key d) lt inside))

  -- a name that the search doesn't find stands nowhere
  pub unordered : (wanted : PredName) (names : List PredName) (xs : List X) (n : ℕ) → names ≡ map key xs → AllPairs (λ p q. pred_cmp p q ≡ Less) names
      → IsSearchInRange (Err n) (length xs) → IsBinarySearchResult (λ x. pred_cmp (key x) wanted) xs (Err n) → list_any (is_same wanted) names ≡ false
  unordered wanted names xs n are up range search =
      ap (list_any (is_same wanted)) are
      ∙ any-map (is_same wanted) key xs
      ∙ any_agrees (λ x. is_same wanted (key x)) (λ x. is_eq (pred_cmp wanted (key x))) (λ x. same_ties wanted (key x)) xs
      ∙ sym
      (searched pred_cmp pred_cmp_total key wanted xs (Err n)
      (sorted_from_rising pred_cmp pred_cmp_total key xs (rising xs (subst (AllPairs (λ p q. pred_cmp p q ≡ Less)) are up))) range search)

  -- one that it finds stands there
  pub ordered : (wanted : PredName) (names : List PredName) (xs : List X) (n : ℕ) → names ≡ map key xs → n < length xs
      → IsBinarySearchResult (λ x. pred_cmp (key x) wanted) xs (Ok n) → slice_get names n ≡ Some wanted
  ordered wanted names [] n are within search = absurd (omega (arith, within))
  ordered wanted names (first ∷ xs) n are within search =
      let all = first ∷ xs in
      let own = key (get_or all n first) in
      let inside : n < length (map key all) = omega (arith, within, length-map all key) in
      let tie : pred_cmp own wanted ≡ Equal = search first in
      let same : own ≡ wanted = same_parts own wanted (same_ties own wanted ∙ ap is_eq tie) in
      ap (λ ps. slice_get ps n) are
      ∙ slice_get-get_or (map key all) n (key first) inside
      ∙ ap (λ p. Some p) (get_or-map key all n first (key first) within ∙ same)

-- the name of an item behind those whose names are put
pub put_in_order : (predicates : List PredName) (items : List Item) (n : ℕ) (d : Item) (names new_names : List PredName) (targets : List ℕ) (name : PredName)
    → n < length items → AllPairs (λ (i j : Imports). pred_cmp i.into j.into ≡ Less) (map see_item items)
    → name ≡ (see_item (get_or items n d)).into → new_names ≡ names ++ name ∷ []
    → AreSources predicates (map see_item (take n items)) names targets → AllPairs (λ p q. pred_cmp p q ≡ Less) names
    → AllPairs (λ p q. pred_cmp p q ≡ Less) new_names
put_in_order predicates items n d names new_names targets name within up named are sources so_far =
    subst (AllPairs (λ p q. pred_cmp p q ≡ Less)) (sym are) (all_pairs_push (λ p q. pred_cmp p q ≡ Less) names name so_far each)
  where
    each : (k : ℕ) (p : PredName) → k < length names → pred_cmp (get_or names k p) name ≡ Less
    each k p below =
        let given = sources.each k p below in
        let from = map_from see_item (take n items) given.by given.stands in
        let item = from.0 in
        let m = from.1.0 in
        let long : length (take n items) ≡ n = length-take-le n items (omega (arith, within)) in
        let lower : m < n = omega (arith, from.1.1, long) in
        let inside : n < length (map see_item items) = omega (arith, within, length-map items see_item) in
        let first : (get_or (map see_item items) m (see_item item)).into ≡ get_or names k p =
        ap (λ (i : Imports). i.into)
        (get_or-map see_item items m item (see_item item) (omega (arith, lower, within))
        ∙ ap see_item (sym (get_or-take n items m item lower) ∙ from.1.2)
        ∙ from.2)
        ∙ given.into in
        let last : (get_or (map see_item items) n (see_item item)).into ≡ name =
        ap (λ (i : Imports). i.into) (get_or-map see_item items n d (see_item item) within) ∙ sym named in
        subst (λ q. pred_cmp q name ≡ Less) first
        (subst (λ q. pred_cmp (get_or (map see_item items) m (see_item item)).into q ≡ Less) last (up m n (see_item item) lower inside))

-- items in order are sorted
pub shared_sorted : (items : List Item) → AllPairs (λ (i j : Imports). pred_cmp i.into j.into ≡ Less) (map see_item items) → IsSortedBy (comes_before pred_cmp into) items
shared_sorted items up = sorted_from_rising pred_cmp pred_cmp_total into items each
  where
    each : AllPairs (λ a b. pred_cmp (into a) (into b) ≡ Less) items
    each i j d lt within =
        let inside : j < length (map see_item items) = omega (arith, within, length-map items see_item) in
        let lower : i < length items = omega (arith, lt, within) in
        subst (λ (k : Imports). pred_cmp k.into (into (get_or items j d)) ≡ Less) (get_or-map see_item items i d (see_item d) lower)
        (subst (λ (k : Imports). pred_cmp (get_or (map see_item items) i (see_item d)).into k.into ≡ Less) (get_or-map see_item items j d (see_item d) within)
        (up i j (see_item d) lt inside))
