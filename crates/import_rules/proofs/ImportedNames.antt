-- What runs of items give: one item for each name, and the names that are imported from two modules.
use Rattle.std.proofs.Common.{◌≡◌, ℕ, ◌+◌, ◌-◌, ◌<◌, Bool, true, not, List, [], ◌∷◌, ◌++◌, Option, Some, All, Contains, IsPermutation, length, map, filter, get_or, option_map, option_to_list, refl, sym, ap, ◌∙◌, subst}
use Rattle.std.specs.Borrow.{Bor}
use Rattle.std.specs.Str.{bytes_eq}
use Rattle.std.specs.List.{filter_map, find, IsChunkByPrefix}
use Rattle.std.specs.List.Sorted.{IsStableBy, IsSortedBy, ties}
use Rattle.std.specs.declared.cmp.Ordering.TheVariants.{Less}
use Rattle.std.proofs.lemmas.List.Elements.{All-map, All-weaker, filter_agree}
use Rattle.std.proofs.lemmas.List.Sorted.{All-permutation, Contains-permutation, IsPermutation-sym}
use Rattle.std.proofs.lemmas.List.{map-append}
use Rattle.module_table.specs.Kinds.{first_of}
use Rattle.import_rules.specs.declared.item.Item.{Item}
use Rattle.import_rules.specs.declared.names.PredName.{PredName}
use Rattle.import_rules.specs.Names.{pred_cmp, is_same}
use Rattle.import_rules.specs.Clashes.{Imports, see_item, items_for, first_other, from_another, clash, AreClashes, AreFirsts}
use Rattle.import_rules.proofs.Lists.{filter-map, first-map, first-filter, filter_map-map, filter_map_agrees, filter_map_push, all_pairs_map, map_has}
use Rattle.import_rules.proofs.NameOrder.{pred_cmp_total, same_ties, same_parts, tied_is_same}
use Rattle.import_rules.proofs.Runs.{comes_before, same, AreRuns, IsCut, cut_more, heads_there}

-- the name that an item gives
abbrev pub into : Item → PredName
into item = (see_item item).into

-- the first item of each run, and the first from a second module
abbrev pub firsts_in : List (List Item) → List Imports
firsts_in runs = filter_map (λ run. first_of (map see_item run)) runs

abbrev pub clashes_in : List (List Item) → List Imports
clashes_in runs = filter_map (λ run. first_other (map see_item run)) runs

module _ (items sorted : List Item) (runs : List (List Item)) (moved : IsPermutation items sorted) (are : AreRuns pred_cmp pred_cmp_total into sorted runs) where
  has_head : All (λ (x : Item). (h : Item) × Contains are.heads h × (into h ≡ into x)) items
  has_head =
      All-permutation (λ (x : Item). (h : Item) × Contains are.heads h × (into h ≡ into x)) sorted items (IsPermutation-sym items sorted moved)
      (All-weaker (λ (x : Item). (h : Item) × Contains are.heads h × (same pred_cmp pred_cmp_total into h x ≡ true)) (λ (x : Item). (h : Item) × Contains are.heads h × (into h ≡ into x))
      (λ x at. (at.0, at.1, same_parts (into at.0) (into x) (same_ties (into at.0) (into x) ∙ at.2))) sorted are.all)

  heads_in : All (Contains items) are.heads
  heads_in =
      All-weaker (Contains sorted) (Contains items) (λ h has. Contains-permutation sorted items h (IsPermutation-sym items sorted moved) has) are.heads
      (heads_there pred_cmp pred_cmp_total into sorted runs are)

  -- the items for the name of a head are its run
  run_for : IsStableBy (comes_before pred_cmp into) items sorted → (h : Item)
      → items_for (into h) (map see_item items) ≡ map see_item (filter (same pred_cmp pred_cmp_total into h) sorted)
  run_for stable h =
      filter-map (λ (i : Imports). is_same (into h) i.into) see_item items
      ∙ ap (map see_item)
      (filter_agree (λ x. is_same (into h) (into x)) (ties (comes_before pred_cmp into) h) (λ x. same_ties (into h) (into x) ∙ sym (tied x)) items
      ∙ (sym (stable h)
      ∙ filter_agree (ties (comes_before pred_cmp into) h) (same pred_cmp pred_cmp_total into h) tied sorted))
    where
      tied : (x : Item) → ties (comes_before pred_cmp into) h x ≡ same pred_cmp pred_cmp_total into h x
      tied x = tied_is_same pred_cmp pred_cmp_total (into h) (into x)

  pub clashes_found : IsStableBy (comes_before pred_cmp into) items sorted → (found : List Imports) → found ≡ clashes_in runs → AreClashes (map see_item items) found
  clashes_found stable found is = record {
    predicates = map into are.heads;
    in_order = all_pairs_map (λ p q. pred_cmp p q ≡ Less) into are.heads are.rising;
    each = All-map (Contains (map (λ (i : Imports). i.into) (map see_item items))) into are.heads
        (All-weaker (Contains items) (λ h. Contains (map (λ (i : Imports). i.into) (map see_item items)) (into h))
        (λ h has. map_has (λ (i : Imports). i.into) (map see_item items) (see_item h) (map_has see_item items h has)) are.heads heads_in);
    all = All-map (λ (i : Imports). Contains (map into are.heads) i.into) see_item items
        (All-weaker (λ (x : Item). (h : Item) × Contains are.heads h × (into h ≡ into x)) (λ x. Contains (map into are.heads) (into x))
        (λ x at. subst (Contains (map into are.heads)) at.2 (map_has into are.heads at.0 at.1)) items has_head);
    are =
        is
        ∙ (ap clashes_in are.are
        ∙ (filter_map-map (λ run. first_other (map see_item run)) (λ h. filter (same pred_cmp pred_cmp_total into h) sorted) are.heads
        ∙ (filter_map_agrees (λ h. first_other (map see_item (filter (same pred_cmp pred_cmp_total into h) sorted))) (λ h. clash (map see_item items) (into h))
        (λ h. ap first_other (sym (run_for stable h))) are.heads
        ∙ sym (filter_map-map (clash (map see_item items)) into are.heads))));
  }

  pub firsts_found : (found : List Imports) → found ≡ firsts_in runs → AreFirsts (map see_item items) found
  firsts_found found is = subst (AreFirsts (map see_item items)) (sym (is ∙ seen runs are.heads are.led)) (record {
    in_order = all_pairs_map (λ (i j : Imports). pred_cmp i.into j.into ≡ Less) see_item are.heads are.rising;
    each = All-map (Contains (map see_item items)) see_item are.heads
        (All-weaker (Contains items) (λ h. Contains (map see_item items) (see_item h)) (λ h has. map_has see_item items h has) are.heads heads_in);
    all = All-map (λ (i : Imports). Contains (map (λ (f : Imports). f.into) (map see_item are.heads)) i.into) see_item items
        (All-weaker (λ (x : Item). (h : Item) × Contains are.heads h × (into h ≡ into x)) (λ x. Contains (map (λ (f : Imports). f.into) (map see_item are.heads)) (into x))
        (λ x at. subst (Contains (map (λ (f : Imports). f.into) (map see_item are.heads))) at.2
        (map_has (λ (f : Imports). f.into) (map see_item are.heads) (see_item at.0) (map_has see_item are.heads at.0 at.1))) items has_head);
  })
    where
      seen : (rs : List (List Item)) (hs : List Item) → map first_of rs ≡ map (λ h. Some h) hs → firsts_in rs ≡ map see_item hs
      seen [] [] led = refl
      seen [] (h ∷ hs) led = cc
      seen (r ∷ rs) [] led = cc
      seen ([] ∷ rs) (h ∷ hs) led = cc
      seen ((x ∷ r) ∷ rs) (h ∷ hs) led =
          let same : x ≡ h = cc in
          let rest : map first_of rs ≡ map (λ k. Some k) hs = cc in
          λ i. see_item (same i) ∷ seen rs hs rest i

-- one more run

pub one_more_first : (runs : List (List Item)) (run : List Item) (old new : List Imports) → new ≡ old ++ option_to_list (first_of (map see_item run)) → old ≡ firsts_in runs
    → new ≡ firsts_in (runs ++ run ∷ [])
one_more_first runs run old new more is =
    more ∙ (ap (λ xs. xs ++ option_to_list (first_of (map see_item run))) is ∙ sym (filter_map_push (λ r. first_of (map see_item r)) runs run))

pub one_more_clash : (runs : List (List Item)) (run : List Item) (old new : List Imports) → new ≡ old ++ option_to_list (first_other (map see_item run)) → old ≡ clashes_in runs
    → new ≡ clashes_in (runs ++ run ∷ [])
one_more_clash runs run old new more is =
    more ∙ (ap (λ xs. xs ++ option_to_list (first_other (map see_item run))) is ∙ sym (filter_map_push (λ r. first_other (map see_item r)) runs run))

-- the runs that were lent
abbrev pub now_of : List (Bor (List Item)) → List (List Item)
now_of runs = map (λ run. run.now) runs

-- the first item from another module
pub other_found : (own : List ℕ) (items : List Item) → option_map see_item (find (from_another own) items) ≡ first_of (filter (λ (i : Imports). not (bytes_eq i.from_module own)) (map see_item items))
other_found own items =
    sym
    (ap first_of (filter-map (λ (i : Imports). not (bytes_eq i.from_module own)) see_item items)
    ∙ (first-map see_item (filter (from_another own) items) ∙ ap (option_map see_item) (first-filter (from_another own) items)))

-- whether two items give one name
abbrev pub alike : Item → Item → Bool
alike a b = is_same (into a) (into b)

-- the next run of items that were sorted, where the iterator lends it
pub next_run : (whole before rest : List Item) (lent : List (Bor (List Item))) (run : Bor (List Item)) → IsSortedBy (comes_before pred_cmp into) whole
    → before ≡ run.now ++ rest → 0 < length run.now → IsChunkByPrefix alike before (length run.now)
    → IsCut pred_cmp pred_cmp_total into whole (now_of lent) before → IsCut pred_cmp pred_cmp_total into whole (now_of (lent ++ run ∷ [])) rest
next_run whole before rest lent run sorted is some chunk cut =
    subst (λ runs. IsCut pred_cmp pred_cmp_total into whole runs rest) (sym (map-append (λ (r : Bor (List Item)). r.now) lent (run ∷ [])))
    (cut_more pred_cmp pred_cmp_total into whole (now_of lent) run.now rest sorted (subst (IsCut pred_cmp pred_cmp_total into whole (now_of lent)) is cut) some
    (subst (λ items. IsChunkByPrefix (same pred_cmp pred_cmp_total into) items (length run.now)) is (
      λ k d below. sym (same_ties (into (get_or before k d)) (into (get_or before (k + 1) d))) ∙ chunk.0 k d below,
      λ below d. sym (same_ties (into (get_or before (length run.now - 1) d)) (into (get_or before (length run.now) d))) ∙ chunk.1 below d,
    )))

pub next_first : (lent : List (Bor (List Item))) (run : Bor (List Item)) (old new : List Imports) → new ≡ old ++ option_to_list (first_of (map see_item run.now)) → old ≡ firsts_in (now_of lent)
    → new ≡ firsts_in (now_of (lent ++ run ∷ []))
next_first lent run old new more is =
    one_more_first (now_of lent) run.now old new more is ∙ ap firsts_in (sym (map-append (λ (r : Bor (List Item)). r.now) lent (run ∷ [])))

pub next_clash : (lent : List (Bor (List Item))) (run : Bor (List Item)) (old new : List Imports) → new ≡ old ++ option_to_list (first_other (map see_item run.now)) → old ≡ clashes_in (now_of lent)
    → new ≡ clashes_in (now_of (lent ++ run ∷ []))
next_clash lent run old new more is =
    one_more_clash (now_of lent) run.now old new more is ∙ ap clashes_in (sym (map-append (λ (r : Bor (List Item)). r.now) lent (run ∷ [])))

pub other_of_run : (run : List Item) (first : Item) (others : List Item) (found : Option Item) → run ≡ first ∷ others → found ≡ find (from_another first.from_module.now) others
    → option_to_list (option_map see_item found) ≡ option_to_list (first_other (map see_item run))
other_of_run run first others found is found_is =
    ap option_to_list (ap (option_map see_item) found_is ∙ (other_found first.from_module.now others ∙ ap (λ items. first_other (map see_item items)) (sym is)))
