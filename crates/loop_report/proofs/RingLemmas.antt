-- The groups that are import loops, in order.
use Rattle.std.proofs.Common.{◌≡◌, ◌≢◌, ℕ, ◌+◌, ◌<◌, false, List, [], ◌∷◌, ◌++◌, length, map, get_or, All, AllPairs, Contains, IsPermutation, eqb, sym, subst, ◌∙◌, ap, inl, inr, arith, codes, Vec}
use Rattle.std.specs.declared.alloc.Global.{Global}
use Rattle.std.proofs.Math.Seq.{get_or-append_seam}
use Rattle.std.specs.List.{range_with_len}
use Rattle.std.specs.List.Sorted.{IsSorted}
use Rattle.std.specs.Ordering.{nat_cmp, is_lt}
use Rattle.std.specs.Cmp.Lexicographic.{slice_cmp}
use Rattle.std.specs.declared.cmp.Ordering.{Ordering}
use Rattle.std.proofs.lemmas.Bool.Decides.{Decides-eqb, nat_tests}
use Rattle.std.proofs.lemmas.Cmp.{nat_eq_equiv, nat_list_cmp_total, on_total}
use Rattle.std.proofs.lemmas.List.{get_or_append_left, get_or_default, get_or-map, length-append, length-map, map-append, map_push}
use Rattle.std.proofs.lemmas.List.Elements.{Contains-push, Contains-push_cases, Contains-append_left, Contains-get_or}
use Rattle.std.proofs.lemmas.List.Quantifiers.{all_pairs_push}
use Rattle.std.proofs.lemmas.List.Sorted.{IsPermutation-map, All-permutation, Contains-permutation, sorted_far, ranks_by}
use Rattle.std.proofs.lemmas.Map.Keys.{IsDistinct-IsPermutation}
use Rattle.std.proofs.lemmas.Map.Made.{AllPairs-from_IsDistinct, IsDistinct-from_AllPairs}
use Rattle.list_laws.proofs.Members.{map_has}
use Rattle.graph_law.specs.Graph.{Calls, lists_of}
use Rattle.graph_law.specs.Classes.{IsClass, IsRecursive, HasMember, group_at, least_member}
use Rattle.graph_law.specs.LegalOrder.{IsLegalOrder, IsComplete}
use Rattle.graph_law.proofs.ClassLaws.{least_is_member}
use Rattle.graph_law.proofs.Unique.{class_unique}
use Rattle.list_laws.proofs.OneOrder.{range_has, holds_of, nothing_in}
use Rattle.import_rules.proofs.PartsSoFar.{element_at}
use Rattle.loop_report.specs.ImportLoops.{names_at}
use Rattle.loop_report.specs.ModuleGraph.{IsRing, AreRings}
use Rattle.report_lines.specs.Reportable.{LeastDiffer}

-- the class loads itself, and isn't the module `user` alone
abbrev pub IsLooping : List (List ℕ) → List (List ℕ) → List ℕ → Type 0
IsLooping modules lists class = IsRecursive (Calls lists) class × (names_at modules class ≢ codes "user" ∷ [])

-- of the groups those that are kept: all of which this holds, and each once
pub record AreKept (holds : List ℕ → Type 0) (groups kept : List (List ℕ)) : Type 0 where
  pub each : (class : List ℕ) → Contains kept class → Contains groups class × holds class
  pub all : (class : List ℕ) → Contains groups class → holds class → Contains kept class
  pub apart : LeastDiffer kept

pub kept_start : (holds : List ℕ → Type 0) → AreKept holds [] []
kept_start holds = record {
  each = λ class has. absurd (nothing_in class has);
  all = λ class has. absurd (nothing_in class has);
  apart = λ i j d lt within. absurd (omega (arith, within));
}

-- one more group, which is kept
pub kept_more : (holds : List ℕ → Type 0) (groups kept : List (List ℕ)) (class : List ℕ) → holds class
    → ((other : List ℕ) → Contains groups other → least_member other ≢ least_member class) → AreKept holds groups kept
    → AreKept holds (groups ++ class ∷ []) (kept ++ class ∷ [])
kept_more holds groups kept class is differs are = record {
  each = λ other has.
      elim (Contains-push_cases kept class other has) [
        | inl before ↦ let e = are.each other before in (Contains-append_left groups (class ∷ []) other e.0, e.1)
        | inr same ↦ (subst (Contains (groups ++ class ∷ [])) same (Contains-push groups class), subst holds same is)
      ];
  all = λ other has holds_too.
      elim (Contains-push_cases groups class other has) [
        | inl before ↦ Contains-append_left kept (class ∷ []) other (are.all other before holds_too)
        | inr same ↦ subst (Contains (kept ++ class ∷ [])) same (Contains-push kept class)
      ];
  apart =
      subst (AllPairs (λ a b. a ≢ b)) (sym (map_push least_member kept class))
      (all_pairs_push (λ a b. a ≢ b) (map least_member kept) (least_member class) are.apart
      (λ k d lt.
      let inside : k < length kept = omega (arith, lt, length-map kept least_member) in
      let there : Contains kept (get_or kept k []) = Contains-get_or kept k [] inside in
      subst (λ x. x ≢ least_member class) (sym (get_or-map least_member kept k [] d inside)) (differs (get_or kept k []) (are.each (get_or kept k []) there).0)));
}

-- one more group, which isn't
pub kept_skip : (holds : List ℕ → Type 0) (groups kept : List (List ℕ)) (class : List ℕ) → (holds class → ⊥) → AreKept holds groups kept
    → AreKept holds (groups ++ class ∷ []) kept
kept_skip holds groups kept class not are = record {
  each = λ other has. let e = are.each other has in (Contains-append_left groups (class ∷ []) other e.0, e.1);
  all = λ other has holds_too.
      elim (Contains-push_cases groups class other has) [
        | inl before ↦ are.all other before holds_too
        | inr same ↦ absurd (not (subst holds (sym same) holds_too))
      ];
  apart = are.apart;
}

-- by the order of their numbers, the first that differ decide
below_by_first : (a b : List ℕ) → 0 < length a → 0 < length b → is_lt (slice_cmp nat_cmp b a) ≡ false → least_member a ≢ least_member b
    → least_member a < least_member b
below_by_first [] b some others not_below differ = absurd (omega (arith, some))
below_by_first (x ∷ xs) [] some others not_below differ = absurd (omega (arith, others))
below_by_first (x ∷ xs) (y ∷ ys) some others not_below differ = grind (arith, nat_tests)

abbrev vec_cmp : Vec ℕ Global → Vec ℕ Global → Ordering
vec_cmp a b = slice_cmp nat_cmp a.items b.items

-- lists in order whose first numbers differ are in order of them
leasts_rise : (sorted : List (Vec ℕ Global)) → IsSorted vec_cmp sorted → All (λ class. 0 < length class) (lists_of sorted)
    → LeastDiffer (lists_of sorted) → (k : ℕ) → k + 1 < length (map least_member (lists_of sorted))
    → get_or (map least_member (lists_of sorted)) k 0 < get_or (map least_member (lists_of sorted)) (k + 1) 0
leasts_rise sorted up some apart k within =
    let lists = lists_of sorted in
    let long = length-map sorted (λ (v : Vec ℕ Global). v.items) in
    let inside : k + 1 < length sorted = omega (arith, within, long, length-map lists least_member) in
    let d = (element_at sorted k (omega (arith, inside))).0 in
    let a = get_or sorted k d in
    let b = get_or sorted (k + 1) d in
    let at : get_or lists k [] ≡ a.items = get_or-map (λ (v : Vec ℕ Global). v.items) sorted k d [] (omega (arith, inside)) in
    let next : get_or lists (k + 1) [] ≡ b.items = get_or-map (λ (v : Vec ℕ Global). v.items) sorted (k + 1) d [] inside in
    let not_below : is_lt (vec_cmp b a) ≡ false =
    sorted_far (λ x y. is_lt (vec_cmp x y)) (ranks_by (on_total (λ (v : Vec ℕ Global). v.items) nat_list_cmp_total) (λ (v : Vec ℕ Global). v)) sorted up k (k + 1) d
    (omega arith) inside in
    let least_at : get_or (map least_member lists) k 0 ≡ least_member a.items =
    get_or-map least_member lists k [] 0 (omega (arith, inside, long)) ∙ ap least_member at in
    let least_next : get_or (map least_member lists) (k + 1) 0 ≡ least_member b.items =
    get_or-map least_member lists (k + 1) [] 0 (omega (arith, inside, long)) ∙ ap least_member next in
    let differ : least_member a.items ≢ least_member b.items = λ e. apart k (k + 1) 0 (omega arith) within (least_at ∙ (e ∙ sym least_next)) in
    let a_some : 0 < length a.items = subst (λ x. 0 < length x) at (some k [] (omega (arith, inside, long))) in
    let b_some : 0 < length b.items = subst (λ x. 0 < length x) next (some (k + 1) [] (omega (arith, inside, long))) in
    let below = below_by_first a.items b.items a_some b_some not_below differ in
    omega (arith, least_at, least_next, below)

-- lists whose first numbers differ, in another order
apart_moved : (xs ys : List (List ℕ)) → IsPermutation xs ys → LeastDiffer xs → LeastDiffer ys
apart_moved xs ys moved apart =
    AllPairs-from_IsDistinct Decides-eqb (map least_member ys)
    (IsDistinct-IsPermutation eqb nat_eq_equiv.symm (map least_member xs) (map least_member ys) (IsPermutation-map least_member xs ys moved)
    (IsDistinct-from_AllPairs Decides-eqb (map least_member xs) apart))

-- the next group differs from those before it
pub next_differs : (before rest : List (Vec ℕ Global)) (next : Vec ℕ Global) → LeastDiffer (lists_of (before ++ next ∷ rest))
    → (other : List ℕ) → Contains (lists_of before) other → least_member other ≢ least_member next.items
next_differs before rest next apart other has same =
    let items = λ (v : Vec ℕ Global). v.items in
    let lists = lists_of before in
    let leasts = map least_member lists in
    let behind = map least_member (lists_of rest) in
    let split : map least_member (lists_of (before ++ next ∷ rest)) ≡ leasts ++ least_member next.items ∷ behind =
    ap (map least_member) (map-append items before (next ∷ rest)) ∙ map-append least_member lists (lists_of (next ∷ rest)) in
    let there : has.0 < length leasts = omega (arith, has.1, length-map lists least_member) in
    let first : get_or (leasts ++ least_member next.items ∷ behind) has.0 0 ≡ least_member other =
    get_or_append_left leasts (least_member next.items ∷ behind) 0 has.0 there
    ∙ (get_or-map least_member lists has.0 other 0 has.1 ∙ ap least_member has.2) in
    let second : get_or (leasts ++ least_member next.items ∷ behind) (length leasts) 0 ≡ least_member next.items = get_or-append_seam leasts (least_member next.items) behind 0 in
    let differ : AllPairs (λ a b. a ≢ b) (leasts ++ least_member next.items ∷ behind) = subst (AllPairs (λ a b. a ≢ b)) split apart in
    differ has.0 (length leasts) 0 there (omega (arith, length-append leasts (least_member next.items ∷ behind)))
    (first ∙ (same ∙ sym second))

-- the members of groups are nodes
pub members_nodes : (count : ℕ) (groups : List (List ℕ)) → ((p : ℕ) → HasMember groups p → p < count) → (class : List ℕ) → Contains groups class
    → All (λ member. member < count) class
members_nodes count groups nodes class has k d lt =
    let at : group_at groups has.0 ≡ class = get_or_default groups has.0 [] class has.1 ∙ has.2 in
    let member : Contains (group_at groups has.0) (get_or class k d) = subst (λ xs. Contains xs (get_or class k d)) (sym at) (Contains-get_or class k d lt) in
    nodes (get_or class k d) (record { place = has.0; within = has.1; member = member })

-- the next group is one of all
pub next_there : (before rest all : List (Vec ℕ Global)) (next : Vec ℕ Global) → before ++ next ∷ rest ≡ all → Contains (lists_of all) next.items
next_there before rest all next is =
    let has : Contains (before ++ next ∷ rest) next =
    (length before, omega (arith, length-append before (next ∷ rest)), get_or-append_seam before next rest next) in
    map_has (λ (v : Vec ℕ Global). v.items) all next (subst (λ vecs. Contains vecs next) is has)

pub rings_done : (modules lists groups : List (List ℕ)) (roots : List ℕ) (kept sorted : List (Vec ℕ Global)) → length modules ≡ length lists
    → roots ≡ range_with_len 0 (length lists) → IsLegalOrder (Calls lists) groups → IsComplete roots groups
    → ((p : ℕ) → HasMember groups p → p < length lists) → AreKept (IsLooping modules lists) groups (lists_of kept)
    → IsPermutation kept sorted → IsSorted vec_cmp sorted → AreRings modules lists (lists_of sorted)
rings_done modules lists groups roots kept sorted many all_roots legal complete nodes are moved up =
    let items = λ (v : Vec ℕ Global). v.items in
    let moved_lists : IsPermutation (lists_of kept) (lists_of sorted) = IsPermutation-map items kept sorted moved in
    let class_of : (class : List ℕ) → Contains groups class → IsClass (Calls lists) class = λ class has. holds_of (IsClass (Calls lists)) groups class legal.each has in
    let ring : (class : List ℕ) → Contains (lists_of kept) class → IsRing modules lists class = λ class has.
    let e = are.each class has in
    record {
      within = λ k d lt. omega (arith, members_nodes (length lists) groups nodes class e.0 k d lt, many);
      is_class = class_of class e.0;
      recursive = e.1.0;
      not_user = e.1.1;
    } in
    let each_ring : All (IsRing modules lists) (lists_of sorted) =
    All-permutation (IsRing modules lists) (lists_of kept) (lists_of sorted) moved_lists
    (λ k d lt. ring (get_or (lists_of kept) k d) (Contains-get_or (lists_of kept) k d lt)) in
    record {
      each = each_ring;
      all = λ class is.
          let p : ℕ = least_member class in
          let below : p < length lists = omega (arith, is.within 0 0 is.is_class.inhabited, many) in
          let has : HasMember groups p =
          holds_of (HasMember groups) roots p complete (subst (λ xs. Contains xs p) (sym all_roots) (range_has (length lists) p below)) in
          let same : group_at groups has.place ≡ class =
          class_unique (legal.each has.place [] has.within) is.is_class p has.member (least_is_member is.is_class) in
          let there : Contains groups class = subst (Contains groups) same (Contains-get_or groups has.place [] has.within) in
          Contains-permutation (lists_of kept) (lists_of sorted) class moved_lists (are.all class there (is.recursive, is.not_user));
      in_order = leasts_rise sorted up (λ k d lt. (each_ring k d lt).is_class.inhabited) (apart_moved (lists_of kept) (lists_of sorted) moved_lists are.apart);
    }
