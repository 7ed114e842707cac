-- The classes of modules that load each other in a ring, as a list in order.
use Rattle.std.proofs.Common.{◌≡◌, inl, inr, ℕ, ◌+◌, ◌<◌, ◌≤◌, List, [], ◌∷◌, length, map, get_or, All, AllPairs, Contains, sym, ap, ◌∙◌, subst, arith, codes}
use Rattle.std.specs.Prelude.{slice_index_or}
use Rattle.std.specs.List.{range_with_len}
use Rattle.std.specs.List.Sorted.{IsStrictlyIncreasing}
use Rattle.std.specs.Ordering.{nat_cmp}
use Rattle.std.specs.Cmp.Lexicographic.{slice_cmp}
use Rattle.std.specs.declared.cmp.Ordering.TheVariants.{Less, Equal}
use Rattle.std.proofs.lemmas.Bool.{cases_eq, cases_lt}
use Rattle.std.proofs.lemmas.Bool.Decides.{nat_tests}
use Rattle.std.proofs.lemmas.Cmp.{nat_list_cmp_total, tied_itself}
use Rattle.std.proofs.lemmas.List.{get_or-map, length-map}
use Rattle.std.proofs.lemmas.List.Elements.{Contains-get_or}
use Rattle.graph_law.specs.Graph.{Calls}
use Rattle.graph_law.specs.Classes.{HasMember, IsClass, IsRecursive, group_at, least_member}
use Rattle.graph_law.specs.LegalOrder.{IsComplete, IsLegalOrder}
use Rattle.graph_law.proofs.ClassLaws.{least_is_member}
use Rattle.graph_law.proofs.Unique.{class_unique}
use Rattle.list_laws.proofs.OneOrder.{holds_of, range_has}
use Rattle.laws.proofs.Choices.{Decided, in_or_out}
use Rattle.import_rules.proofs.Lists.{all_by}
use Rattle.laws.proofs.Orders.{HasOnce, has_once}
use Rattle.loop_report.specs.ImportLoops.{names_at}
use Rattle.loop_report.specs.ModuleGraph.{AreRings, IsRing}
use Rattle.loop_report.proofs.RingLemmas.{IsLooping, members_nodes}
use Rattle.laws.proofs.Decisions.{Chosen, alone_or, both_or, chosen_of, either_or, not_or, upto_or}
use Rattle.import_rules.proofs.NameOrder.{same_text}

-- a class is a ring or not

recursive_or : (lists : List (List ℕ)) (class : List ℕ) → Decided (IsRecursive (Calls lists) class)
recursive_or lists class =
    let least : ℕ = least_member class in
    either_or (upto_or 2 (length class)) (both_or (cases_eq (length class) 1) (in_or_out (slice_index_or lists least []) least))

looping_or : (modules lists : List (List ℕ)) (class : List ℕ) → Decided (IsLooping modules lists class)
looping_or modules lists class = both_or (recursive_or lists class) (not_or (alone_or (names_at modules class) (codes "user")))

-- classes that ascend as lists ascend by their least members

first_upto : (a b : List ℕ) → 0 < length a → 0 < length b → slice_cmp nat_cmp a b ≡ Less → least_member a ≤ least_member b
first_upto [] b some others less = absurd (omega (arith, some))
first_upto (x ∷ xs) [] some others less = absurd (omega (arith, others))
first_upto (x ∷ xs) (y ∷ ys) some others less = grind (arith, nat_tests)

first_below : (calls : ℕ → ℕ → Type 0) (a b : List ℕ) → IsClass calls a → IsClass calls b → slice_cmp nat_cmp a b ≡ Less → least_member a < least_member b
first_below calls a b is also less =
    let low : least_member a ≤ least_member b = first_upto a b is.inhabited also.inhabited less in
    let differ : (least_member a ≡ least_member b) → ⊥ = λ tie.
    let same : a ≡ b = class_unique is also (least_member a) (least_is_member is) (subst (Contains b) (sym tie) (least_is_member also)) in
    let both : Less ≡ Equal = sym less ∙ (ap (slice_cmp nat_cmp a) (sym same) ∙ tied_itself nat_list_cmp_total a) in
    cc in
    elim (cases_lt (least_member a) (least_member b)) [
      | inl lt ↦ lt
      | inr ge ↦ absurd (differ (omega (arith, low, ge)))
    ]

leasts_rise : (calls : ℕ → ℕ → Type 0) (classes : List (List ℕ)) → AllPairs (λ a b. slice_cmp nat_cmp a b ≡ Less) classes → All (IsClass calls) classes
    → IsStrictlyIncreasing (map least_member classes)
leasts_rise calls classes up each k within =
    let inside : k + 1 < length classes = omega (arith, within, length-map classes least_member) in
    let before : k < length classes = omega (arith, inside) in
    let a : List ℕ = get_or classes k [] in
    let b : List ℕ = get_or classes (k + 1) [] in
    let first : get_or (map least_member classes) k 0 ≡ least_member a = get_or-map least_member classes k [] 0 before in
    let second : get_or (map least_member classes) (k + 1) 0 ≡ least_member b = get_or-map least_member classes (k + 1) [] 0 inside in
    let less : slice_cmp nat_cmp a b ≡ Less = up k (k + 1) [] (omega arith) inside in
    let below : least_member a < least_member b = first_below calls a b (each k [] before) (each (k + 1) [] inside) less in
    omega (arith, first, second, below)

-- of a legal order of all modules the rings
pub rings_of : (modules lists groups : List (List ℕ)) → length modules ≡ length lists → IsLegalOrder (Calls lists) groups
    → IsComplete (range_with_len 0 (length lists)) groups → ((p : ℕ) → HasMember groups p → p < length lists)
    → (classes : List (List ℕ)) × AreRings modules lists classes
rings_of modules lists groups many legal complete nodes =
    let kept : Chosen (IsLooping modules lists) groups = chosen_of (IsLooping modules lists) (looping_or modules lists) groups in
    let ordered : HasOnce (slice_cmp nat_cmp) nat_list_cmp_total kept.list = has_once (slice_cmp nat_cmp) nat_list_cmp_total same_text kept.list in
    let from : (class : List ℕ) → Contains ordered.once class → Contains groups class × IsLooping modules lists class =
    λ class has. (kept.are class).0 ((ordered.each class).0 has) in
    let class_of : (class : List ℕ) → Contains ordered.once class → IsClass (Calls lists) class =
    λ class has. holds_of (IsClass (Calls lists)) groups class legal.each (from class has).0 in
    let ring : (class : List ℕ) → Contains ordered.once class → IsRing modules lists class = λ class has.
    let here : Contains groups class × IsLooping modules lists class = from class has in
    record {
      within = λ k d lt. omega (arith, members_nodes (length lists) groups nodes class here.0 k d lt, many);
      is_class = class_of class has;
      recursive = here.1.0;
      not_user = here.1.1;
    } in (
      ordered.once,
      record {
        each = all_by (IsRing modules lists) ordered.once ring;
        all = λ class is.
            let p : ℕ = least_member class in
            let below : p < length lists = omega (arith, is.within 0 0 is.is_class.inhabited, many) in
            let has : HasMember groups p = holds_of (HasMember groups) (range_with_len 0 (length lists)) p complete (range_has (length lists) p below) in
            let same : group_at groups has.place ≡ class =
            class_unique (legal.each has.place [] has.within) is.is_class p has.member (least_is_member is.is_class) in
            let there : Contains groups class = subst (Contains groups) same (Contains-get_or groups has.place [] has.within) in
            (ordered.each class).1 ((kept.are class).1 (there, (is.recursive, is.not_user)));
        in_order = leasts_rise (Calls lists) ordered.once ordered.rising (all_by (IsClass (Calls lists)) ordered.once class_of);
      },
    )
