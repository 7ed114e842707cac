-- Runs in the order of the first bytes of their names: those of one predicate stay in their order.
use Rattle.std.proofs.Common.{◌≡◌, ℕ, List, [], ◌∷◌, Bool, true, false, not, ◌&&◌, filter, cond, refl, sym, ap, ◌∙◌}
use Rattle.std.specs.Ordering.{is_lt, nat_cmp}
use Rattle.std.specs.List.Sorted.{IsStableBy, IsStableByKey, ties}
use Rattle.std.proofs.lemmas.Cmp.{nat_cmp_total, tied_itself}
use Rattle.prolog_names.specs.Names.{name_at}
use Rattle.module_table.specs.declared.defined.Defined.{Defined}
use Rattle.module_table.specs.Defined.{comes_before}
use Rattle.module_table.specs.Lead.{lead}
use Rattle.module_table.proofs.Grouping.{by_test}
use Rattle.module_table.proofs.PredicateOrder.{same_parts}
use Rattle.module_table.proofs.SortedRuns.{ties_same}

-- what passes a test that lets less through
filter_within : {X : Type 0} (p q : X → Bool) (xs : List X) → ((x : X) → p x ≡ true → q x ≡ true) → filter p (filter q xs) ≡ filter p xs
filter_within {X} p q [] less = refl
filter_within {X} p q (x ∷ xs) less =
    by_test (q x)
    (λ has. rw has (ap (λ ys. cond (p x) (x ∷ ys) ys) (filter_within p q xs less)))
    (λ lacks. rw lacks
    (by_test (p x)
    (λ both. absurd (let clash : true ≡ false = sym (less x both) ∙ lacks in cc))
    (λ fails. rw fails (filter_within p q xs less))))

-- equal numbers tie
tied_numbers : (n m : ℕ) → n ≡ m → (not (is_lt (nat_cmp n m)) && not (is_lt (nat_cmp m n))) ≡ true
tied_numbers n m same =
    (λ i. not (is_lt (nat_cmp (same i) m)) && not (is_lt (nat_cmp m (same i)))) ∙ ap (λ r. not (is_lt r) && not (is_lt r)) (tied_itself nat_cmp_total m)

-- the number by which a run is put in order first
abbrev pub lead_of : List (List ℕ) → Defined → ℕ
lead_of names run = lead (name_at names run.name)

pub stable_by_lead : (names : List (List ℕ)) (xs ys : List Defined) → IsStableByKey (lead_of names) nat_cmp xs ys → IsStableBy (comes_before names) xs ys
stable_by_lead names xs ys stable x =
    let by_key = ties (λ a b. is_lt (nat_cmp (lead_of names a) (lead_of names b))) x in
    let by_name = ties (comes_before names) x in
    let wider : (y : Defined) → by_name y ≡ true → by_key y ≡ true =
    λ y tied.
    let parts = same_parts (name_at names x.module) (name_at names x.name) x.arity (name_at names y.module) (name_at names y.name) y.arity
    (sym (ties_same names x y) ∙ tied) in
    tied_numbers (lead_of names x) (lead_of names y) (ap lead parts.1) in
    sym (filter_within by_name by_key ys wider) ∙ ap (filter by_name) (stable x) ∙ filter_within by_name by_key xs wider
