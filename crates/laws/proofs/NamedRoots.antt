-- The roots that a list names, or its first name that is missing.
use Rattle.std.proofs.Common.{◌≡◌, ◌⊎◌, inl, inr, ◌↔◌, ℕ, ◌+◌, ◌<◌, Bool, true, false, List, [], ◌∷◌, Option, Some, None, All, Contains, length, refl, sym, ap, subst, ◌∙◌, arith}
use Rattle.std.specs.List.{AllZip, list_any}
use Rattle.std.specs.Prelude.{slice_index}
use Rattle.std.specs.List.Sorted.{IsStrictlyIncreasing}
use Rattle.std.specs.Ordering.{nat_cmp}
use Rattle.std.specs.declared.cmp.Ordering.TheVariants.{Less, Equal}
use Rattle.std.proofs.lemmas.Cmp.{ranked, nat_cmp_total}
use Rattle.std.proofs.lemmas.List.Elements.{All-nil, All-cons, All-head, All-tail}
use Rattle.import_rules.specs.declared.names.PredName.{PredName}
use Rattle.import_rules.specs.Names.{is_same}
use Rattle.import_rules.specs.Program.{Seen}
use Rattle.import_rules.proofs.Lists.{all_by, any_there, any_from}
use Rattle.import_rules.proofs.NameOrder.{same_parts, same_itself}
use Rattle.call_edges.specs.Roots.{IsRoot}
use Rattle.laws.proofs.Orders.{HasOnce, has_once}
use Rattle.tool_run.specs.Roots.{IsNamed, IsRootBy, IsFirstMissing, LacksRoot, HasRoots, AreRootNumbers}
use Rattle.tool_run.proofs.RootLemmas.{AreRising, stands, listed_are, named_below}

-- a name is that of a predicate, or not
there_or_not : (predicates : List PredName) (name : PredName) → Contains predicates name ⊎ (Contains predicates name → ⊥)
there_or_not predicates name = at (list_any (is_same name) predicates) refl
  where
    at : (b : Bool) → list_any (is_same name) predicates ≡ b → Contains predicates name ⊎ (Contains predicates name → ⊥)
    at true is = let one = any_from (is_same name) predicates is in inl (subst (Contains predicates) (sym (same_parts name one.0 one.2)) one.1)
    at false is = inr (λ has. let both : true ≡ false = sym (any_there (is_same name) predicates name has (same_itself name)) ∙ is in cc)

-- behind a name that is there
missing_behind : (predicates list : List PredName) (first name : PredName) → Contains predicates first → IsFirstMissing predicates list name
    → IsFirstMissing predicates (first ∷ list) name
missing_behind predicates list first name has behind = record {
  before = first ∷ behind.before;
  after = behind.after;
  is = ap (λ names. first ∷ names) behind.is;
  there = All-cons (Contains predicates) first behind.before has behind.there;
  missing = behind.missing;
}

-- all names are there, or one is the first that is missing
there_or_missing : (predicates list : List PredName) → All (Contains predicates) list ⊎ ((name : PredName) × IsFirstMissing predicates list name)
there_or_missing predicates [] = inl (All-nil (Contains predicates))
there_or_missing predicates (first ∷ list) = at (there_or_not predicates first) (there_or_missing predicates list)
  where
    at : Contains predicates first ⊎ (Contains predicates first → ⊥) → All (Contains predicates) list ⊎ ((name : PredName) × IsFirstMissing predicates list name)
        → All (Contains predicates) (first ∷ list) ⊎ ((name : PredName) × IsFirstMissing predicates (first ∷ list) name)
    at (inl has) (inl all) = inl (All-cons (Contains predicates) first list has all)
    at (inl has) (inr behind) = inr (behind.0, missing_behind predicates list first behind.0 has behind.1)
    at (inr lacks) rest = inr (first, record { before = []; after = list; is = refl; there = All-nil (Contains predicates); missing = lacks })

-- the program has the roots, or lacks one
pub has_or_lacks : (list : Option (List PredName)) (seen : Seen) → HasRoots list seen ⊎ ((root : PredName) × LacksRoot list seen root)
has_or_lacks None seen = inl tt
has_or_lacks (Some list) seen = there_or_missing seen.predicates list

-- the numbers of names that are there
numbers_of : (predicates names : List PredName) → All (Contains predicates) names → (numbers : List ℕ) × AllZip (IsNamed predicates) names numbers
numbers_of predicates [] all = ([], tt)
numbers_of predicates (name ∷ names) all =
    let at = stands predicates name (All-head (Contains predicates) name names all) in
    let rest = numbers_of predicates names (All-tail (Contains predicates) name names all) in
    (at.0 ∷ rest.0, (at.1, rest.1))

same_number : (a b : ℕ) → nat_cmp a b ≡ Equal → a ≡ b
same_number a b tie = ranked a b Equal (sym tie)

-- the roots that a list names
named_roots : (list : List PredName) (seen : Seen) → AreRising seen.predicates → All (Contains seen.predicates) list → (roots : List ℕ) × AreRootNumbers (Some list) seen roots
named_roots list seen rising has =
    let numbers = numbers_of seen.predicates list has in
    let ordered : HasOnce nat_cmp nat_cmp_total numbers.0 = has_once nat_cmp nat_cmp_total same_number numbers.0 in
    let are = listed_are seen.predicates list numbers.0 rising numbers.1 in (
      ordered.once,
      record {
        ascending = λ k within. ranked (slice_index ordered.once k) (slice_index ordered.once (k + 1)) Less (sym (ordered.rising k (k + 1) 0 (omega arith) within));
        are = λ q. (λ once. (are q).0 ((ordered.each q).0 once), λ among. (ordered.each q).1 ((are q).1 among));
      },
    )

module _ (roots_exist : (seen : Seen) → (roots : List ℕ) × (IsStrictlyIncreasing roots × ((q : ℕ) → Contains roots q ↔ IsRoot seen q))) where
  -- the roots are a list
  pub some_roots : (list : Option (List PredName)) (seen : Seen) → AreRising seen.predicates → HasRoots list seen → (roots : List ℕ) × AreRootNumbers list seen roots
  some_roots None seen rising has = let roots = roots_exist seen in (roots.0, record { ascending = roots.1.0; are = roots.1.1 })
  some_roots (Some list) seen rising has = named_roots list seen rising has

module _ (roots_below : (seen : Seen) (q : ℕ) → IsRoot seen q → q < length seen.predicates) where
  root_below : (list : Option (List PredName)) (seen : Seen) (q : ℕ) → IsRootBy list seen q → q < length seen.predicates
  root_below None seen q root = roots_below seen q root
  root_below (Some list) seen q among = named_below seen.predicates list q among

  -- and are numbers of predicates
  pub all_below : (list : Option (List PredName)) (seen : Seen) (roots : List ℕ) → AreRootNumbers list seen roots → All (λ q. q < length seen.predicates) roots
  all_below list seen roots are = all_by (λ q. q < length seen.predicates) roots (λ q has. root_below list seen q ((are.are q).0 has))
