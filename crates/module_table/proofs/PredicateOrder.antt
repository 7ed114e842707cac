-- The order of predicates, and lists that are in this order.
use Rattle.std.proofs.Common.{Some, arith, ◌≡◌, ℕ, List, [], ◌∷◌, ◌++◌, Bool, true, false, ◌&&◌, nat_eq, All, AllPairs, Contains, refl, sym, ap, ◌∙◌}
use Rattle.std.specs.Ordering.{is_eq, is_lt, ordering_reverse}
use Rattle.std.specs.declared.cmp.Ordering.{Ordering}
use Rattle.std.specs.declared.cmp.Ordering.TheVariants.{Less, Equal, Greater}
use Rattle.std.specs.Str.{bytes_eq}
use Rattle.std.specs.Cmp.{IsTotalOrder, both_tied, unsigned_ties}
use Rattle.std.specs.Cmp.Lexicographic.{texts_ties}
use Rattle.std.specs.List.{AllByRecursion}
use Rattle.std.specs.List.Sorted.{IsStrictlySortedBy}
use Rattle.std.proofs.lemmas.Cmp.{then_total, on_total, nat_list_cmp_total, nat_cmp_total, tied_itself}
use Rattle.std.proofs.lemmas.Bool.{and_parts}
use Rattle.std.proofs.lemmas.Bool.Decides.{Decides-eqb}
use Rattle.std.proofs.lemmas.Slice.Eq.{bytes_eq-Decides}
use Rattle.std.proofs.lemmas.List.Elements.{All-head, All-tail, All-push, All-from_recursion, recursion_from_All, All-pop}
use Rattle.std.proofs.lemmas.List.Kept.{AllPairs-cons}
use Rattle.std.proofs.lemmas.Map.Views.{All-before_last}
use Rattle.list_laws.proofs.OneOrder.{less_strict, same_order}
use Rattle.module_table.specs.Defined.{Predicate, predicate_cmp, key}

pub predicate_cmp_total : IsTotalOrder predicate_cmp
predicate_cmp_total =
    then_total (on_total (λ (p : Predicate). p.module_) nat_list_cmp_total)
    (then_total (on_total (λ (p : Predicate). p.name) nat_list_cmp_total) (on_total (λ (p : Predicate). p.arity) nat_cmp_total))

-- whether two modules, names and arities are those of one predicate
abbrev pub same : List ℕ → List ℕ → ℕ → List ℕ → List ℕ → ℕ → Bool
same owner name arity m n k = bytes_eq owner m && (bytes_eq name n && nat_eq arity k)

pub same_ties : (owner name : List ℕ) (arity : ℕ) (m n : List ℕ) (k : ℕ)
    → same owner name arity m n k ≡ is_eq (predicate_cmp (key owner name arity) (key m n k))
same_ties owner name arity m n k = both_tied _ _ _ _ (texts_ties owner m) (both_tied _ _ _ _ (texts_ties name n) (unsigned_ties arity k))

pub same_parts : (owner name : List ℕ) (arity : ℕ) (m n : List ℕ) (k : ℕ) → same owner name arity m n k ≡ true
    → (owner ≡ m) × (name ≡ n) × (arity ≡ k)
same_parts owner name arity m n k e =
    let outer = and_parts (bytes_eq owner m) (bytes_eq name n && nat_eq arity k) e in
    let both = and_parts (bytes_eq name n) (nat_eq arity k) outer.1 in
    ((bytes_eq-Decides owner m).0 outer.0, (bytes_eq-Decides name n).0 both.0, (Decides-eqb arity k).0 both.1)

pub same_itself : (owner name : List ℕ) (arity : ℕ) → same owner name arity owner name arity ≡ true
same_itself owner name arity = same_ties owner name arity owner name arity ∙ ap is_eq (tied_itself predicate_cmp_total (key owner name arity))

pub apart_from_Less : (p q : Predicate) → predicate_cmp p q ≡ Less → same p.module_ p.name p.arity q.module_ q.name q.arity ≡ false
apart_from_Less p q e = same_ties p.module_ p.name p.arity q.module_ q.name q.arity ∙ ap is_eq e

-- what isn't equal and isn't behind comes before
pub less_if_apart : (back r : Ordering) → r ≡ ordering_reverse back → is_lt back ≡ false → is_eq r ≡ false → r ≡ Less
less_if_apart Less r e up other = cc
less_if_apart Equal r e up other = let flat : is_eq r ≡ true = ap is_eq e in cc
less_if_apart Greater r e up other = e

-- of two predicates, the first of which isn't after the second
pub Less-from_apart : (p q : Predicate) → is_lt (predicate_cmp q p) ≡ false → same p.module_ p.name p.arity q.module_ q.name q.arity ≡ false → predicate_cmp p q ≡ Less
Less-from_apart p q up other =
    less_if_apart (predicate_cmp q p) (predicate_cmp p q) (predicate_cmp_total.antisymm p q) up (sym (same_ties p.module_ p.name p.arity q.module_ q.name q.arity) ∙ other)

pub sorted_push : (ps : List Predicate) (q : Predicate) → IsStrictlySortedBy predicate_cmp ps → All (λ p. predicate_cmp p q ≡ Less) ps → IsStrictlySortedBy predicate_cmp (ps ++ q ∷ [])
unfolding IsStrictlySortedBy
sorted_push [] q up below = (tt, tt)
sorted_push (p ∷ ps) q up below = (
  recursion_from_All (λ y. predicate_cmp p y ≡ Less) (ps ++ q ∷ [])
      (All-push (λ y. predicate_cmp p y ≡ Less) ps q (All-from_recursion (λ y. predicate_cmp p y ≡ Less) ps up.0) (All-head (λ x. predicate_cmp x q ≡ Less) p ps below)),
  sorted_push ps q up.1 (All-tail (λ x. predicate_cmp x q ≡ Less) p ps below),
)

pub sorted_front : (ps : List Predicate) (q : Predicate) → IsStrictlySortedBy predicate_cmp (ps ++ q ∷ []) → IsStrictlySortedBy predicate_cmp ps
unfolding IsStrictlySortedBy
sorted_front [] q up = tt
sorted_front (p ∷ ps) q up = (
  recursion_from_All (λ y. predicate_cmp p y ≡ Less) ps (front_of (All-from_recursion (λ y. predicate_cmp p y ≡ Less) (ps ++ q ∷ []) up.0)),
  sorted_front ps q up.1,
)
  where
    front_of : All (λ y. predicate_cmp p y ≡ Less) (ps ++ q ∷ []) → All (λ y. predicate_cmp p y ≡ Less) ps
    front_of all = (All-pop (λ y. predicate_cmp p y ≡ Less) (ps ++ q ∷ []) ps (Some q) refl all).0

-- what stands in front of others
pub sorted_part : (ps qs : List Predicate) → IsStrictlySortedBy predicate_cmp (ps ++ qs) → IsStrictlySortedBy predicate_cmp ps
unfolding IsStrictlySortedBy
sorted_part [] qs up = tt
sorted_part (p ∷ ps) qs up = (part ps up.0, sorted_part ps qs up.1)
  where
    part : (rs : List Predicate) → AllByRecursion (λ y. predicate_cmp p y ≡ Less) (rs ++ qs) → AllByRecursion (λ y. predicate_cmp p y ≡ Less) rs
    part [] all = tt
    part (r ∷ rs) all = (all.0, part rs all.1)

pub sorted_below : (ps : List Predicate) (q : Predicate) → IsStrictlySortedBy predicate_cmp (ps ++ q ∷ []) → All (λ p. predicate_cmp p q ≡ Less) ps
sorted_below ps q up = All-before_last predicate_cmp ps q up

pub not_itself : (p : Predicate) → predicate_cmp p p ≡ Less → ⊥
not_itself p e = let tie : predicate_cmp p p ≡ Equal = tied_itself predicate_cmp_total p in cc

in_pairs : (ps : List Predicate) → IsStrictlySortedBy predicate_cmp ps → AllPairs (λ p q. predicate_cmp p q ≡ Less) ps
unfolding IsStrictlySortedBy
in_pairs [] up = λ i j p before within. absurd (omega arith)
in_pairs (p ∷ ps) up = AllPairs-cons (λ p q. predicate_cmp p q ≡ Less) p ps (All-from_recursion (λ q. predicate_cmp p q ≡ Less) ps up.0) (in_pairs ps up.1)

-- two lists in order that have the same members are the same
pub one_sorted_list : (ps qs : List Predicate) → IsStrictlySortedBy predicate_cmp ps → IsStrictlySortedBy predicate_cmp qs
    → ((x : Predicate) → Contains ps x → Contains qs x) → ((x : Predicate) → Contains qs x → Contains ps x) → ps ≡ qs
one_sorted_list ps qs up vp to from =
    same_order (λ p q. predicate_cmp p q ≡ Less) (less_strict predicate_cmp predicate_cmp_total) ps qs (in_pairs ps up) (in_pairs qs vp) to from
