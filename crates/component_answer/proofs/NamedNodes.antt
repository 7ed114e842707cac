-- Nodes that are found by their names.
use Rattle.std.proofs.Common.{◌≡◌, ℕ, suc, ◌+◌, ◌<◌, ◌≤◌, List, [], ◌∷◌, ◌++◌, length, get_or, take, map, All, Contains, HoldsAt, sym, subst, ap, ap₂, ◌∙◌, inl, inr, arith}
use Rattle.std.specs.Cmp.{IsTotalOrder}
use Rattle.std.specs.Cmp.Lexicographic.{slice_cmp}
use Rattle.std.specs.List.Sorted.{IsNonDecreasingBy, IsPartitionPoint, IsSortedBy}
use Rattle.std.specs.Ordering.{is_lt, nat_cmp, ordering_index, ordering_reverse}
use Rattle.std.specs.declared.cmp.Ordering.{Ordering}
use Rattle.std.specs.declared.cmp.Ordering.TheVariants.{Less, Equal, Greater}
use Rattle.std.proofs.lemmas.Bool.{cases_lt}
use Rattle.std.proofs.lemmas.Cmp.{nat_list_cmp_total, tied_itself}
use Rattle.std.proofs.lemmas.Map.Lookups.{exact_bytes}
use Rattle.std.proofs.lemmas.List.{get_or-map, get_or-take, length-map, length_push, map-append, take_all}
use Rattle.std.proofs.Math.Seq.{take-suc}
use Rattle.std.proofs.lemmas.List.Elements.{All-push, Contains-get_or}
use Rattle.std.proofs.lemmas.List.Sorted.{searchable_from_sorted}
use Rattle.byte_names.specs.Names.{AreInOrder, name_at, names_of}
use Rattle.component_answer.specs.Starts.{AreNamed, AreStarts, IsFirstMissing, IsNodeNamed}
use Rattle.component_answer.proofs.Nodes.{range_within}
use denote.Ref.{Bor}

abbrev lent_cmp : Bor (List ℕ) → Bor (List ℕ) → Ordering
lent_cmp a b = slice_cmp nat_cmp a.now b.now

lent_total : IsTotalOrder lent_cmp
lent_total = record {
  antisymm = λ x y. nat_list_cmp_total.antisymm x.now y.now;
  trans = λ x y z. nat_list_cmp_total.trans x.now y.now z.now;
  congr = λ x y z. nat_list_cmp_total.congr x.now y.now z.now;
}

-- names that compare as equal are one
pub found : (names : List (Bor (List ℕ))) (wanted : Bor (List ℕ)) (place : ℕ) → place < length names
    → HoldsAt (λ y. lent_cmp y wanted ≡ Equal) names place → IsNodeNamed (names_of names) wanted.now place
found names wanted place within tie = record {
  within = omega (arith, within, length-map names (λ (n : Bor (List ℕ)). n.now));
  is =
      get_or-map (λ (n : Bor (List ℕ)). n.now) names place wanted [] within
      ∙ exact_bytes (get_or names place wanted).now wanted.now (tie wanted);
}

sorted_from_order : (names : List (Bor (List ℕ))) → AreInOrder (names_of names) → IsSortedBy (λ a b. is_lt (lent_cmp a b)) names
sorted_from_order names up k d low within =
    let inside : k < length names = omega (arith, within) in
    let less : lent_cmp (get_or names k d) (get_or names (k + 1) d) ≡ Less =
    subst (λ m. slice_cmp nat_cmp m (get_or names (k + 1) d).now ≡ Less) (get_or-map (λ (n : Bor (List ℕ)). n.now) names k d d.now inside)
    (subst (λ n. slice_cmp nat_cmp (get_or (names_of names) k d.now) n ≡ Less)
    (get_or-map (λ (n : Bor (List ℕ)). n.now) names (k + 1) d d.now within)
    (up k (k + 1) d.now (omega arith) (omega (arith, within, length-map names (λ (n : Bor (List ℕ)). n.now))))) in
    ap is_lt (lent_total.antisymm (get_or names (k + 1) d) (get_or names k d) ∙ ap ordering_reverse less)

-- and a name between others isn't there
pub absent : (names : List (Bor (List ℕ))) (wanted : Bor (List ℕ)) (place : ℕ) → AreInOrder (names_of names)
    → (IsNonDecreasingBy (λ y. ordering_index (lent_cmp y wanted)) names → IsPartitionPoint (λ y. lent_cmp y wanted ≡ Less) (λ y. lent_cmp y wanted ≡ Greater) names place)
    → Contains (names_of names) wanted.now → ⊥
absent names wanted place up split has =
    let parts = split (searchable_from_sorted lent_total (λ (x : Bor (List ℕ)). x) names wanted (sorted_from_order names up)) in
    let at = has.0 in
    let within : at < length names = omega (arith, has.1, length-map names (λ (n : Bor (List ℕ)). n.now)) in
    let is : (get_or names at wanted).now ≡ wanted.now = sym (get_or-map (λ (n : Bor (List ℕ)). n.now) names at wanted wanted.now within) ∙ has.2 in
    let tie : lent_cmp (get_or names at wanted) wanted ≡ Equal =
    ap (λ n. slice_cmp nat_cmp n wanted.now) is ∙ tied_itself nat_list_cmp_total wanted.now in
    elim (cases_lt at place) [
      | inl below ↦ let less : lent_cmp (get_or names at wanted) wanted ≡ Less = parts.0 at wanted (omega arith) below in cc
      | inr above ↦ let greater : lent_cmp (get_or names at wanted) wanted ≡ Greater = parts.1 at wanted above within in cc
    ]

take_more : (roots : List (List ℕ)) (place : ℕ) → place < length roots → take (place + 1) roots ≡ take place roots ++ name_at roots place ∷ []
take_more roots place within =
    let next : suc place ≡ place + 1 = omega arith in
    ap (λ n. take n roots) (sym next) ∙ take-suc roots place [] within

-- the nodes of the first roots
pub record AreFound (names roots : List (List ℕ)) (place : ℕ) (starts : List ℕ) : Type 0 where
  pub each : length starts ≡ place
  pub within : All (λ start. start < length names) starts
  pub named : map (name_at names) starts ≡ take place roots

pub one_found : (names roots : List (List ℕ)) (place : ℕ) (starts : List ℕ) (node : ℕ) → place < length roots → AreFound names roots place starts
    → IsNodeNamed names (name_at roots place) node → AreFound names roots (place + 1) (starts ++ node ∷ [])
one_found names roots place starts node within are is = record {
  each = length_push starts node ∙ ap (λ n. n + 1) are.each;
  within = All-push (λ start. start < length names) starts node are.within is.within;
  named =
      map-append (name_at names) starts (node ∷ []) ∙ ap₂ (λ xs x. xs ++ x ∷ []) are.named is.is ∙ sym (take_more roots place within);
}

pub all_found : (names roots : List (List ℕ)) (place : ℕ) (starts : List ℕ) → length roots ≤ place → AreFound names roots place starts
    → AreNamed names roots starts
all_found names roots place starts past are = record { within = are.within; named = are.named ∙ take_all place roots past }

pub first_missing : (names roots : List (List ℕ)) (place : ℕ) (starts : List ℕ) → place < length roots → AreFound names roots place starts
    → (Contains names (name_at roots place) → ⊥) → IsFirstMissing names roots place
first_missing names roots place starts within are missing = record {
  within = within;
  missing = missing;
  before =
      λ k lt.
      let inside : k < length starts = omega (arith, lt, are.each) in
      let at : name_at roots k ≡ name_at names (get_or starts k 0) =
      sym (get_or-take place roots k [] lt) ∙ ap (λ ns. get_or ns k []) (sym are.named) ∙ get_or-map (name_at names) starts k 0 [] inside in
      subst (Contains names) (sym at) (Contains-get_or names (get_or starts k 0) [] (are.within k 0 inside));
}

-- starts are nodes
pub starts_below : (names roots : List (List ℕ)) (starts : List ℕ) → AreStarts names roots starts → All (λ start. start < length names) starts
starts_below names [] starts are = subst (All (λ start. start < length names)) (sym are) (range_within (length names))
starts_below names (root ∷ roots) starts are = are.within
