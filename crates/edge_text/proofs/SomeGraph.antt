-- What is said has a graph.
use Rattle.std.proofs.Common.{◌≡◌, ◌⊎◌, ℕ, ◌+◌, ◌<◌, Bool, true, false, ◌&&◌, List, [], ◌∷◌, length, map, filter, get_or, Contains, refl, sym, ap, subst, ◌∙◌, inl, inr, arith}
use Rattle.std.specs.List.{list_any, range_with_len}
use Rattle.std.specs.List.Sorted.{IsStrictlyIncreasing}
use Rattle.std.specs.declared.cmp.Ordering.{Ordering}
use Rattle.std.specs.declared.cmp.Ordering.TheVariants.{Less, Equal, Greater}
use Rattle.std.specs.Ordering.{nat_cmp, ordering_reverse}
use Rattle.std.specs.Cmp.Lexicographic.{slice_cmp, bytes_decides}
use Rattle.std.specs.Str.{bytes_eq}
use Rattle.std.specs.FinMap.{slice_cmp-IsAntisymmetric, nat_cmp-IsAntisymmetric}
use Rattle.std.proofs.lemmas.Cmp.{nat_list_cmp_total}
use Rattle.std.proofs.lemmas.List.Elements.{All-contains, filter_passes}
use Rattle.std.proofs.lemmas.List.FromFn.{length-range_with_len, get_or-range_with_len, length-map-range_with_len, get_or-map-range_with_len}
use Rattle.std.proofs.lemmas.List.Kept.{AllPairs-cons, IsStrictlyIncreasing-filter}
use Rattle.list_laws.proofs.Members.{all_by, any_from, any_there, kept_in, kept_there}
use Rattle.list_laws.proofs.OneOrder.{before_rest, first_or_rest, in_first, in_rest, nothing_in, range_below, range_has, rest_in_order}
use Rattle.graph_law.specs.Graph.{Calls}
use Rattle.byte_names.specs.Names.{name_at, AreInOrder}
use Rattle.edge_text.specs.EdgeGraph.{Call, call_of, AreCallees, AreNames, IsEdgeGraph, Said}

abbrev IsBefore : List ℕ → List ℕ → Type 0
IsBefore a b = slice_cmp nat_cmp a b ≡ Less

abbrev choose : Ordering → List ℕ → List ℕ → List (List ℕ) → List (List ℕ) → List (List ℕ)
choose Less x y ys more = x ∷ y ∷ ys
choose Equal x y ys more = y ∷ ys
choose Greater x y ys more = y ∷ more

-- a name put among names in order, unless it is there
abbrev put : List ℕ → List (List ℕ) → List (List ℕ)
put x [] = x ∷ []
put x (y ∷ ys) = choose (slice_cmp nat_cmp x y) x y ys (put x ys)

put_has : (x : List ℕ) (ys : List (List ℕ)) → Contains (put x ys) x
put_has x [] = in_first x []
put_has x (y ∷ ys) =
    elim (slice_cmp nat_cmp x y) as (λ o. slice_cmp nat_cmp x y ≡ o → Contains (choose o x y ys (put x ys)) x) [
      | Less ↦ λ e. in_first x (y ∷ ys)
      | Equal ↦ λ e. subst (Contains (y ∷ ys)) (sym (slice_cmp-IsAntisymmetric nat_cmp-IsAntisymmetric x y e)) (in_first y ys)
      | Greater ↦ λ e. in_rest y x (put x ys) (put_has x ys)
    ] refl

put_keeps : (x : List ℕ) (ys : List (List ℕ)) (z : List ℕ) → Contains ys z → Contains (put x ys) z
put_keeps x [] z has = absurd (nothing_in z has)
put_keeps x (y ∷ ys) z has =
    elim (slice_cmp nat_cmp x y) as (λ o. Contains (choose o x y ys (put x ys)) z) [
      | Less ↦ in_rest x z (y ∷ ys) has
      | Equal ↦ has
      | Greater ↦ elim (first_or_rest y z ys has) [
        | inl is ↦ subst (Contains (y ∷ put x ys)) is (in_first y (put x ys))
        | inr later ↦ in_rest y z (put x ys) (put_keeps x ys z later)
      ]
    ]

put_from : (x : List ℕ) (ys : List (List ℕ)) (z : List ℕ) → Contains (put x ys) z → (x ≡ z) ⊎ Contains ys z
put_from x [] z has = first_or_rest x z [] has
put_from x (y ∷ ys) z has =
    elim (slice_cmp nat_cmp x y) as (λ o. Contains (choose o x y ys (put x ys)) z → (x ≡ z) ⊎ Contains (y ∷ ys) z) [
      | Less ↦ λ there. first_or_rest x z (y ∷ ys) there
      | Equal ↦ λ there. inr there
      | Greater ↦ λ there. elim (first_or_rest y z (put x ys) there) [
        | inl is ↦ inr (subst (Contains (y ∷ ys)) is (in_first y ys))
        | inr later ↦ elim (put_from x ys z later) [
          | inl is ↦ inl is
          | inr old ↦ inr (in_rest y z ys old)
        ]
      ]
    ] has

put_order : (x : List ℕ) (ys : List (List ℕ)) → AreInOrder ys → AreInOrder (put x ys)
put_order x [] up = AllPairs-cons IsBefore x [] (all_by (IsBefore x) [] (λ z has. absurd (nothing_in z has))) up
put_order x (y ∷ ys) up =
    elim (slice_cmp nat_cmp x y) as (λ o. slice_cmp nat_cmp x y ≡ o → AreInOrder (choose o x y ys (put x ys))) [
      | Less ↦ λ e.
          AllPairs-cons IsBefore x (y ∷ ys)
          (all_by (IsBefore x) (y ∷ ys)
          (λ z has. elim (first_or_rest y z ys has) [
            | inl is ↦ subst (IsBefore x) is e
            | inr later ↦ nat_list_cmp_total.trans x y z e (before_rest IsBefore y z ys up later)
          ])) up
      | Equal ↦ λ e. up
      | Greater ↦ λ e.
          AllPairs-cons IsBefore y (put x ys)
          (all_by (IsBefore y) (put x ys)
          (λ z has. elim (put_from x ys z has) [
            | inl is ↦ subst (IsBefore y) is (nat_list_cmp_total.antisymm y x ∙ ap ordering_reverse e)
            | inr old ↦ before_rest IsBefore y z ys up old
          ])) (put_order x ys (rest_in_order IsBefore y ys up))
    ] refl

-- the different ones of names, in order
abbrev in_order : List (List ℕ) → List (List ℕ)
in_order [] = []
in_order (x ∷ xs) = put x (in_order xs)

order_is : (xs : List (List ℕ)) → AreInOrder (in_order xs)
order_is [] = λ i j d lt within. absurd (let no : j < 0 = within in omega (arith, no))
order_is (x ∷ xs) = put_order x (in_order xs) (order_is xs)

order_from : (xs : List (List ℕ)) (z : List ℕ) → Contains (in_order xs) z → Contains xs z
order_from [] z has = absurd (nothing_in z has)
order_from (x ∷ xs) z has = elim (put_from x (in_order xs) z has) [
  | inl is ↦ subst (Contains (x ∷ xs)) is (in_first x xs)
  | inr old ↦ in_rest x z xs (order_from xs z old)
]

order_has : (xs : List (List ℕ)) (z : List ℕ) → Contains xs z → Contains (in_order xs) z
order_has [] z has = absurd (nothing_in z has)
order_has (x ∷ xs) z has = elim (first_or_rest x z xs has) [
  | inl is ↦ subst (Contains (put x (in_order xs))) is (put_has x (in_order xs))
  | inr later ↦ put_keeps x (in_order xs) z (order_has xs z later)
]

some_names : (said : Said) → AreNames said (in_order said.names)
some_names said =
    let named = said.names in
    record {
      in_order = order_is named;
      only = all_by (Contains named) (in_order named) (order_from named);
      all = all_by (Contains (in_order named)) named (order_has named);
    }

-- whether a call is from one name to another
abbrev is_call : List ℕ → List ℕ → Call → Bool
is_call caller callee call = bytes_eq call.caller caller && bytes_eq call.callee callee

both_true : (a b : Bool) → (a && b) ≡ true → (a ≡ true) × (b ≡ true)
both_true true b is = (refl, is)
both_true false b is = absurd (let clash : false ≡ true = is in cc)

call_is : (caller callee : List ℕ) (call : Call) → is_call caller callee call ≡ true → call ≡ call_of caller callee
call_is caller callee call is =
    let both = both_true (bytes_eq call.caller caller) (bytes_eq call.callee callee) is in
    let from = (bytes_decides call.caller caller).0 both.0 in
    let to = (bytes_decides call.callee callee).0 both.1 in
    λ i. call_of (from i) (to i)

is_itself : (caller callee : List ℕ) → is_call caller callee (call_of caller callee) ≡ true
is_itself caller callee = λ i. (bytes_decides caller caller).1 refl i && (bytes_decides callee callee).1 refl i

abbrev says : List Call → List (List ℕ) → ℕ → ℕ → Bool
says calls names p q = list_any (is_call (name_at names p) (name_at names q)) calls

abbrev callees : List Call → List (List ℕ) → ℕ → List ℕ
callees calls names p = filter (says calls names p) (range_with_len 0 (length names))

abbrev lists : List Call → List (List ℕ) → List (List ℕ)
lists calls names = map (callees calls names) (range_with_len 0 (length names))

range_rises : (n : ℕ) → IsStrictlyIncreasing (range_with_len 0 n)
range_rises n k lt =
    let within : k + 1 < n = omega (arith, lt, length-range_with_len 0 n) in
    omega (arith, get_or-range_with_len 0 n k 0 (omega (arith, within)), get_or-range_with_len 0 n (k + 1) 0 within)

kept_passes : {X : Type 0} (p : X → Bool) (xs : List X) (x : X) → Contains (filter p xs) x → p x ≡ true
kept_passes p xs x has = All-contains (λ y. p y ≡ true) (filter p xs) x (filter_passes p xs) has

some_callees : (said : Said) (names : List (List ℕ)) → AreCallees said names (lists (said.calls) names)
some_callees said names =
    let calls = said.calls in
    let n = length names in
    let all = range_with_len 0 n in
    let read : (p : ℕ) → p < n → get_or (lists calls names) p [] ≡ callees calls names p =
    λ p lt. get_or-map-range_with_len (callees calls names) 0 n p p [] lt (omega arith) in
    let there : (p q : ℕ) → p < n → Calls (lists calls names) p q → Contains (callees calls names p) q =
    λ p q lt has. subst (λ xs. Contains xs q) (read p lt) has in
    record {
      each = length-map-range_with_len (callees calls names) 0 n;
      ascending =
          all_by (λ xs. IsStrictlyIncreasing xs) (lists calls names)
          (λ xs has.
          let (k, lt, is) = has in
          let within : k < n = omega (arith, lt, length-map-range_with_len (callees calls names) 0 n) in
          let same : callees calls names k ≡ xs =
          sym (get_or-map-range_with_len (callees calls names) 0 n k k xs within (omega arith)) ∙ is in
          let P : List ℕ → Type 0 = λ ys. IsStrictlyIncreasing ys in
          subst P same (IsStrictlyIncreasing-filter (says calls names k) all (range_rises n)));
      below = λ p q lt has. range_below n q (kept_there (says calls names p) all q (there p q lt has));
      only = λ p q lt has.
          let passes : says calls names p q ≡ true = kept_passes (says calls names p) all q (there p q lt has) in
          let (call, among, is) = any_from (is_call (name_at names p) (name_at names q)) calls passes in
          subst (Contains calls) (call_is (name_at names p) (name_at names q) call is) among;
      all = λ p q within inside says_so.
          let passes : says calls names p q ≡ true =
          any_there (is_call (name_at names p) (name_at names q)) calls (call_of (name_at names p) (name_at names q)) says_so
          (is_itself (name_at names p) (name_at names q)) in
          subst (λ xs. Contains xs q) (sym (read p within)) (kept_in (says calls names p) all q (range_has n q inside) passes);
    }

pub some_graph : (said : Said) → (names : List (List ℕ)) × (lists : List (List ℕ)) × IsEdgeGraph said names lists
some_graph said =
    let names = in_order said.names in
    (names, lists (said.calls) names, record { nodes = some_names said; callees = some_callees said names })
