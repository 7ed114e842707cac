-- Words that are added to names.
use Rattle.std.proofs.Common.{◌≡◌, ◌⊎◌, ℕ, ◌<◌, ◌≤◌, ◌++◌, List, [], ◌∷◌, length, map, All, Contains, refl, sym, ap, subst, ◌∙◌, inl, inr, arith}
use Rattle.std.proofs.lemmas.List.{append-nil, append_assoc, get_or_append_left, get_or_default, length-append}
use Rattle.std.proofs.lemmas.List.Elements.{All-append, All-contains, All-cons, All-head, All-nil, All-tail, All-weaker, Contains-append_cases, Contains-append_left, Contains-append_right, All-contains_itself}
use Rattle.list_laws.specs.Counts.{IsLonger}
use Rattle.flat_graph.specs.declared.edge.Edge.{Edge}
use Rattle.flat_graph.specs.Edges.{IsBelow}
use Rattle.byte_names.specs.Names.{name_at, IsPlaced}
use Rattle.edge_text.specs.EdgeGraph.{call_of}
use Rattle.edge_text.specs.Read.{AreAdded, call_at}

pub longer_same : {X : Type 0} (xs : List X) → IsLonger xs xs
longer_same xs = record { more = []; is = sym (append-nil xs) }

pub longer_trans : {X : Type 0} (xs ys zs : List X) → IsLonger xs ys → IsLonger ys zs → IsLonger xs zs
longer_trans xs ys zs a b = record { more = a.more ++ b.more; is = b.is ∙ ap (λ ws. ws ++ b.more) a.is ∙ append_assoc xs a.more b.more }

pub longer_length : {X : Type 0} (xs ys : List X) → IsLonger xs ys → length xs ≤ length ys
longer_length xs ys a = omega (arith, ap length a.is, length-append xs a.more)

pub longer_has : {X : Type 0} (xs ys : List X) (x : X) → IsLonger xs ys → Contains xs x → Contains ys x
longer_has xs ys x a has = subst (λ zs. Contains zs x) (sym a.is) (Contains-append_left xs a.more x has)

-- a name keeps its index
pub name_stays : (old new : List (List ℕ)) (place : ℕ) → IsLonger old new → place < length old → name_at new place ≡ name_at old place
name_stays old new place a lt = ap (λ names. name_at names place) a.is ∙ get_or_append_left old a.more [] place lt

pub none_added : (names : List (List ℕ)) → AreAdded [] names names
none_added names = record {
  longer = longer_same names;
  only = All-weaker (Contains names) (λ name. Contains names name ⊎ Contains [] name) (λ name has. inl has) names (All-contains_itself names);
  all = All-nil (Contains names);
}

pub more_added : (first second : List (List ℕ)) (old mid new : List (List ℕ)) → AreAdded first old mid → AreAdded second mid new
    → AreAdded (first ++ second) old new
more_added first second old mid new a b = record {
  longer = longer_trans old mid new a.longer b.longer;
  only =
      All-weaker (λ name. Contains mid name ⊎ Contains second name) (λ name. Contains old name ⊎ Contains (first ++ second) name)
      (λ name has. elim has [
        | inl was ↦ elim (All-contains (λ n. Contains old n ⊎ Contains first n) mid name a.only was) [
          | inl older ↦ inl older
          | inr word ↦ inr (Contains-append_left first second name word)
        ]
        | inr word ↦ inr (Contains-append_right first second name word)
      ]) new b.only;
  all =
      All-append (Contains new) first second
      (All-weaker (Contains mid) (Contains new) (λ name has. longer_has mid new name b.longer has) first a.all) b.all;
}

-- one name that has an index
pub placed_added : (old : List (List ℕ)) (name : List ℕ) (new : List (List ℕ)) (place : ℕ) → IsPlaced old name new place → AreAdded (name ∷ []) old new
placed_added old name new place is =
    let has : Contains new name = (place, is.within, get_or_default new place name [] is.within ∙ is.named) in
    record {
      longer = elim is.kept [
        | inl same ↦ record { more = []; is = same ∙ sym (append-nil old) }
        | inr more ↦ record { more = name ∷ []; is = more }
      ];
      only = elim is.kept [
        | inl same ↦
            subst (All (λ n. Contains old n ⊎ Contains (name ∷ []) n)) (sym same)
            (All-weaker (Contains old) (λ n. Contains old n ⊎ Contains (name ∷ []) n) (λ n was. inl was) old (All-contains_itself old))
        | inr more ↦
            subst (All (λ n. Contains old n ⊎ Contains (name ∷ []) n)) (sym more)
            (All-weaker (Contains (old ++ name ∷ [])) (λ n. Contains old n ⊎ Contains (name ∷ []) n)
            (λ n was. Contains-append_cases old (name ∷ []) n was) (old ++ name ∷ []) (All-contains_itself (old ++ name ∷ [])))
      ];
      all = All-cons (Contains new) name [] has (All-nil (Contains new));
    }

-- the calls of edges keep their names
pub calls_stay : (old new : List (List ℕ)) (edges : List Edge) → IsLonger old new → All (IsBelow (length old)) edges
    → map (call_at new) edges ≡ map (call_at old) edges
calls_stay old new [] longer below = refl
calls_stay old new (edge ∷ edges) longer below =
    let is : IsBelow (length old) edge = All-head (IsBelow (length old)) edge edges below in
    let from = name_stays old new edge.from longer is.from in
    let to = name_stays old new edge.to longer is.to in
    λ i. call_of (from i) (to i) ∷ calls_stay old new edges longer (All-tail (IsBelow (length old)) edge edges below) i

pub edges_stay : (old new : List (List ℕ)) (edges : List Edge) → IsLonger old new → All (IsBelow (length old)) edges → All (IsBelow (length new)) edges
edges_stay old new edges longer below =
    let more : length old ≤ length new = longer_length old new longer in
    All-weaker (IsBelow (length old)) (IsBelow (length new))
    (λ edge is. record { from = omega (arith, is.from, more); to = omega (arith, is.to, more) }) edges below
