-- Predicates and the places at which they start.
use Rattle.std.proofs.Common.{◌≡◌, ◌<◌, ◌++◌, ℕ, List, [], ◌∷◌, All, Some, None, Vec, Global, Result, Ok, Err, IfOk, length, get_or, map, slice_get, ap, sym, ◌∙◌, subst, refl, arith}
use Rattle.std.specs.Prelude.{Contains, MatchResult}
use Rattle.std.specs.List.{AllZip, flat_map}
use Rattle.std.specs.List.Sorted.{IsNonDecreasingBy, IsPermutation}
use Rattle.std.specs.declared.alloc.AllocError.{AllocError}
use Rattle.std.proofs.lemmas.List.{get_or-map, length-map, map-append, map-id}
use Rattle.std.proofs.lemmas.List.Elements.{All-map}
use Rattle.std.proofs.lemmas.List.Sorted.{All-permutation, IsNonDecreasingBy-from_default, IsPermutation-map}
use Rattle.std.proofs.lemmas.Option.{get_or_from_slice_get}
use Rattle.std.proofs.lemmas.Simd.{map-map}
use Rattle.clause_text.specs.Clauses.{clause_tree, clause_trees}
use Rattle.clause_text.specs.declared.text_clauses.Clause.{Clause}
use Rattle.prolog_terms.specs.Views.{start_of}
use Rattle.module_table.specs.Defined.{Predicate}
use Rattle.module_table.specs.Facts.{Facts}
use Rattle.import_rules.specs.Program.{Seen}
use Rattle.call_edges.specs.FileOrder.{AreStarts, first_offset, first_start, node_of, offset_at, offset_in, place_number, see_start, start_in, start_place}
use Rattle.call_edges.specs.declared.starts.Start.{Start}

-- the first of the clauses is the first of their trees
pub offset_of_first : (names : List (List ℕ)) (clauses : List Clause) (clause : Clause) → slice_get clauses 0 ≡ Some clause
    → start_of (clause_tree names clause) ≡ first_offset (clause_trees names clauses)
offset_of_first names [] clause is = cc
offset_of_first names (first ∷ more) clause is =
    ap (λ (c : Clause). start_of (clause_tree names c)) (sym (get_or_from_slice_get (first ∷ more) 0 clause first is))

pub no_first : (names : List (List ℕ)) (clauses : List Clause) → slice_get clauses 0 ≡ None → 0 ≡ first_offset (clause_trees names clauses)
no_first names [] is = refl
no_first names (first ∷ more) is = cc

-- where a predicate starts whose first place is known

pub starts_at : (files : List Facts) (places : List (ℕ × ℕ)) (at : ℕ × ℕ) (file : Facts) (predicate : Predicate) → slice_get places 0 ≡ Some at
    → slice_get files at.0 ≡ Some file → slice_get file.defined at.1 ≡ Some predicate → first_start files places ≡ place_number at.0 (first_offset predicate.clauses)
starts_at files [] at file predicate is here there = cc
starts_at files (first ∷ more) at file predicate is here there =
    ap (λ (place : ℕ × ℕ). place_number place.0 (offset_at place.1 (slice_get files place.0))) (get_or_from_slice_get (first ∷ more) 0 at first is)
    ∙ (ap (λ f. place_number at.0 (offset_at at.1 f)) here ∙ ap (λ p. place_number at.0 (offset_in p)) there)

pub starts_nowhere : (files : List Facts) (places : List (ℕ × ℕ)) → slice_get places 0 ≡ None → 0 ≡ first_start files places
starts_nowhere files [] is = refl
starts_nowhere files (first ∷ more) is = cc

module _ (seen : Seen) where
  abbrev found : Vec Start Global → Result (Vec Start Global) AllocError
  found one = Ok one

  abbrev pub EachStarts : List (List ℕ) → List (Result (Vec Start Global) AllocError) → Type 0
  EachStarts parts each = AllZip (λ part one. IfOk one (λ starts. AreStarts seen part starts.items)) parts each

  starts_joined : (parts : List (List ℕ)) (lists : List (Vec Start Global)) → EachStarts parts (map found lists)
      → AreStarts seen (flat_map (λ part. part) parts) (flat_map (λ list. list.items) lists)
  starts_joined [] [] are = refl
  starts_joined [] (one ∷ lists) are = absurd are
  starts_joined (part ∷ parts) [] are = absurd are
  starts_joined (part ∷ parts) (one ∷ lists) are =
      let nodes = flat_map (λ ys. ys) parts in
      map-append see_start one.items (flat_map (λ list. list.items) lists)
      ∙ (ap (λ xs. xs ++ map see_start (flat_map (λ list. list.items) lists)) are.0
      ∙ (ap (λ xs. map (start_in seen) part ++ xs) (starts_joined parts lists are.1) ∙ sym (map-append (start_in seen) part nodes)))

  -- the starts of stretches are those of all, where memory was wanting for none
  pub starts_found : {V : Type 0} (items : V → List (Vec Start Global)) (parts : List (List ℕ)) (nodes : List ℕ)
      (each : List (Result (Vec Start Global) AllocError)) (result : Result V AllocError) → flat_map (λ part. part) parts ≡ nodes → EachStarts parts each
      → MatchResult result (λ v. (lists : List (Vec Start Global)) × (each ≡ map found lists) × (items v ≡ lists)) (λ e. Contains each (Err e))
      → IfOk result (λ v. AreStarts seen nodes (flat_map (λ list. list.items) (items v)))
  starts_found items parts nodes each (Ok v) whole are is =
      subst (λ lists. AreStarts seen nodes (flat_map (λ list. list.items) lists)) (sym is.2)
      (subst (λ ps. AreStarts seen ps (flat_map (λ list. list.items) is.0)) whole (starts_joined parts is.0 (subst (EachStarts parts) is.1 are)))
  starts_found items parts nodes each (Err e) whole are is = tt

module _ (seen : Seen) (nodes : List ℕ) (starts : List Start) (moved : IsPermutation (map (start_in seen) nodes) (map see_start starts)) where
  -- the predicates are the same, in another order
  pub same_nodes : IsPermutation nodes (map node_of starts)
  same_nodes =
      let node : ℕ × ℕ → ℕ = λ x. x.0 in
      subst (λ ps. IsPermutation ps (map node_of starts)) (map-map node (start_in seen) nodes ∙ map-id nodes)
      (subst (IsPermutation (map node (map (start_in seen) nodes))) (map-map node see_start starts)
      (IsPermutation-map node (map (start_in seen) nodes) (map see_start starts) moved))

  -- each stands with its own place
  own_places : All (λ (x : ℕ × ℕ). x.1 ≡ start_place seen x.0) (map see_start starts)
  own_places =
      let own : ℕ × ℕ → Type 0 = λ x. x.1 ≡ start_place seen x.0 in
      All-permutation own (map (start_in seen) nodes) (map see_start starts) moved (All-map own (start_in seen) nodes (λ k d lt. refl))

  -- they are in the order of these places where the starts are
  pub nodes_in_order : IsNonDecreasingBy (λ (s : Start). s.place) starts → IsNonDecreasingBy (start_place seen) (map node_of starts)
  nodes_in_order ascending =
      IsNonDecreasingBy-from_default (start_place seen) (map node_of starts) 0
      (λ i j le lt.
      let none : Start = record { place = 0; node = 0 } in
      let below : j < length starts = subst (λ n. j < n) (length-map starts node_of) lt in
      let within : i < length starts = omega (arith, le, below) in
      let place_at : (k : ℕ) → k < length starts → (get_or starts k none).place ≡ start_place seen (get_or (map node_of starts) k 0) =
      λ k less.
      let seen_there : get_or (map see_start starts) k (0, 0) ≡ see_start (get_or starts k none) = get_or-map see_start starts k none (0, 0) less in
      ap (λ (x : ℕ × ℕ). x.1) (sym seen_there)
      ∙ (own_places k (0, 0) (subst (λ n. k < n) (sym (length-map starts see_start)) less)
      ∙ ap (start_place seen) (ap (λ (x : ℕ × ℕ). x.0) seen_there ∙ sym (get_or-map node_of starts k none 0 less))) in
      rw (sym (place_at i within), sym (place_at j below)) (ascending i j none le below))
