-- A program has fewer clauses and fewer calls than a list in memory may have elements.
use Rattle.std.proofs.Common.{◌≡◌, ◌<◌, ◌≤◌, ◌*◌, ◌^◌, ℕ, List, [], ◌∷◌, Contains, flat_map, length, length-append, map, ◌+◌, ◌++◌, ap, ◌∙◌, arith}
use Rattle.std.proofs.lemmas.List.Concat.{flat_map-append}
use Rattle.std.proofs.lemmas.List.Sums.{sum_by-cons}
use Rattle.list_laws.proofs.Members.{stands_in}
use Rattle.list_laws.proofs.OneOrder.{in_first, in_rest}
use Rattle.prolog_tokens.specs.declared.limits.TheConstants.{MOST_BYTES}
use Rattle.prolog_terms.specs.Tree.{Tree}
use Rattle.prolog_terms.specs.Weight.{weight}
use Rattle.clause_text.specs.Clauses.{total_weight}
use Rattle.file_library.specs.Loaded.{WasLoaded}
use Rattle.file_library.specs.declared.limits.TheConstants.{MOST_FILES}
use Rattle.import_rules.specs.declared.resolve.TheConstants.{MOST_PREDICATES}
use Rattle.import_rules.specs.Program.{Seen, places_in}
use Rattle.import_rules.proofs.Loaded.{few_files}
use Rattle.call_edges.specs.Bodies.{Body, bodies_at}
use Rattle.call_edges.specs.CallPlaces.{CallAt}
use Rattle.call_edges.specs.KeptCalls.{body_calls, calls_in}
use Rattle.call_edges.proofs.BodyLemmas.{IsThere, bodies_there, places_there}
use Rattle.call_table.specs.declared.clause_at.ClauseAt.{ClauseAt}
use Rattle.call_table.specs.Clauses.{clause_at, clauses_in, clauses_there}
use Rattle.call_table.proofs.ClauseLemmas.{clauses_at}
use Rattle.laws.proofs.ClauseTotals.{light_files}
use Rattle.laws.proofs.MetCounts.{all_calls, clauses_few}
use Rattle.laws.proofs.PredicatePlaces.{node_places_few}

-- lists of which each is short are short together
short_together : {X Y : Type 0} (f : X → List Y) (most : ℕ) (xs : List X) → ((x : X) → Contains xs x → length (f x) ≤ most)
    → length (flat_map f xs) ≤ length xs * most
short_together f most [] short = omega arith
short_together f most (x ∷ xs) short =
    omega (arith, length-append (f x) (flat_map f xs), short x (in_first x xs), short_together f most xs (λ y has. short y (in_rest x y xs has)))

-- lists made of the elements of lists, one behind the other
flat_twice : {X Y Z : Type 0} (g : Y → List Z) (f : X → List Y) (xs : List X) → flat_map g (flat_map f xs) ≡ flat_map (λ x. flat_map g (f x)) xs
flat_twice g f [] = λ i. []
flat_twice g f (x ∷ xs) = flat_map-append g (f x) (flat_map f xs) ∙ (λ i. flat_map g (f x) ++ flat_twice g f xs i)

weighed : (file node : ℕ) (clauses : List Tree) → length (map (clause_at file node) clauses) ≤ total_weight clauses
weighed file node [] = omega arith
weighed file node (clause ∷ clauses) = omega (arith, weighed file node clauses, sum_by-cons (λ t. weight t + 2) clause clauses)

module _ (seen : Seen) (was : WasLoaded seen.loaded) where
  -- what the clauses at a place weigh
  light_there : (at : ℕ × ℕ) (there : IsThere seen.loaded.files at) → total_weight there.predicate.clauses ≤ MOST_BYTES
  light_there at there =
      (light_files seen.loaded was there.file (stands_in seen.loaded.files at.0 there.file there.at_place)).light there.predicate
      (stands_in there.file.defined at.1 there.predicate there.at_part)

  few_places : (node : ℕ) → length (places_in seen node) ≤ MOST_FILES
  few_places node =
      omega (arith, node_places_few seen node (λ file has. (light_files seen.loaded was file has).in_order), few_files seen.loaded was)

  -- clauses

  clauses_there_few : (node : ℕ) (at : ℕ × ℕ) → Contains (places_in seen node) at → length (clauses_there seen.loaded.files node at) ≤ MOST_BYTES
  clauses_there_few node at has =
      let there = places_there seen node at has in
      let are = clauses_at seen.loaded.files node at there.file there.predicate there.at_place there.at_part in
      omega (arith, ap (λ (cs : List ClauseAt). length cs) are, weighed at.0 node there.predicate.clauses, light_there at there)

  clauses_in_few : (node : ℕ) → length (clauses_in seen node) ≤ MOST_FILES * MOST_BYTES
  clauses_in_few node =
      omega (arith, short_together (clauses_there seen.loaded.files node) MOST_BYTES (places_in seen node) (clauses_there_few node), few_places node)

  -- calls

  calls_there_few : (caller : ℕ) (at : ℕ × ℕ) → Contains (places_in seen caller) at
      → length (all_calls seen caller (bodies_at seen.loaded.files at)) ≤ MOST_BYTES
  calls_there_few caller at has =
      let there = places_there seen caller at has in
      let are = bodies_there seen.loaded.files at there.file there.predicate there.at_place there.at_part in
      omega (
        arith,
        ap (λ (bodies : List Body). length (all_calls seen caller bodies)) are,
        clauses_few seen caller at.0 there.file.module_ there.predicate.clauses,
        light_there at there,
      )

  calls_in_few : (caller : ℕ) → length (calls_in seen caller) ≤ MOST_FILES * MOST_BYTES
  unfolding calls_in
  calls_in_few caller =
      let at_places : ℕ × ℕ → List CallAt = λ at. all_calls seen caller (bodies_at seen.loaded.files at) in
      omega (
        arith,
        ap (λ (cs : List CallAt). length cs) (flat_twice (body_calls seen caller) (bodies_at seen.loaded.files) (places_in seen caller)),
        short_together at_places MOST_BYTES (places_in seen caller) (calls_there_few caller),
        few_places caller,
      )

  -- of all predicates

  module _ (nodes : List ℕ) (few : length nodes ≤ MOST_PREDICATES) where
    pub all_clauses_few : length (flat_map (clauses_in seen) nodes) < 2 ^ 63
    all_clauses_few = omega (arith, short_together (clauses_in seen) (MOST_FILES * MOST_BYTES) nodes (λ node has. clauses_in_few node), few)

    pub all_calls_few : length (flat_map (calls_in seen) nodes) < 2 ^ 63
    all_calls_few = omega (arith, short_together (calls_in seen) (MOST_FILES * MOST_BYTES) nodes (λ node has. calls_in_few node), few)
