-- The lists of what predicates call are the same with plain trees.
use Rattle.std.proofs.Common.{◌≡◌, ℕ, List, [], ◌∷◌, ◌++◌, Option, Some, None, length, map, filter, option_map, slice_get, refl, sym, ap, ◌∙◌}
use Rattle.std.specs.List.{cons_option, flat_map, list_any, range_with_len}
use Rattle.std.proofs.lemmas.List.Concat.{flat_map-append}
use Rattle.std.proofs.lemmas.Option.{slice_get-map}
use Rattle.prolog_terms.specs.Tree.{Tree}
use Rattle.module_table.specs.Defined.{Predicate}
use Rattle.module_table.specs.Facts.{Facts}
use Rattle.import_rules.specs.Program.{Seen, places_in}
use Rattle.call_edges.specs.Bodies.{Body, body_in, clause_bodies, part_bodies, file_bodies, bodies_at}
use Rattle.call_edges.specs.Calls.{body_of}
use Rattle.call_edges.specs.Goals.{Met, Place, Rows}
use Rattle.call_edges.specs.ProgramRows.{rows_of}
use Rattle.call_edges.specs.Successors.{body_mets, node_mets, is_target, calls_to, successor_lists}
use Rattle.kept_clauses.specs.Plain.{plain}
use Rattle.plain_clauses.specs.PlainFacts.{plain_predicate, plain_facts}
use Rattle.plain_clauses.specs.PlainProgram.{plain_seen}
use Rattle.plain_clauses.proofs.PlainMets.{place_mets, clause_mets, plain_mets}
use Rattle.plain_clauses.proofs.PlainNames.{all_plain, places_same}
use Rattle.plain_clauses.proofs.PlainProgram.{rows_same, target_same}

flat_flat : {X Y Z : Type 0} (f : Y → List Z) (g : X → List Y) (xs : List X) → flat_map f (flat_map g xs) ≡ flat_map (λ x. flat_map f (g x)) xs
flat_flat f g [] = refl
flat_flat f g (x ∷ xs) = flat_map-append f (g x) (flat_map g xs) ∙ ap (λ rest. flat_map f (g x) ++ rest) (flat_flat f g xs)

module _ (T : Rows) where
  -- what is met in bodies is what is met in the clauses that have them

  first_body : (file : ℕ) (owner : List ℕ) (o : Option Place) (bodies : List Body)
      → flat_map (body_mets T) (cons_option (option_map (body_in file) o) bodies) ≡ place_mets T owner o ++ flat_map (body_mets T) bodies
  first_body file owner (Some body) bodies = refl
  first_body file owner None bodies = refl

  bodies_met : (file : ℕ) (owner : List ℕ) (clauses : List Tree) → flat_map (body_mets T) (clause_bodies file owner clauses) ≡ flat_map (clause_mets T owner) clauses
  bodies_met file owner [] = refl
  bodies_met file owner (clause ∷ clauses) =
      first_body file owner (body_of owner clause) (clause_bodies file owner clauses) ∙ ap (λ rest. clause_mets T owner clause ++ rest) (bodies_met file owner clauses)

  clauses_same : (owner : List ℕ) (clauses : List Tree) → flat_map (clause_mets T owner) (map plain clauses) ≡ flat_map (clause_mets T owner) clauses
  clauses_same owner [] = refl
  clauses_same owner (clause ∷ clauses) = λ i. plain_mets T owner clause i ++ clauses_same owner clauses i

  part_same : (file : ℕ) (owner : List ℕ) (o : Option Predicate)
      → flat_map (body_mets T) (part_bodies file owner (option_map plain_predicate o)) ≡ flat_map (body_mets T) (part_bodies file owner o)
  part_same file owner (Some predicate) =
      bodies_met file owner (map plain predicate.clauses) ∙ clauses_same owner predicate.clauses ∙ sym (bodies_met file owner predicate.clauses)
  part_same file owner None = refl

  file_same : (file part : ℕ) (o : Option Facts)
      → flat_map (body_mets T) (file_bodies file part (option_map plain_facts o)) ≡ flat_map (body_mets T) (file_bodies file part o)
  file_same file part (Some facts) =
      ap (λ o. flat_map (body_mets T) (part_bodies file facts.module_ o)) (slice_get-map plain_predicate facts.defined part)
      ∙ part_same file facts.module_ (slice_get facts.defined part)
  file_same file part None = refl

  place_same : (files : List Facts) (at : ℕ × ℕ) → flat_map (body_mets T) (bodies_at (all_plain files) at) ≡ flat_map (body_mets T) (bodies_at files at)
  place_same files at = ap (λ o. flat_map (body_mets T) (file_bodies at.0 at.1 o)) (slice_get-map plain_facts files at.0) ∙ file_same at.0 at.1 (slice_get files at.0)

  all_same : (files : List Facts) (places : List (ℕ × ℕ))
      → flat_map (λ at. flat_map (body_mets T) (bodies_at (all_plain files) at)) places ≡ flat_map (λ at. flat_map (body_mets T) (bodies_at files at)) places
  all_same files [] = refl
  all_same files (at ∷ places) = λ i. place_same files at i ++ all_same files places i

module _ (seen : Seen) where
  node_same : (node : ℕ) → node_mets (plain_seen seen) node ≡ node_mets seen node
  node_same node =
      let files = seen.loaded.files in
      let T = rows_of seen in
      (λ i. flat_map (body_mets (rows_same seen i)) (flat_map (bodies_at (all_plain files)) (places_same seen node i)))
      ∙ flat_flat (body_mets T) (bodies_at (all_plain files)) (places_in seen node)
      ∙ all_same T files (places_in seen node) ∙ sym (flat_flat (body_mets T) (bodies_at files) (places_in seen node))

  tests_same : (p q : ℕ) → calls_to (plain_seen seen) p q ≡ calls_to seen p q
  tests_same p q = λ i. list_any (λ (m : Met). is_target q (target_same seen m i)) (node_same p i)

  pub lists_same : successor_lists (plain_seen seen) ≡ successor_lists seen
  unfolding successor_lists
  lists_same =
      λ i. map (λ p. filter (λ q. tests_same p q i) (range_with_len 0 (length seen.predicates))) (range_with_len 0 (length seen.predicates))
