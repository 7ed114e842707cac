-- The bodies of a predicate have just what is met in its clauses.
use Rattle.std.proofs.Common.{◌≡◌, ◌↔◌, ℕ, ◌+◌, ◌<◌, List, ◌∷◌, [], ◌++◌, Option, Some, None, length, take, get_or, map, slice_get, ap, sym, ◌∙◌, subst, refl, arith, append-nil, append_assoc}
use Rattle.std.specs.Prelude.{Contains}
use Rattle.std.specs.List.{flat_map, filter_map}
use Rattle.std.specs.Option.{option_to_list, option_map}
use Rattle.std.proofs.lemmas.List.{take_more, map-append}
use Rattle.std.proofs.lemmas.List.Elements.{filter_map-append}
use Rattle.std.proofs.lemmas.Option.{same_Some, none-some}
use Rattle.prolog_terms.specs.Tree.{Tree}
use Rattle.module_table.specs.Defined.{Predicate}
use Rattle.module_table.specs.Facts.{Facts}
use Rattle.import_rules.specs.Program.{Seen, places_in, places_at}
use Rattle.call_edges.specs.Goals.{Met, Place, Rows}
use Rattle.call_edges.specs.ProgramRows.{rows_of}
use Rattle.call_edges.specs.Calls.{IsAmong, body_of, IsMetInClause, IsMetAt, IsMetIn}
use Rattle.call_edges.specs.Bodies.{Body, body_in, clause_bodies, part_bodies, file_bodies, bodies_at, bodies_in, IsMetInBody}
use Rattle.call_edges.proofs.AmongLemmas.{IsGiven, among_given, among_flat, among_as}
use Rattle.call_edges.proofs.PlaceLemmas.{place_stands}

-- loops that build lists

pub option_list : {X : Type 0} (o : Option X) → filter_map (λ (p : Option X). p) (o ∷ []) ≡ option_to_list o
option_list None = refl
option_list (Some x) = refl

given_one : {X Y : Type 0} (h : X → Option Y) (x : X) (o : Option Y) → h x ≡ o → filter_map h (x ∷ []) ≡ option_to_list o
given_one h x None is = rw is
given_one h x (Some y) is = rw is

pub given_more : {X Y Z : Type 0} (h : Y → Option Z) (g : X → Y) (xs : List X) (i : ℕ) (x : X) (o : Option Z) → i < length xs → x ≡ get_or xs i x → h (g x) ≡ o
    → filter_map h (map g (take (i + 1) xs)) ≡ filter_map h (map g (take i xs)) ++ option_to_list o
given_more h g xs i x o lt is given =
    let more : take (i + 1) xs ≡ take i xs ++ x ∷ [] = take_more xs i x lt ∙ ap (λ y. take i xs ++ y ∷ []) (sym is) in
    ap (λ ys. filter_map h (map g ys)) more
    ∙ (ap (filter_map h) (map-append g (take i xs) (x ∷ []))
    ∙ (filter_map-append h (map g (take i xs)) (g x ∷ []) ∙ ap (λ ys. filter_map h (map g (take i xs)) ++ ys) (given_one h (g x) o given)))

flat_append : {X Y : Type 0} (f : X → List Y) (xs : List X) (x : X) → flat_map f (xs ++ x ∷ []) ≡ flat_map f xs ++ f x
flat_append f [] x = append-nil (f x)
flat_append f (y ∷ ys) x = ap (λ zs. f y ++ zs) (flat_append f ys x) ∙ sym (append_assoc (f y) (flat_map f ys) (f x))

pub flat_more : {X Y : Type 0} (f : X → List Y) (xs : List X) (i : ℕ) (d : X) → i < length xs → flat_map f (take (i + 1) xs) ≡ flat_map f (take i xs) ++ f (get_or xs i d)
flat_more f xs i d lt = ap (flat_map f) (take_more xs i d lt) ∙ flat_append f (take i xs) (get_or xs i d)

-- the bodies at a place

pub bodies_there : (files : List Facts) (at : ℕ × ℕ) (file : Facts) (predicate : Predicate) → slice_get files at.0 ≡ Some file → slice_get file.defined at.1 ≡ Some predicate
    → bodies_at files at ≡ clause_bodies at.0 file.module_ predicate.clauses
bodies_there files at file predicate here there = ap (file_bodies at.0 at.1) here ∙ ap (part_bodies at.0 file.module_) there

-- what is met in the bodies of clauses

module _ (T : Rows) where
  given_met : (file : ℕ) (owner : List ℕ) (clause : Tree) (m : Met) (o : Option Place) → body_of owner clause ≡ o → IsGiven (IsMetInBody T) (option_map (body_in file) o) m
      → (IsMetInClause T) owner clause m
  given_met file owner clause m None is given = absurd (none-some given.one given.is)
  given_met file owner clause m (Some body) is given =
      let same : body_in file body ≡ given.one = same_Some (body_in file body) given.one given.is in
      record { body = body; is = is; met = subst (λ (b : Body). (IsMetInBody T) b m) (sym same) given.holds }

  met_given : (file : ℕ) (owner : List ℕ) (clause : Tree) (m : Met) → (IsMetInClause T) owner clause m → IsGiven (IsMetInBody T) (option_map (body_in file) (body_of owner clause)) m
  met_given file owner clause m met = record { one = body_in file met.body; is = ap (option_map (body_in file)) met.is; holds = met.met }

  pub clauses_met : (file : ℕ) (owner : List ℕ) (clauses : List Tree) (m : Met) → IsAmong (IsMetInBody T) (clause_bodies file owner clauses) m ↔ IsAmong ((IsMetInClause T) owner) clauses m
  clauses_met file owner clauses m =
      let body : Tree → Option Body = λ clause. option_map (body_in file) (body_of owner clause) in
      let given = among_given (IsMetInBody T) body clauses m in (
        λ among.
            among_as (λ clause. IsGiven (IsMetInBody T) (body clause)) ((IsMetInClause T) owner) clauses m
            (λ clause one. given_met file owner clause m (body_of owner clause) refl one) (given.0 among),
        λ among.
            given.1
            (among_as ((IsMetInClause T) owner) (λ clause. IsGiven (IsMetInBody T) (body clause)) clauses m (λ clause met. met_given file owner clause m met) among),
      )

  -- at a place

  no_body : {P : Body → Met → Type 0} (m : Met) → IsAmong P [] m → ⊥
  no_body m among = absurd (omega (arith, among.has.1))

  part_met : (files : List Facts) (at : ℕ × ℕ) (m : Met) (file : Facts) (o : Option Predicate) → slice_get files at.0 ≡ Some file → slice_get file.defined at.1 ≡ o
      → IsAmong (IsMetInBody T) (part_bodies at.0 file.module_ o) m → (IsMetAt T) files at m
  part_met files at m file None here there among = absurd (no_body m among)
  part_met files at m file (Some predicate) here there among = record {
    file = file;
    file_is = here;
    predicate = predicate;
    predicate_is = there;
    among = (clauses_met at.0 file.module_ predicate.clauses m).0 among;
  }

  file_met : (files : List Facts) (at : ℕ × ℕ) (m : Met) (o : Option Facts) → slice_get files at.0 ≡ o → IsAmong (IsMetInBody T) (file_bodies at.0 at.1 o) m → (IsMetAt T) files at m
  file_met files at m None here among = absurd (no_body m among)
  file_met files at m (Some file) here among = part_met files at m file (slice_get file.defined at.1) here refl among

  pub place_met : (files : List Facts) (at : ℕ × ℕ) (m : Met) → IsAmong (IsMetInBody T) (bodies_at files at) m ↔ (IsMetAt T) files at m
  place_met files at m = (
    λ among. file_met files at m (slice_get files at.0) refl among,
    λ met.
        subst (λ (bodies : List Body). IsAmong (IsMetInBody T) bodies m) (sym (bodies_there files at met.file met.predicate met.file_is met.predicate_is))
        ((clauses_met at.0 met.file.module_ met.predicate.clauses m).1 met.among),
  )

-- and all of them are of its file

clause_file : (file : ℕ) (owner : List ℕ) (clauses : List Tree) (body : Body) → Contains (clause_bodies file owner clauses) body → body.file ≡ file
clause_file file owner clauses body has =
    let h : Tree → Option Body = λ clause. option_map (body_in file) (body_of owner clause) in
    let given = (among_given (λ (x : Body) (y : Body). x ≡ y) h clauses body).0 (record { one = body; has = has; is = refl }) in
    by_body (body_of owner given.one) (given.is.is ∙ ap (λ b. Some b) given.is.holds)
  where
    by_body : (o : Option Place) → option_map (body_in file) o ≡ Some body → body.file ≡ file
    by_body (Some at) is = sym (ap (λ (b : Body). b.file) (same_Some (body_in file at) body is))
    by_body None is = absurd (none-some body is)

part_file : (file : ℕ) (owner : List ℕ) (o : Option Predicate) (body : Body) → Contains (part_bodies file owner o) body → body.file ≡ file
part_file file owner (Some predicate) body has = clause_file file owner predicate.clauses body has
part_file file owner None body has = absurd (omega (arith, has.1))

file_file : (file part : ℕ) (o : Option Facts) (body : Body) → Contains (file_bodies file part o) body → body.file ≡ file
file_file file part (Some facts) body has = part_file file facts.module_ (slice_get facts.defined part) body has
file_file file part None body has = absurd (omega (arith, has.1))

pub body_file : (files : List Facts) (at : ℕ × ℕ) (body : Body) → Contains (bodies_at files at) body → body.file ≡ at.0
body_file files at body has = file_file at.0 at.1 (slice_get files at.0) body has

-- in a predicate
pub node_met : (seen : Seen) (node : ℕ) (m : Met) → IsAmong (IsMetInBody (rows_of seen)) (bodies_in seen node) m ↔ IsMetIn seen node m
node_met seen node m =
    let files = seen.loaded.files in
    let places = places_in seen node in
    let flat = among_flat (IsMetInBody (rows_of seen)) (bodies_at files) places m in (
      λ among. among_as (λ at. IsAmong (IsMetInBody (rows_of seen)) (bodies_at files at)) ((IsMetAt (rows_of seen)) files) places m (λ at. (place_met (rows_of seen) files at m).0) (flat.0 among),
      λ met. flat.1 (among_as ((IsMetAt (rows_of seen)) files) (λ at. IsAmong (IsMetInBody (rows_of seen)) (bodies_at files at)) places m (λ at. (place_met (rows_of seen) files at m).1) met),
    )

-- each place of a predicate is one of a file and of a part of it
pub record IsThere (files : List Facts) (at : ℕ × ℕ) : Type 0 where
  pub file : Facts
  pub predicate : Predicate
  pub at_place : slice_get files at.0 ≡ Some file
  pub at_part : slice_get file.defined at.1 ≡ Some predicate

pub places_there : (seen : Seen) (node : ℕ) (at : ℕ × ℕ) → Contains (places_in seen node) at → IsThere seen.loaded.files at
unfolding places_in
places_there seen node at has = by_name (slice_get seen.predicates node) has
  where
    by_name : (o : Option _) → Contains (places_at seen.loaded.files o) at → IsThere seen.loaded.files at
    by_name (Some p) there =
        let is = place_stands seen.loaded.files p at there in
        record { file = is.file; predicate = is.predicate; at_place = is.at_place; at_part = is.at_part }
    by_name None there = absurd (omega (arith, there.1))
