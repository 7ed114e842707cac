-- A program of plain trees calls what the program calls, with the same faults, roots and names that mean nothing.
use Rattle.std.proofs.Common.{◌≡◌, ◌⊎◌, ◌↔◌, inl, inr, ℕ, Bool, true, false, List, [], ◌∷◌, Option, Some, None, map, option_map, slice_get, refl, sym, ap, ◌∙◌, subst}
use Rattle.std.proofs.lemmas.Option.{slice_get-map}
use Rattle.list_laws.proofs.Members.{map_has, map_from}
use Rattle.prolog_terms.specs.Tree.{Tree}
use Rattle.prolog_terms.proofs.ViewLemmas.{some_once, some_none}
use Rattle.module_table.specs.declared.indicator.Indicator.{Indicator}
use Rattle.module_table.specs.Defined.{Predicate}
use Rattle.module_table.specs.Facts.{Facts}
use Rattle.file_library.specs.declared.fault.Fault.{Fault}
use Rattle.import_rules.specs.declared.names.PredName.{PredName}
use Rattle.import_rules.specs.Program.{Seen, places_in, found}
use Rattle.call_edges.specs.Bodies.{Body, bodies_at}
use Rattle.call_edges.specs.Calls.{IsMetInClause, IsAmong, IsMetAt, IsMetIn, IsMetInGoals, target, GoesTo, NodeCalls}
use Rattle.call_edges.specs.CallPlaces.{CallAt, IsCallBy, IsCalledIn, IsCallOf, met_of}
use Rattle.call_edges.specs.FileOrder.{first_offset, offset_in, offset_at, place_number, first_start, start_in}
use Rattle.call_edges.specs.Goals.{Met, call, fault, row, Rows}
use Rattle.call_edges.specs.GoalFaults.{IsMetInFile, IsGoalFault}
use Rattle.call_edges.specs.ProgramRows.{rows_of, standing_by}
use Rattle.call_edges.specs.Roots.{IsExportOf, Gives, IsGivenByRoot, IsCalledByGoal, IsRoot}
use Rattle.call_edges.specs.Unresolved.{IsUnresolved}
use Rattle.call_edges.proofs.AmongLemmas.{among_as, among_map, among_flat}
use Rattle.call_edges.proofs.BodyLemmas.{place_met, body_file}
use Rattle.kept_clauses.specs.Plain.{plain}
use Rattle.plain_clauses.specs.PlainFacts.{plain_predicate, plain_facts}
use Rattle.plain_clauses.specs.PlainProgram.{plain_seen}
use Rattle.plain_clauses.proofs.PlainMets.{plain_met}
use Rattle.plain_clauses.proofs.PlainNames.{found_same, places_same, meta_same}
use Rattle.plain_clauses.proofs.PlainSaid.{start_same}

-- what is read of a list that a function gives
record IsRead {X Y : Type 0} (f : X → Y) (xs : List X) (i : ℕ) (y : Y) : Type 0 where
  one : X
  there : slice_get xs i ≡ Some one
  is : f one ≡ y

read_given : {X Y : Type 0} (f : X → Y) (xs : List X) (i : ℕ) (y : Y) → slice_get (map f xs) i ≡ Some y → IsRead f xs i y
read_given {X} {Y} f xs i y at = by_read (slice_get xs i) refl (sym (slice_get-map f xs i) ∙ at)
  where
    by_read : (o : Option X) → slice_get xs i ≡ o → option_map f o ≡ Some y → IsRead f xs i y
    by_read (Some one) here is = record { one = one; there = here; is = some_once is }
    by_read None here is = absurd (some_none y (sym is))

given_read : {X Y : Type 0} (f : X → Y) (xs : List X) (i : ℕ) (x : X) → slice_get xs i ≡ Some x → slice_get (map f xs) i ≡ Some (f x)
given_read f xs i x at = slice_get-map f xs i ∙ ap (option_map f) at

-- what is met in clauses

module _ (T : Rows) (owner : List ℕ) where
  clauses_met : (clauses : List Tree) (m : Met) → IsAmong (IsMetInClause T owner) (map plain clauses) m ↔ IsAmong (IsMetInClause T owner) clauses m
  clauses_met clauses m =
      let mapped = among_map (IsMetInClause T owner) plain clauses m in (
        λ among. among_as (λ tree. IsMetInClause T owner (plain tree)) (IsMetInClause T owner) clauses m (λ tree. (plain_met T owner tree m).0) (mapped.0 among),
        λ among. mapped.1 (among_as (IsMetInClause T owner) (λ tree. IsMetInClause T owner (plain tree)) clauses m (λ tree. (plain_met T owner tree m).1) among),
      )

module _ (T : Rows) where
  met_at_plain : (files : List Facts) (at : ℕ × ℕ) (m : Met) → IsMetAt T files at m → IsMetAt T (map plain_facts files) at m
  met_at_plain files at m met = record {
    file = plain_facts met.file;
    file_is = given_read plain_facts files at.0 met.file met.file_is;
    predicate = plain_predicate met.predicate;
    predicate_is = given_read plain_predicate met.file.defined at.1 met.predicate met.predicate_is;
    among = (clauses_met T met.file.module_ met.predicate.clauses m).1 met.among;
  }

  plain_met_at : (files : List Facts) (at : ℕ × ℕ) (m : Met) → IsMetAt T (map plain_facts files) at m → IsMetAt T files at m
  plain_met_at files at m met =
      let file = read_given plain_facts files at.0 met.file met.file_is in
      let own : Facts = file.one in
      let there : slice_get (map plain_predicate own.defined) at.1 ≡ Some met.predicate =
      subst (λ (f : Facts). slice_get f.defined at.1 ≡ Some met.predicate) (sym file.is) met.predicate_is in
      let among : IsAmong (IsMetInClause T own.module_) met.predicate.clauses m =
      subst (λ (f : Facts). IsAmong (IsMetInClause T f.module_) met.predicate.clauses m) (sym file.is) met.among in
      let predicate = read_given plain_predicate own.defined at.1 met.predicate there in
      let kept : Predicate = predicate.one in
      record {
        file = own;
        file_is = file.there;
        predicate = kept;
        predicate_is = predicate.there;
        among =
            (clauses_met T own.module_ kept.clauses m).0
            (subst (λ (p : Predicate). IsAmong (IsMetInClause T own.module_) p.clauses m) (sym predicate.is) among);
      }

  -- what is met in a file
  file_met : (file : Facts) (m : Met) → IsMetInFile T (plain_facts file) m ↔ IsMetInFile T file m
  file_met file m =
      let P : Predicate → Met → Type 0 = λ p. IsAmong (IsMetInClause T file.module_) p.clauses in
      let Q : Predicate → Met → Type 0 = λ p. P (plain_predicate p) in
      let mapped = among_map P plain_predicate file.defined m in (
        λ met.
            elim met [
              | inl clause ↦ inl (among_as Q P file.defined m (λ p. (clauses_met T file.module_ p.clauses m).0) (mapped.0 clause))
              | inr goal ↦ inr goal
            ],
        λ met.
            elim met [
              | inl clause ↦ inl (mapped.1 (among_as P Q file.defined m (λ p. (clauses_met T file.module_ p.clauses m).1) clause))
              | inr goal ↦ inr goal
            ],
      )

-- a program

module _ (seen : Seen) where
  abbrev other : Seen
  other = plain_seen seen

  pub rows_same : rows_of other ≡ rows_of seen
  rows_same = λ i owner name arity. standing_by (row name arity) (meta_same seen owner name arity i)

  abbrev files_of : List Facts
  files_of = seen.loaded.files

  met_there : (at : ℕ × ℕ) (m : Met) → IsMetAt (rows_of other) (map plain_facts files_of) at m ↔ IsMetAt (rows_of seen) files_of at m
  met_there at m = (
    λ met. plain_met_at (rows_of seen) files_of at m (subst (λ T. IsMetAt T (map plain_facts files_of) at m) rows_same met),
    λ met. subst (λ T. IsMetAt T (map plain_facts files_of) at m) (sym rows_same) (met_at_plain (rows_of seen) files_of at m met),
  )

  pub node_met : (node : ℕ) (m : Met) → IsMetIn other node m ↔ IsMetIn seen node m
  node_met node m =
      let P : ℕ × ℕ → Met → Type 0 = IsMetAt (rows_of other) (map plain_facts files_of) in
      let Q : ℕ × ℕ → Met → Type 0 = IsMetAt (rows_of seen) files_of in (
        λ met. among_as P Q (places_in seen node) m (λ at. (met_there at m).0) (subst (λ places. IsAmong P places m) (places_same seen node) met),
        λ met. subst (λ places. IsAmong P places m) (sym (places_same seen node)) (among_as Q P (places_in seen node) m (λ at. (met_there at m).1) met),
      )

  pub target_same : (m : Met) → target other m ≡ target seen m
  target_same (call at owner name arity more negated) = found_same seen owner name arity
  target_same (fault at) = refl

  -- what goes to a predicate
  goes : (P Q : Met → Type 0) → ((m : Met) → P m ↔ Q m) → (q : ℕ) → GoesTo other P q ↔ GoesTo seen Q q
  goes P Q same q = (
    λ goes. record { met = goes.met; is = (same goes.met).0 goes.is; goes = sym (target_same goes.met) ∙ goes.goes },
    λ goes. record { met = goes.met; is = (same goes.met).1 goes.is; goes = target_same goes.met ∙ goes.goes },
  )

  pub calls_same : (p q : ℕ) → NodeCalls other p q ↔ NodeCalls seen p q
  calls_same p q = goes (IsMetIn other p) (IsMetIn seen p) (node_met p) q

  pub unresolved_same : (node : ℕ) (name : PredName) → IsUnresolved other node name ↔ IsUnresolved seen node name
  unresolved_same node name =
      let same = found_same seen name.module name.name name.arity in (
        λ is. record {
          at = is.at;
          added = is.added;
          negated = is.negated;
          met = (node_met node (call is.at name.module name.name name.arity is.added is.negated)).0 is.met;
          means_none = sym same ∙ is.means_none;
        },
        λ is. record {
          at = is.at;
          added = is.added;
          negated = is.negated;
          met = (node_met node (call is.at name.module name.name name.arity is.added is.negated)).1 is.met;
          means_none = same ∙ is.means_none;
        },
      )

  -- goals that aren't callable

  file_met_same : (file : Facts) (m : Met) → IsMetInFile (rows_of other) (plain_facts file) m ↔ IsMetInFile (rows_of seen) file m
  file_met_same file m = (
    λ met. (file_met (rows_of seen) file m).0 (subst (λ T. IsMetInFile T (plain_facts file) m) rows_same met),
    λ met. subst (λ T. IsMetInFile T (plain_facts file) m) (sym rows_same) ((file_met (rows_of seen) file m).1 met),
  )

  pub faults_same : (one : Fault) → IsGoalFault other one ↔ IsGoalFault seen one
  faults_same one = (to, from)
    where
      to : IsGoalFault other one → IsGoalFault seen one
      to is =
          let file = map_from plain_facts files_of is.file is.has_file in
          let own : Facts = file.0 in
          let met : IsMetInFile (rows_of other) (plain_facts own) (fault one.offset) =
          subst (λ f. IsMetInFile (rows_of other) f (fault one.offset)) (sym file.2) is.met in
          record {
            file = own;
            has_file = file.1;
            named = is.named ∙ ap (λ (f : Facts). f.file) (sym file.2);
            met = (file_met_same own (fault one.offset)).0 met;
            cause = is.cause;
            text = is.text;
            has_text = is.has_text;
            stands = is.stands;
          }

      from : IsGoalFault seen one → IsGoalFault other one
      from is = record {
        file = plain_facts is.file;
        has_file = map_has plain_facts files_of is.file is.has_file;
        named = is.named;
        met = (file_met_same is.file (fault one.offset)).1 is.met;
        cause = is.cause;
        text = is.text;
        has_text = is.has_text;
        stands = is.stands;
      }

  -- roots

  exports_same : (file : Facts) (q : ℕ) → IsAmong (IsExportOf other file.module_) file.exports q ↔ IsAmong (IsExportOf seen file.module_) file.exports q
  exports_same file q = (
    among_as (IsExportOf other file.module_) (IsExportOf seen file.module_) file.exports q (λ (i : Indicator) is. sym (found_same seen file.module_ i.name i.arity) ∙ is),
    among_as (IsExportOf seen file.module_) (IsExportOf other file.module_) file.exports q (λ (i : Indicator) is. found_same seen file.module_ i.name i.arity ∙ is),
  )

  abbrev Means : Seen → Predicate → ℕ → Type 0
  Means whole p n = found whole p.module_ p.name p.arity ≡ Some n

  defined_same : (file : Facts) (q : ℕ) → IsAmong (Means other) (map plain_predicate file.defined) q ↔ IsAmong (Means seen) file.defined q
  defined_same file q =
      let mapped = among_map (Means other) plain_predicate file.defined q in
      let Given : Predicate → ℕ → Type 0 = λ p. Means other (plain_predicate p) in (
        λ among. among_as Given (Means seen) file.defined q (λ (p : Predicate) is. sym (found_same seen p.module_ p.name p.arity) ∙ is) (mapped.0 among),
        λ among. mapped.1 (among_as (Means seen) Given file.defined q (λ (p : Predicate) is. found_same seen p.module_ p.name p.arity ∙ is) among),
      )

  gives_same : (file : Facts) (is_module : Bool) (q : ℕ) → Gives other (plain_facts file) is_module q ↔ Gives seen file is_module q
  gives_same file true q = exports_same file q
  gives_same file false q = defined_same file q

  goal_calls_same : (file : Facts) (q : ℕ) → IsCalledByGoal other (plain_facts file) q ↔ IsCalledByGoal seen file q
  goal_calls_same file q =
      goes (IsMetInGoals (rows_of other) (plain_facts file)) (IsMetInGoals (rows_of seen) file)
      (λ m. (λ met. subst (λ T. IsMetInGoals T file m) rows_same met, λ met. subst (λ T. IsMetInGoals T file m) (sym rows_same) met)) q

  abbrev Makes : Seen → Facts → ℕ → Type 0
  Makes whole file n = IsGivenByRoot whole file n ⊎ IsCalledByGoal whole file n

  makes_same : (file : Facts) (q : ℕ) → Makes other (plain_facts file) q ↔ Makes seen file q
  makes_same file q = (
    λ makes.
        elim makes [
          | inl given ↦ inl (record { is_root = given.is_root; gives = (gives_same file file.is_module q).0 given.gives })
          | inr called ↦ inr ((goal_calls_same file q).0 called)
        ],
    λ makes.
        elim makes [
          | inl given ↦ inl (record { is_root = given.is_root; gives = (gives_same file file.is_module q).1 given.gives })
          | inr called ↦ inr ((goal_calls_same file q).1 called)
        ],
  )

  pub roots_same : (q : ℕ) → IsRoot other q ↔ IsRoot seen q
  roots_same q =
      let mapped = among_map (Makes other) plain_facts files_of q in
      let Given : Facts → ℕ → Type 0 = λ file. Makes other (plain_facts file) in (
        λ root. among_as Given (Makes seen) files_of q (λ file. (makes_same file q).0) (mapped.0 root),
        λ root. mapped.1 (among_as (Makes seen) Given files_of q (λ file. (makes_same file q).1) root),
      )

-- calls with their places

-- at a place of the files, the call stands in a clause of the predicate that is defined there
abbrev IsCallThere : Seen → ℕ → ℕ × ℕ → CallAt → Type 0
IsCallThere seen caller at c = IsCallBy seen at.0 caller (IsMetAt (rows_of seen) seen.loaded.files at) c

module _ (seen : Seen) (caller : ℕ) where
  call_there : (at : ℕ × ℕ) (c : CallAt) → IsAmong (IsCalledIn seen caller) (bodies_at seen.loaded.files at) c ↔ IsCallThere seen caller at c
  call_there at c =
      let bodies = bodies_at seen.loaded.files at in
      let met = place_met (rows_of seen) seen.loaded.files at (met_of c) in (
        λ among. record {
          in_file = among.is.in_file ∙ body_file seen.loaded.files at among.one among.has;
          caller_is = among.is.caller_is;
          means_is = among.is.means_is;
          met = met.0 (record { one = among.one; has = among.has; is = among.is.met });
        },
        λ there.
            let among = met.1 there.met in
            let body : Body = among.one in
            record {
              one = body;
              has = among.has;
              is = record {
                in_file = there.in_file ∙ sym (body_file seen.loaded.files at body among.has);
                caller_is = there.caller_is;
                means_is = there.means_is;
                met = among.is;
              };
            },
      )

  call_of : (c : CallAt) → IsCallOf seen caller c ↔ IsAmong (IsCallThere seen caller) (places_in seen caller) c
  call_of c =
      let flat = among_flat (IsCalledIn seen caller) (bodies_at seen.loaded.files) (places_in seen caller) c in
      let InBodies : ℕ × ℕ → CallAt → Type 0 = λ at. IsAmong (IsCalledIn seen caller) (bodies_at seen.loaded.files at) in (
        λ is. among_as InBodies (IsCallThere seen caller) (places_in seen caller) c (λ at. (call_there at c).0) (flat.0 is),
        λ there. flat.1 (among_as (IsCallThere seen caller) InBodies (places_in seen caller) c (λ at. (call_there at c).1) there),
      )

module _ (seen : Seen) where
  there_same : (caller : ℕ) (at : ℕ × ℕ) (c : CallAt) → IsCallThere (plain_seen seen) caller at c ↔ IsCallThere seen caller at c
  there_same caller at c =
      let same = found_same seen c.callee.module c.callee.name c.callee.arity in (
        λ is. record { in_file = is.in_file; caller_is = is.caller_is; means_is = is.means_is ∙ same; met = (met_there seen at (met_of c)).0 is.met },
        λ is. record { in_file = is.in_file; caller_is = is.caller_is; means_is = is.means_is ∙ sym same; met = (met_there seen at (met_of c)).1 is.met },
      )

  pub call_places_same : (caller : ℕ) (c : CallAt) → IsCallOf (plain_seen seen) caller c ↔ IsCallOf seen caller c
  call_places_same caller c =
      let P = IsCallThere (plain_seen seen) caller in
      let Q = IsCallThere seen caller in (
        λ is.
            (call_of seen caller c).1
            (among_as P Q (places_in seen caller) c (λ at. (there_same caller at c).0)
            (subst (λ places. IsAmong P places c) (places_same seen caller) ((call_of (plain_seen seen) caller c).0 is))),
        λ is.
            (call_of (plain_seen seen) caller c).1
            (subst (λ places. IsAmong P places c) (sym (places_same seen caller))
            (among_as Q P (places_in seen caller) c (λ at. (there_same caller at c).1) ((call_of seen caller c).0 is))),
      )

-- where predicates start

offset_same : (o : Option Predicate) → offset_in (option_map plain_predicate o) ≡ offset_in o
offset_same (Some predicate) = of_clauses predicate.clauses
  where
    of_clauses : (clauses : List Tree) → first_offset (map plain clauses) ≡ first_offset clauses
    of_clauses [] = refl
    of_clauses (clause ∷ clauses) = start_same clause
offset_same None = refl

file_offset_same : (part : ℕ) (o : Option Facts) → offset_at part (option_map plain_facts o) ≡ offset_at part o
file_offset_same part (Some file) = ap offset_in (slice_get-map plain_predicate file.defined part) ∙ offset_same (slice_get file.defined part)
file_offset_same part None = refl

first_start_same : (files : List Facts) (places : List (ℕ × ℕ)) → first_start (map plain_facts files) places ≡ first_start files places
first_start_same files [] = refl
first_start_same files (at ∷ places) =
    ap (place_number at.0) (ap (offset_at at.1) (slice_get-map plain_facts files at.0) ∙ file_offset_same at.1 (slice_get files at.0))

pub starts_same : (seen : Seen) (node : ℕ) → start_in (plain_seen seen) node ≡ start_in seen node
starts_same seen node =
    ap (λ place. (node, place))
    (ap (first_start (map plain_facts seen.loaded.files)) (places_same seen node) ∙ first_start_same seen.loaded.files (places_in seen node))
