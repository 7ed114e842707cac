-- What a program is seen as, by its fields.
use Rattle.std.proofs.lemmas.List.Elements.{All-contains}
use Rattle.std.proofs.Common.{◌≡◌, All, Option, ℕ, ◌+◌, ◌<◌, ◌≤◌, List, [], Some, None, true, false, Contains, length, get_or, refl, sym, ap, subst, ◌∙◌, arith}
use Rattle.std.specs.Prelude.{slice_get, MatchOption}
use Rattle.std.specs.List.{list_any}
use Rattle.std.proofs.lemmas.List.{length-map, get_or-map}
use Rattle.std.proofs.lemmas.Option.{slice_get-get_or, slice_get_within, get_or_from_slice_get}
use Rattle.list_laws.proofs.Members.{stands_in}
use Rattle.prolog_names.specs.Names.{name_at}
use Rattle.prolog_terms.proofs.ViewLemmas.{some_once}
use Rattle.module_table.specs.declared.file_facts.FileFacts.{FileFacts}
use Rattle.file_library.specs.SortedOut.{see_loaded}
use Rattle.import_rules.specs.declared.names.PredName.{PredName}
use Rattle.import_rules.specs.declared.shared_names.Exporter.{Exporter}
use Rattle.import_rules.specs.declared.places.Places.{Places}
use Rattle.import_rules.specs.declared.program_tables.ProgramTables.{ProgramTables}
use Rattle.import_rules.specs.Names.{is_same, pred_name}
use Rattle.import_rules.specs.Meanings.{IsNotOffered, IsShared}
use Rattle.import_rules.specs.SharedNames.{exporters_at}
use Rattle.import_rules.specs.TakenModules.{IsTaken, marked_at, module_name}
use Rattle.import_rules.proofs.Marks.{no_index, one_index}
use Rattle.import_rules.specs.Find.{found_in, first_source, number_of, or_found}
use Rattle.import_rules.specs.Numbers.{places_for, parts_in, see_places}
use Rattle.import_rules.specs.OwnNames.{kept_at, own_name}
use Rattle.import_rules.specs.Parts.{name_of_places, names_at}
use Rattle.import_rules.specs.declared.resolve.TheConstants.{MOST_PREDICATES}
use Rattle.import_rules.specs.Files.{AreNumbered}
use Rattle.import_rules.specs.Flaws.{AreFlaws}
use Rattle.import_rules.proofs.Lists.{any_there}
use Rattle.import_rules.proofs.NameOrder.{same_itself}
use Rattle.import_rules.proofs.NumberLemmas.{number_at}
use Rattle.import_rules.specs.Program.{see_program, places_in, places_at, found, IsProgram}

pub loaded_is : (p : ProgramTables) → (see_program p).loaded ≡ see_loaded p.loaded
unfolding see_program
loaded_is p = refl

pub predicates_are : (p : ProgramTables) → (see_program p).predicates ≡ names_at p.loaded.files.items p.places.items
unfolding see_program
predicates_are p = refl

pub count_is : (p : ProgramTables) → length p.places.items ≡ length (see_program p).predicates
unfolding see_program
count_is p = sym (length-map p.places.items (name_of_places p.loaded.files.items))

-- the first of the names that files offer isn't there
pub not_offered : (p : ProgramTables) (wanted : PredName) → list_any (is_same (pred_name [] wanted.name wanted.arity)) p.imports.offered ≡ false
    → IsNotOffered (see_program p).predicates p.imports wanted
not_offered p wanted apart n q here is has = no_index p.imports.offered (pred_name [] wanted.name wanted.arity) n apart here

-- it is offered by a module that isn't taken
pub not_taken : (p : ProgramTables) (wanted : PredName) (at : ℕ) (q : PredName) → slice_get p.imports.offered at ≡ Some (pred_name [] wanted.name wanted.arity)
    → slice_get (see_program p).predicates (get_or p.imports.sources.items at 0) ≡ Some q → (IsTaken p.imports.taken wanted.module q.module → ⊥)
    → IsNotOffered (see_program p).predicates p.imports wanted
not_taken p wanted at q here is apart n r there so has =
    let one : n ≡ at = one_index p.imports.offered (pred_name [] wanted.name wanted.arity) n at p.meant.in_order there here in
    let same : r ≡ q = some_once (sym so ∙ ap (λ k. slice_get (see_program p).predicates (get_or p.imports.sources.items k 0)) one ∙ is) in
    apart (subst (λ (s : PredName). IsTaken p.imports.taken wanted.module s.module) same has)

-- it is offered by a module that is taken
pub taken_at : (p : ProgramTables) (owner name : List ℕ) (arity at : ℕ) (q : PredName) → list_any (is_same (pred_name owner name arity)) (see_program p).predicates ≡ false
    → slice_get p.imports.offered at ≡ Some (pred_name [] name arity) → slice_get (see_program p).predicates (get_or p.imports.sources.items at 0) ≡ Some q
    → IsTaken p.imports.taken owner q.module → found (see_program p) owner name arity ≡ Some (get_or p.imports.sources.items at 0)
unfolding found see_program
taken_at p owner name arity at q other here is has = p.meant.taken at (pred_name owner name arity) q other here is has

-- one of those who export it is a module that is taken
pub shared_at : (p : ProgramTables) (owner name : List ℕ) (arity : ℕ) (exporter : Exporter) → list_any (is_same (pred_name owner name arity)) (see_program p).predicates ≡ false
    → IsShared p.imports (pred_name owner name arity) exporter → found (see_program p) owner name arity ≡ Some exporter.source
unfolding found see_program
shared_at p owner name arity exporter other is = p.meant.shared (pred_name owner name arity) exporter other is

-- none of them is
pub unfound : (p : ProgramTables) (owner name : List ℕ) (arity : ℕ) → list_any (is_same (pred_name owner name arity)) (see_program p).predicates ≡ false
    → list_any (is_same (pred_name owner name arity)) p.imports.names ≡ false → IsNotOffered (see_program p).predicates p.imports (pred_name owner name arity)
    → ((exporter : Exporter) → IsShared p.imports (pred_name owner name arity) exporter → ⊥) → found (see_program p) owner name arity ≡ None
unfolding found see_program
unfound p owner name arity other none first not_shared = p.meant.unnamed (pred_name owner name arity) other none first not_shared

-- what the walk over those who export a name answers is what is found
pub walked : (p : ProgramTables) (owner name : List ℕ) (arity at user : ℕ) (r : Option ℕ) → list_any (is_same (pred_name owner name arity)) (see_program p).predicates ≡ false
    → list_any (is_same (pred_name owner name arity)) p.imports.names ≡ false → IsNotOffered (see_program p).predicates p.imports (pred_name owner name arity)
    → slice_get p.imports.shared.names at ≡ Some (pred_name [] name arity) → slice_get p.imports.taken.modules user ≡ Some (module_name owner)
    → MatchOption r (All (λ (e : Exporter). marked_at p.imports.taken.rows.items user e.from ≡ false) (exporters_at p.imports.shared.exporters.items at))
    (λ source. (e : Exporter) × Contains (exporters_at p.imports.shared.exporters.items at) e × (e.source ≡ source) × (marked_at p.imports.taken.rows.items user e.from ≡ true))
    → r ≡ found (see_program p) owner name arity
walked p owner name arity at user None other none first named is_user apart =
    sym
    (unfound p owner name arity other none first
    (λ e is.
    let place : is.at ≡ at = one_index p.imports.shared.names (pred_name [] name arity) is.at at p.meant.shared_in_order is.named named in
    let own : is.user ≡ user = one_index p.imports.taken.modules (module_name owner) is.user user p.meant.modules_in_order is.is_user is_user in
    let there : Contains (exporters_at p.imports.shared.exporters.items at) e = subst (λ n. Contains (exporters_at p.imports.shared.exporters.items n) e) place is.there in
    let both : true ≡ false =
    sym is.is_taken ∙ (λ j. marked_at p.imports.taken.rows.items (own j) e.from)
    ∙ All-contains (λ (k : Exporter). marked_at p.imports.taken.rows.items user k.from ≡ false) (exporters_at p.imports.shared.exporters.items at) e apart there in
    cc))
walked p owner name arity at user (Some source) other none first named is_user (e, there, is, taken) =
    sym
    (shared_at p owner name arity e other (record { at = at; user = user; named = named; there = there; is_user = is_user; is_taken = taken })
    ∙ ap (λ n. Some n) is)

pub source_below : (p : ProgramTables) (at : ℕ) → at < length p.imports.offered → get_or p.imports.sources.items at 0 < length (see_program p).predicates
unfolding see_program
source_below p at within = p.meant.below at within

pub found_at : (p : ProgramTables) (owner name : List ℕ) (arity at : ℕ) → slice_get p.imports.names at ≡ Some (pred_name owner name arity)
    → found (see_program p) owner name arity ≡ Some (get_or p.imports.targets.items at 0)
unfolding found see_program
found_at p owner name arity at is =
    let wanted = pred_name owner name arity in
    ap (found_in (see_loaded p.loaded).files (names_at p.loaded.files.items p.places.items)) (sym (get_or_from_slice_get p.imports.names at wanted wanted is))
    ∙ p.meant.named at wanted (slice_get_within p.imports.names at wanted is)

-- what is kept of a name is what is found of it
pub kept_found : (p : ProgramTables) (place number node arity : ℕ) (file : FileFacts) (owner name : List ℕ) → slice_get p.loaded.files.items place ≡ Some file
    → (kept_at p.own_names.lists.items place number).after ≡ node + 1 → (kept_at p.own_names.lists.items place number).arity ≡ arity
    → name_at file.names number ≡ name → owner ≡ file.module → found (see_program p) owner name arity ≡ Some node
unfolding found see_program
kept_found p place number node arity file owner name at_place after many spelled home =
    let wanted : own_name file number (kept_at p.own_names.lists.items place number).arity ≡ pred_name owner name arity =
    λ i. pred_name (sym home i) (spelled i) (many i) in
    let predicates = names_at p.loaded.files.items p.places.items in
    ap (λ own. or_found predicates own (first_source (see_loaded p.loaded).files (pred_name owner name arity)))
    (ap (number_of predicates) (sym wanted) ∙ p.own_kept place number node file at_place after)

-- the name that is read of the predicate of a number
pub name_there : (p : ProgramTables) (node : ℕ) (v : Places) (name : PredName) → node < length (see_program p).predicates → v ≡ get_or p.places.items node v
    → name ≡ name_of_places p.loaded.files.items v → slice_get (see_program p).predicates node ≡ Some name
unfolding see_program
name_there p node v name below is read =
    let own = name_of_places p.loaded.files.items in
    slice_get-get_or (names_at p.loaded.files.items p.places.items) node name below
    ∙ ap (λ q. Some q)
    (get_or-map own p.places.items node v name (omega (arith, below, count_is p)) ∙ ap own (sym is) ∙ sym read)

pub places_there : (p : ProgramTables) (node : ℕ) (v : Places) → node < length (see_program p).predicates → v ≡ get_or p.places.items node v
    → see_places v ≡ places_in (see_program p) node
unfolding see_program places_in
places_there p node v below is =
    let d : PredName = pred_name [] [] 0 in
    let parts = parts_in (see_loaded p.loaded).files in
    let predicates = names_at p.loaded.files.items p.places.items in
    ap see_places is
    ∙ sym (get_or-map see_places p.places.items node v [] (omega (arith, below, count_is p)))
    ∙ ap (λ (xs : List (List (ℕ × ℕ))). get_or xs node []) p.placed
    ∙ get_or-map (places_for parts) predicates node d [] below
    ∙ ap (places_at (see_loaded p.loaded).files) (sym (slice_get-get_or predicates node d below))

pub is_program : (p : ProgramTables) → AreNumbered (see_loaded p.loaded).files (names_at p.loaded.files.items p.places.items)
    → length p.places.items ≤ MOST_PREDICATES → AreFlaws (see_loaded p.loaded).files (see_loaded p.loaded).absent [] → IsProgram (see_loaded p.loaded) (see_program p)
unfolding see_program
is_program p numbered few sound = record {
  is = refl;
  numbered = numbered;
  few = omega (arith, few, count_is p);
  sound = sound;
}
