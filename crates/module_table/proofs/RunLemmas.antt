-- The last of some runs, and one more clause of it.
use Rattle.std.proofs.Common.{◌≡◌, ◌≢◌, ◌==◌, ℕ, ◌<◌, ◌≤◌, ◌+◌, ◌-◌, Bool, true, false, ◌&&◌, nat_eq, List, [], ◌∷◌, ◌++◌, length, get_or, take, map, flat_map, ap, sym, subst, ◌∙◌, refl, arith, append_assoc, append-nil}
use Rattle.std.specs.Prelude.{slice_set}
use Rattle.std.specs.Bool.{OnTrue}
use Rattle.std.proofs.lemmas.Bool.{and_parts}
use Rattle.std.proofs.lemmas.Bool.Decides.{Decides-eqb}
use Rattle.std.proofs.lemmas.Grind.{flat_map-append}
use Rattle.std.proofs.lemmas.List.{take_all, take_more, take_more_set, length-set, map-append}
use Rattle.prolog_names.specs.Names.{name_at}
use Rattle.clause_text.specs.declared.text_clauses.Clause.{Clause}
use Rattle.clause_text.specs.Clauses.{clause_tree, clause_trees}
use Rattle.module_table.specs.declared.defined.Defined.{Defined}
use Rattle.module_table.specs.Defined.{EndIn, kept_clauses, defined_by, defined_by_all, see_run}

pub none_there : (runs : List Defined) → length runs ≤ 0 → runs ≡ []
none_there [] none = refl
none_there (run ∷ runs) none = absurd (omega arith)

module _ (runs : List Defined) (count : ℕ) (run : Defined) (counted : count ≡ length runs) (some : 0 < length runs) where
  -- the last one, with those before it
  pub last_there : run ≡ get_or runs (count - 1) run → runs ≡ take (count - 1) runs ++ run ∷ []
  last_there is =
      sym (take_all (count - 1 + 1) runs (omega arith))
      ∙ (take_more runs (count - 1) run (omega arith) ∙ ap (λ r. take (count - 1) runs ++ r ∷ []) (sym is))

  -- another one in its place
  pub last_changed : slice_set runs (count - 1) run ≡ take (count - 1) runs ++ run ∷ []
  last_changed =
      sym (take_all (count - 1 + 1) (slice_set runs (count - 1) run) (omega (arith, length-set runs (count - 1) run)))
      ∙ take_more_set runs (count - 1) run (omega arith)

-- what the runs define, and then the last one
pub all_then : (names : List (List ℕ)) (before : List Defined) (run : Defined) → flat_map (see_run names) (before ++ run ∷ []) ≡ flat_map (see_run names) before ++ see_run names run
all_then names before run = flat_map-append (see_run names) before (run ∷ []) ∙ ap (λ ds. flat_map (see_run names) before ++ ds) (append-nil (see_run names run))

-- one more clause of a run with clauses
one_more : (names : List (List ℕ)) (owner name : List ℕ) (arity : ℕ) (clauses : List Clause) (clause : Clause) → clauses ≢ []
    → defined_by_all owner name arity (clause_trees names (clauses ++ clause ∷ [])) ≡ defined_by_all owner name arity (clause_trees names clauses) ++ defined_by owner name arity (clause_tree names clause) ∷ []
one_more names owner name arity [] clause some = absurd (some refl)
one_more names owner name arity (first ∷ clauses) clause some =
    ap (map (defined_by owner name arity)) (map-append (clause_tree names) (first ∷ clauses) (clause ∷ []))
    ∙ map-append (defined_by owner name arity) (clause_trees names (first ∷ clauses)) (clause_tree names clause ∷ [])

-- two lists that end in one each end in the same
ends_once : (xs ys : List Defined) (x y : Defined) → xs ++ x ∷ [] ≡ ys ++ y ∷ [] → (xs ≡ ys) × (x ≡ y)
ends_once [] [] x y e = (refl, cc)
ends_once [] (b ∷ []) x y e = absurd (cc)
ends_once [] (b ∷ c ∷ ys) x y e = absurd (cc)
ends_once (a ∷ []) [] x y e = absurd (cc)
ends_once (a ∷ c ∷ xs) [] x y e = absurd (cc)
ends_once (a ∷ xs) (b ∷ ys) x y e =
    let first : a ≡ b = cc in
    let others : xs ++ x ∷ [] ≡ ys ++ y ∷ [] = cc in
    let rest = ends_once xs ys x y others in
    ((λ i. first i ∷ rest.0 i), rest.1)

-- one more clause of the last run
pub push_to_last : (names : List (List ℕ)) (owner name arity : ℕ) (old before new : List Defined) (last longer : Defined) (clause : Clause) → EndIn owner name arity old
    → old ≡ before ++ last ∷ [] → new ≡ before ++ longer ∷ [] → longer.module ≡ last.module → longer.name ≡ last.name → longer.arity ≡ last.arity
    → kept_clauses longer.clauses ≡ kept_clauses last.clauses ++ clause ∷ []
    → flat_map (see_run names) new ≡ flat_map (see_run names) old ++ defined_by (name_at names owner) (name_at names name) arity (clause_tree names clause) ∷ []
push_to_last names owner name arity old before new last longer clause end was is modules named arities clauses =
    let it : last ≡ end.last = (ends_once before end.before last end.last (sym was ∙ end.are)).1 in
    let some : kept_clauses last.clauses ≢ [] = λ none. end.some (subst (λ (r : Defined). kept_clauses r.clauses ≡ []) it none) in
    let own_module : last.module ≡ owner = ap (λ (r : Defined). r.module) it ∙ end.modules in
    let own_name : last.name ≡ name = ap (λ (r : Defined). r.name) it ∙ end.names in
    let own_arity : last.arity ≡ arity = ap (λ (r : Defined). r.arity) it ∙ end.arities in
    let seen : see_run names longer ≡ see_run names last ++ defined_by (name_at names owner) (name_at names name) arity (clause_tree names clause) ∷ [] =
    (λ i. defined_by_all (name_at names (modules i)) (name_at names (named i)) (arities i) (clause_trees names (clauses i)))
    ∙ one_more names (name_at names last.module) (name_at names last.name) last.arity (kept_clauses last.clauses) clause some
    ∙ (λ i. see_run names last ++ defined_by (name_at names (own_module i)) (name_at names (own_name i)) (own_arity i) (clause_tree names clause) ∷ []) in
    ap (flat_map (see_run names)) is
    ∙ all_then names before longer
    ∙ ap (λ ds. flat_map (see_run names) before ++ ds) seen
    ∙ sym (append_assoc (flat_map (see_run names) before) (see_run names last) (defined_by (name_at names owner) (name_at names name) arity (clause_tree names clause) ∷ []))
    ∙ ap (λ ds. ds ++ defined_by (name_at names owner) (name_at names name) arity (clause_tree names clause) ∷ []) (sym (ap (flat_map (see_run names)) was ∙ all_then names before last))

-- whether there are clauses, and the last run is of a predicate

pub some_there : (clauses : List Clause) (count : ℕ) → count ≡ length clauses → (count == 0) ≡ false → clauses ≢ []
some_there clauses count counted some none =
    let zero : count ≡ 0 = counted ∙ ap length none in
    let clash : true ≡ false = sym (ap (λ n. n == 0) zero) ∙ some in
    absurd (cc)

pub ends_here : (test : Bool) (owner name arity : ℕ) (runs before : List Defined) (last : Defined) → runs ≡ before ++ last ∷ [] → kept_clauses last.clauses ≢ []
    → test ≡ (nat_eq last.arity arity && (nat_eq last.name name && nat_eq last.module owner)) → OnTrue test (EndIn owner name arity runs)
ends_here true owner name arity runs before last are some is =
    let both = and_parts (nat_eq last.arity arity) (nat_eq last.name name && nat_eq last.module owner) (sym is) in
    let own = and_parts (nat_eq last.name name) (nat_eq last.module owner) both.1 in
    record {
      before = before;
      last = last;
      are = are;
      modules = (Decides-eqb last.module owner).0 own.1;
      names = (Decides-eqb last.name name).0 own.0;
      arities = (Decides-eqb last.arity arity).0 both.0;
      some = some;
    }
ends_here false owner name arity runs before last are some is = tt
