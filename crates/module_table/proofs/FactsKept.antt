-- What is handed down from the clauses of a file holds of its facts.
use Rattle.std.proofs.Common.{◌≡◌, ℕ, Bool, true, false, List, [], ◌∷◌, Option, Some, None, length, refl, sym, ◌∙◌, subst, get_or}
use Rattle.std.specs.Prelude.{All}
use Rattle.std.specs.List.{filter_map}
use Rattle.std.proofs.lemmas.List.Elements.{All-nil, All-cons, All-head, All-tail, All-filter, Contains-get_or}
use Rattle.prolog_terms.specs.Tree.{Tree}
use Rattle.module_table.specs.declared.indicator.Indicator.{Indicator}
use Rattle.module_table.specs.Defined.{Predicate}
use Rattle.module_table.specs.Metas.{Declaration}
use Rattle.module_table.specs.Said.{Part, Declares, Loads, declares, loads, defines, goal, takes, marks}
use Rattle.module_table.specs.Kinds.{declared_part, load_part, goal_part, first_of, IsModule, takes_part}
use Rattle.module_table.specs.Facts.{Facts, AreFacts, module_of, is_clause_of}
use Rattle.module_table.proofs.ClausesOf.{clauses_are}
use Rattle.module_table.proofs.HandedDown.{HandsDown}
use Rattle.module_table.proofs.SaidKept.{IsAt, IsKept, Kept, file_kept}

picked : {A : Type 0} (f : Part → Option A) (P : A → Type 0) (Q : Part → Type 0) → ((part : Part) (x : A) → f part ≡ Some x → Q part → P x)
    → (parts : List Part) → All Q parts → All P (filter_map f parts)
picked f P Q one [] all = All-nil P
picked {A} f P Q one (part ∷ parts) all = by_case (f part) refl (picked f P Q one parts (All-tail Q part parts all))
  where
    by_case : (found : Option A) → f part ≡ found → All P (filter_map f parts) → All P (filter_map f (part ∷ parts))
    by_case (Some x) is rest = rw is (All-cons P x (filter_map f parts) (one part x is (All-head Q part parts all)) rest)
    by_case None is rest = rw is rest

module _ (k : HandsDown) where
  abbrev DeclaredKept : Declares → Type 0
  DeclaredKept own = k.At own.from × All (IsAt k) own.exports

  abbrev LoadKept : Loads → Type 0
  LoadKept own = k.At own.from × All (IsAt k) own.items

  declared_one : (part : Part) (x : Declares) → declared_part part ≡ Some x → IsKept k part → DeclaredKept x
  declared_one (declares own) x is kept = let same : own ≡ x = cc in subst DeclaredKept same kept
  declared_one (loads own) x is kept = let both : None ≡ Some x = is in absurd (cc)
  declared_one (defines own) x is kept = let both : None ≡ Some x = is in absurd (cc)
  declared_one (takes own) x is kept = let both : None ≡ Some x = is in absurd (cc)
  declared_one (marks own) x is kept = let both : None ≡ Some x = is in absurd (cc)
  declared_one (goal own) x is kept = let both : None ≡ Some x = is in absurd (cc)

  load_one : (part : Part) (x : Loads) → load_part part ≡ Some x → IsKept k part → LoadKept x
  load_one (declares own) x is kept = let both : None ≡ Some x = is in absurd (cc)
  load_one (loads own) x is kept = let same : own ≡ x = cc in subst LoadKept same kept
  load_one (defines own) x is kept = let both : None ≡ Some x = is in absurd (cc)
  load_one (takes own) x is kept = let both : None ≡ Some x = is in absurd (cc)
  load_one (marks own) x is kept = let both : None ≡ Some x = is in absurd (cc)
  load_one (goal own) x is kept = let both : None ≡ Some x = is in absurd (cc)

  abbrev DeclarationKept : Declaration → Type 0
  DeclarationKept own = k.At own.from × k.Many (length own.args)

  takes_one : (part : Part) (x : Declaration) → takes_part part ≡ Some x → IsKept k part → DeclarationKept x
  takes_one (declares own) x is kept = let both : None ≡ Some x = is in absurd (cc)
  takes_one (loads own) x is kept = let both : None ≡ Some x = is in absurd (cc)
  takes_one (defines own) x is kept = let both : None ≡ Some x = is in absurd (cc)
  takes_one (takes own) x is kept = let same : own ≡ x = cc in subst DeclarationKept same kept
  takes_one (marks own) x is kept = let both : None ≡ Some x = is in absurd (cc)
  takes_one (goal own) x is kept = let both : None ≡ Some x = is in absurd (cc)

  goal_one : (part : Part) (x : Tree) → goal_part part ≡ Some x → IsKept k part → k.Good x
  goal_one (declares own) x is kept = let both : None ≡ Some x = is in absurd (cc)
  goal_one (loads own) x is kept = let both : None ≡ Some x = is in absurd (cc)
  goal_one (defines own) x is kept = let both : None ≡ Some x = is in absurd (cc)
  goal_one (takes own) x is kept = let both : None ≡ Some x = is in absurd (cc)
  goal_one (marks own) x is kept = let both : None ≡ Some x = is in absurd (cc)
  goal_one (goal own) x is kept = let same : own ≡ x = cc in subst k.Good same kept

  module_at : (all : List Declares) (name : List ℕ) (is_declared : Bool) (from : ℕ) (exports : List Indicator) → All DeclaredKept all
      → IsModule (first_of all) name is_declared from exports → (is_declared ≡ true → k.At from) × All (IsAt k) exports
  module_at [] name is_declared from exports kept is = (
    λ declared. let both : false ≡ true = sym is.1 ∙ declared in absurd (cc),
    subst (All (IsAt k)) (sym is.3) (All-nil (IsAt k)),
  )
  module_at (own ∷ all) name is_declared from exports kept is =
      let first = All-head DeclaredKept own all kept in
      (λ declared. subst k.At (sym is.2) first.0, subst (All (IsAt k)) (sym is.3) first.1)

  pub record AreKept (facts : Facts) : Type 0 where
    pub of_module : facts.is_module ≡ true → k.At facts.module_from
    pub of_exports : All (IsAt k) facts.exports
    pub of_loads : All (λ (load : Loads). k.At load.from × All (IsAt k) load.items) facts.loads
    pub of_clauses : All (λ (p : Predicate). All k.Good p.clauses) facts.defined
    pub of_metas : All DeclarationKept facts.metas
    pub of_goals : All k.Good facts.goals

  pub facts_kept : (user : List ℕ) (trees : List Tree) (facts : Facts) → All k.Good trees → AreFacts user trees facts → AreKept facts
  facts_kept user trees facts all are =
      let kept : All (IsKept k) are.parts = subst (Kept k) are.said (file_kept k user trees all) in
      let declared = picked declared_part DeclaredKept (IsKept k) declared_one are.parts kept in
      let module_ = module_at (filter_map declared_part are.parts) facts.module_ facts.is_module facts.module_from facts.exports declared are.are.of_module in
      record {
        of_module = module_.0;
        of_exports = module_.1;
        of_loads = subst (All LoadKept) (sym are.are.loads) (picked load_part LoadKept (IsKept k) load_one are.parts kept);
        of_clauses = λ i p below.
            subst (All k.Good) (sym (clauses_are user trees facts are (get_or facts.defined i p) (Contains-get_or facts.defined i p below)))
            (All-filter (is_clause_of (module_of trees) (get_or facts.defined i p).module_ (get_or facts.defined i p).name (get_or facts.defined i p).arity) k.Good trees all);
        of_metas = subst (All DeclarationKept) (sym are.are.metas) (picked takes_part DeclarationKept (IsKept k) takes_one are.parts kept);
        of_goals = subst (All k.Good) (sym are.are.goals) (picked goal_part k.Good (IsKept k) goal_one are.parts kept);
      }
