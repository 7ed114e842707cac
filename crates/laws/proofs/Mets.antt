-- What is met in a file, as a list.
use Rattle.std.proofs.Common.{◌≡◌, ◌↔◌, inl, inr, ℕ, List, [], ◌++◌, Option, Some, None, refl, sym, subst}
use Rattle.std.specs.Prelude.{Contains}
use Rattle.std.specs.List.{flat_map}
use Rattle.std.proofs.lemmas.List.Elements.{Contains-append_left, Contains-append_right, Contains-append_cases}
use Rattle.std.proofs.lemmas.Option.{none-some, same_Some}
use Rattle.list_laws.proofs.OneOrder.{nothing_in}
use Rattle.prolog_terms.specs.Tree.{Tree}
use Rattle.module_table.specs.Defined.{Predicate}
use Rattle.module_table.specs.Facts.{Facts}
use Rattle.call_edges.specs.Goals.{Met, Place, place, goal_role, Rows, IsMet}
use Rattle.call_edges.specs.Listed.{mets_in}
use Rattle.call_edges.specs.Calls.{body_of, IsAmong, IsMetInClause, IsMetInGoals}
use Rattle.call_edges.specs.GoalFaults.{IsMetInFile}
use Rattle.call_edges.proofs.AmongLemmas.{among_as, flat_has}
use Rattle.call_edges.proofs.ListedMets.{mets_are}

-- elements of lists that functions give, by what they are
pub given_has : {X M : Type 0} (f : X → List M) (P : X → M → Type 0) → ((x : X) (m : M) → Contains (f x) m ↔ P x m) → (xs : List X) (m : M)
    → Contains (flat_map f xs) m ↔ IsAmong P xs m
given_has f P is xs m =
    let flat = flat_has f xs m in (
      λ has. among_as (λ x. Contains (f x)) P xs m (λ x. (is x m).0) (flat.0 has),
      λ among. flat.1 (among_as P (λ x. Contains (f x)) xs m (λ x. (is x m).1) among),
    )

module _ (T : Rows) where
  -- what is met in a clause

  abbrev place_mets : Option Place → List Met
  place_mets (Some body) = mets_in T body.module_ body.role body.tree
  place_mets None = []

  abbrev clause_mets : List ℕ → Tree → List Met
  clause_mets owner clause = place_mets (body_of owner clause)

  clause_has : (owner : List ℕ) (clause : Tree) (m : Met) → Contains (clause_mets owner clause) m ↔ (IsMetInClause T) owner clause m
  clause_has owner clause m = (to (body_of owner clause) refl, λ met. from (body_of owner clause) met.body met.is met.met)
    where
      to : (o : Option Place) → body_of owner clause ≡ o → Contains (place_mets o) m → (IsMetInClause T) owner clause m
      to (Some body) is has = record { body = body; is = is; met = (mets_are T body.module_ body.role body.tree m).0 has }
      to None is has = absurd (nothing_in m has)

      from : (o : Option Place) (body : Place) → o ≡ Some body → IsMet T body m → Contains (place_mets o) m
      from (Some own) body is met =
          let here : IsMet T own m = subst (λ b. IsMet T b m) (sym (same_Some own body is)) met in
          (mets_are T own.module_ own.role own.tree m).1 here
      from None body is met = absurd (none-some body is)

  -- what is met in goals of directives

  abbrev pub goal_mets : Facts → List Met
  goal_mets file = flat_map (λ goal. mets_in T file.module_ goal_role goal) file.goals

  pub goals_have : (file : Facts) (m : Met) → Contains (goal_mets file) m ↔ (IsMetInGoals T) file m
  goals_have file m =
      given_has (λ goal. mets_in T file.module_ goal_role goal) (λ goal. IsMet T (place file.module_ goal_role goal))
      (λ goal n. mets_are T file.module_ goal_role goal n) file.goals m

  -- what is met in a file

  abbrev part_mets : Facts → Predicate → List Met
  part_mets file predicate = flat_map (clause_mets file.module_) predicate.clauses

  abbrev pub file_mets : Facts → List Met
  file_mets file = flat_map (part_mets file) file.defined ++ goal_mets file

  pub file_has : (file : Facts) (m : Met) → Contains (file_mets file) m ↔ (IsMetInFile T) file m
  file_has file m =
      let clauses = flat_map (part_mets file) file.defined in
      let defined =
      given_has (part_mets file) (λ (p : Predicate). IsAmong ((IsMetInClause T) file.module_) p.clauses)
      (λ p n. given_has (clause_mets file.module_) ((IsMetInClause T) file.module_) (clause_has file.module_) p.clauses n) file.defined m in
      let goals = goals_have file m in (
        λ has. elim (Contains-append_cases clauses (goal_mets file) m has) [ inl here ↦ inl (defined.0 here) | inr later ↦ inr (goals.0 later) ],
        λ met.
            elim met [
              | inl here ↦ Contains-append_left clauses (goal_mets file) m (defined.1 here)
              | inr goal ↦ Contains-append_right clauses (goal_mets file) m (goals.1 goal)
            ],
      )
