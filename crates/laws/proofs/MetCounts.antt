-- There are no more calls in clauses than they weigh.
use Rattle.std.proofs.Common.{◌≡◌, ℕ, ◌+◌, ◌≤◌, List, [], ◌∷◌, Option, Some, None, codes, flat_map, length, length-append, ap, refl, arith}
use Rattle.std.specs.List.{cons_option, filter_map}
use Rattle.std.specs.Option.{option_map, option_to_list}
use Rattle.std.proofs.lemmas.List.Sums.{sum_by-cons}
use Rattle.std.proofs.lemmas.Option.{none-some, same_Some}
use Rattle.prolog_terms.specs.Tree.{Tree, Trees, variable, constant, atom, compound, listed, tailed, curly, paren, more, none}
use Rattle.prolog_terms.specs.Views.{sides_of, trees_in}
use Rattle.prolog_terms.specs.Weight.{weight, weights}
use Rattle.prolog_terms.proofs.ViewLemmas.{sides_weight}
use Rattle.clause_text.specs.Clauses.{total_weight}
use Rattle.import_rules.specs.Program.{Seen}
use Rattle.call_edges.specs.Bodies.{Body, body_in, clause_bodies}
use Rattle.call_edges.specs.CallPlaces.{CallAt}
use Rattle.call_edges.specs.Calls.{body_by, body_of}
use Rattle.call_edges.specs.declared.role.Role.{Role}
use Rattle.call_edges.specs.Goals.{Met, Place, Rows, Taken, argument_role, curly_role, goal_role, grammar_role, met_at, place, taken}
use Rattle.call_edges.specs.KeptCalls.{body_calls}
use Rattle.call_edges.specs.Listed.{mets_among, mets_in}
use Rattle.call_edges.specs.PlacedSeen.{call_met}
use Rattle.call_edges.specs.ProgramRows.{rows_of}
use Rattle.call_edges.specs.Successors.{body_mets}

met_few : (o : Option Met) → length (option_to_list o) ≤ 1
met_few None = omega arith
met_few (Some m) = omega arith

mutual
  -- no more is met in a tree than it weighs and one
  mets_few : (T : Rows) (owner : List ℕ) (role : Role) (tree : Tree) → length (mets_in T owner role tree) ≤ weight tree + 1
  mets_few T owner role (variable span) = omega arith
  mets_few T owner role (constant kind minus value span) = omega (arith, met_few (met_at T owner role (constant kind minus value span)))
  mets_few T owner role (atom name span) = omega (arith, met_few (met_at T owner role (atom name span)))
  mets_few T owner role (compound name args form span) =
      let apart = taken T span.from owner role name (trees_in args) in
      let rest = mets_among T apart 0 args in
      omega (arith, length-append (option_to_list apart.met) rest, met_few apart.met, among_few T apart 0 args)
  mets_few T owner role (listed items span) = omega arith
  mets_few T owner role (tailed items tail span) = omega arith
  mets_few T owner role (curly inner span) = omega (arith, mets_few T owner (curly_role role) inner)
  mets_few T owner role (paren inner span) = omega (arith, mets_few T owner role inner)

  among_few : (T : Rows) (apart : Taken) (i : ℕ) (trees : Trees) → length (mets_among T apart i trees) ≤ weights trees
  among_few T apart i none = omega arith
  among_few T apart i (more tree trees) =
      let first = mets_in T apart.module_ (argument_role apart i) tree in
      let rest = mets_among T apart (i + 1) trees in
      omega (arith, length-append first rest, mets_few T apart.module_ (argument_role apart i) tree, among_few T apart (i + 1) trees)

fewer_given : {X Y : Type 0} (give : X → Option Y) (xs : List X) → length (filter_map give xs) ≤ length xs
fewer_given give [] = omega arith
fewer_given {Y = Y} give (x ∷ xs) = at (give x) (fewer_given give xs)
  where
    at : (o : Option Y) → length (filter_map give xs) ≤ length xs → length (cons_option o (filter_map give xs)) ≤ length (x ∷ xs)
    at None rest = omega (arith, rest)
    at (Some y) rest = omega (arith, rest)

-- a body weighs no more than its clause
body_lighter : (owner : List ℕ) (clause : Tree) (rule grammar : Option (Tree × Tree)) (body : Place) → sides_of (codes ":-") clause ≡ rule
    → sides_of (codes "-->") clause ≡ grammar → body_by owner rule grammar ≡ Some body → weight body.tree ≤ weight clause
body_lighter owner clause (Some (left, right)) grammar body first second is =
    let same : place owner goal_role right ≡ body = same_Some (place owner goal_role right) body is in
    omega (arith, sides_weight (codes ":-") clause left right first, ap (λ (p : Place). weight p.tree) same)
body_lighter owner clause None (Some (left, right)) body first second is =
    let same : place owner grammar_role right ≡ body = same_Some (place owner grammar_role right) body is in
    omega (arith, sides_weight (codes "-->") clause left right second, ap (λ (p : Place). weight p.tree) same)
body_lighter owner clause None None body first second is = absurd (none-some body is)

module _ (seen : Seen) (caller : ℕ) where
  body_few : (body : Body) → length (body_calls seen caller body) ≤ weight body.at.tree + 1
  body_few body =
      omega (
        arith,
        fewer_given (call_met seen body.file caller) (body_mets (rows_of seen) body),
        mets_few (rows_of seen) body.at.module_ body.at.role body.at.tree,
      )

  abbrev pub all_calls : List Body → List CallAt
  all_calls bodies = flat_map (body_calls seen caller) bodies

  pub clauses_few : (file : ℕ) (owner : List ℕ) (clauses : List Tree) → length (all_calls (clause_bodies file owner clauses)) ≤ total_weight clauses
  clauses_few file owner [] = omega arith
  clauses_few file owner (clause ∷ clauses) = at (body_of owner clause) refl (clauses_few file owner clauses)
    where
      at : (o : Option Place) → body_of owner clause ≡ o → length (all_calls (clause_bodies file owner clauses)) ≤ total_weight clauses
          → length (all_calls (cons_option (option_map (body_in file) o) (clause_bodies file owner clauses))) ≤ total_weight (clause ∷ clauses)
      at None is few = omega (arith, few, sum_by-cons (λ t. weight t + 2) clause clauses)
      at (Some body) is few =
          let here = body_in file body in
          omega (
            arith,
            few,
            sum_by-cons (λ t. weight t + 2) clause clauses,
            length-append (body_calls seen caller here) (all_calls (clause_bodies file owner clauses)),
            body_few here,
            body_lighter owner clause (sides_of (codes ":-") clause) (sides_of (codes "-->") clause) body refl refl is,
          )
