-- What predicates call.
use Rattle.std.specs.Prelude.{ℕ, ◌≡◌, List, Option, Some, None, Contains, codes, slice_get}
use Rattle.prolog_terms.specs.Tree.{Tree}
use Rattle.prolog_terms.specs.Views.{sides_of}
use Rattle.module_table.specs.Defined.{Predicate}
use Rattle.module_table.specs.Facts.{Facts}
use Rattle.import_rules.specs.Program.{Seen, places_in, found}
use Rattle.call_edges.specs.Goals.{Met, call, fault, Place, place, goal_role, grammar_role, Rows, IsMet}
use Rattle.call_edges.specs.ProgramRows.{rows_of}

abbrev pub body_by : List ℕ → Option (Tree × Tree) → Option (Tree × Tree) → Option Place
body_by owner (Some rule) grammar = Some (place owner goal_role rule.1)
body_by owner None (Some grammar) = Some (place owner grammar_role grammar.1)
body_by owner None None = None

-- the body of a clause: of a rule a goal, and of a grammar rule a grammar body
abbrev pub body_of : List ℕ → Tree → Option Place
body_of owner clause = body_by owner (sides_of (codes ":-") clause) (sides_of (codes "-->") clause)

-- this is met in the body of the clause
pub record IsMetInClause (T : Rows) (owner : List ℕ) (clause : Tree) (m : Met) : Type 0 where
  pub body : Place
  pub is : body_of owner clause ≡ Some body
  pub met : IsMet T body m

-- it holds for one of the list
pub record IsAmong {X M : Type 0} (P : X → M → Type 0) (xs : List X) (m : M) : Type 0 where
  pub one : X
  pub has : Contains xs one
  pub is : P one m

-- this is met in a clause of the predicate that stands there
pub record IsMetAt (T : Rows) (files : List Facts) (at : ℕ × ℕ) (m : Met) : Type 0 where
  pub file : Facts
  pub file_is : slice_get files at.0 ≡ Some file
  pub predicate : Predicate
  pub predicate_is : slice_get file.defined at.1 ≡ Some predicate
  pub among : IsAmong (IsMetInClause T file.module_) predicate.clauses m

-- this is met in a clause of the predicate of that number
abbrev pub IsMetIn : Seen → ℕ → Met → Type 0
IsMetIn seen node m = IsAmong (IsMetAt (rows_of seen) seen.loaded.files) (places_in seen node) m

-- the predicate that a call goes to
abbrev pub target : Seen → Met → Option ℕ
target seen (call at owner name arity more negated) = found seen owner name arity
target seen (fault at) = None

-- something of which this is true goes to predicate q
pub record GoesTo (seen : Seen) (P : Met → Type 0) (q : ℕ) : Type 0 where
  pub met : Met
  pub is : P met
  pub goes : target seen met ≡ Some q

-- p calls q
abbrev pub NodeCalls : Seen → ℕ → ℕ → Type 0
NodeCalls seen p q = GoesTo seen (IsMetIn seen p) q

-- this is met in a goal directive of the file
abbrev pub IsMetInGoals : Rows → Facts → Met → Type 0
IsMetInGoals T file m = IsAmong (λ goal. IsMet T (place file.module_ goal_role goal)) file.goals m
