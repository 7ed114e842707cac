-- The bodies of a program, as lists.
use Rattle.std.specs.Prelude.{ℕ, ◌≡◌, ◌+◌, ◌*◌, ◌≤◌, List, [], Option, Some, None, map, slice_get, option_map}
use Rattle.std.specs.List.{flat_map, filter_map, enumerate_from}
use Rattle.prolog_terms.specs.Tree.{Tree}
use Rattle.prolog_terms.specs.Terms.{tree_of}
use Rattle.prolog_terms.specs.Weight.{weight}
use Rattle.kept_clauses.specs.Plain.{body_tree}
use Rattle.kept_clauses.specs.Views.{see_goals}
use Rattle.module_table.specs.Defined.{Predicate}
use Rattle.module_table.specs.Facts.{Facts}
use Rattle.import_rules.specs.declared.home.Home.{Home}
use Rattle.import_rules.specs.Program.{Seen, places_in}
use Rattle.call_edges.specs.declared.body.Body.{Body as BodyKept}
use Rattle.call_edges.specs.declared.body.Content.{Content}
use Rattle.call_edges.specs.declared.body.Content.TheVariants as kept
use Rattle.module_table.specs.Metas.{added}
use Rattle.call_edges.specs.Goals.{Met, Place, place, goal_role, Rows, IsMet}
use Rattle.call_edges.specs.Calls.{body_of}

-- a body, and the place of its file
pub record Body : Type 0 where
  pub file : ℕ
  pub at : Place

-- where what a body is made of stands, in the module: goals are joined by commas
abbrev pub content_at : List ℕ → Content → Place
content_at owner (kept.Term role term) = place owner role (tree_of term)
content_at owner (kept.Goals goals) = place owner goal_role (body_tree (see_goals goals))

-- its names
abbrev pub names_in : Content → List (List ℕ)
names_in (kept.Term role term) = term.names.now
names_in (kept.Goals goals) = goals.names.now

abbrev pub see_body : BodyKept → Body
see_body b = record { file = b.file; at = content_at b.owner.now b.content }

-- the names and the module are those of a file of the program
pub record IsHomeOf (seen : Seen) (owner : List ℕ) (names : List (List ℕ)) (home : Home) : Type 0 where
  pub program : home.program.now ≡ seen
  pub module_ : home.facts.now.module ≡ owner
  pub names_ : home.facts.now.names ≡ names

-- the body is kept with its file in the program
abbrev pub IsAtHome : Seen → BodyKept → Type 0
IsAtHome seen b = IsHomeOf seen b.owner.now (names_in b.content) b.home

abbrev pub body_in : ℕ → Place → Body
body_in file at = record { file = file; at = at }

-- the bodies of clauses of a module
abbrev pub clause_bodies : ℕ → List ℕ → List Tree → List Body
clause_bodies file owner clauses = filter_map (λ clause. option_map (body_in file) (body_of owner clause)) clauses

abbrev pub part_bodies : ℕ → List ℕ → Option Predicate → List Body
part_bodies file owner (Some predicate) = clause_bodies file owner predicate.clauses
part_bodies file owner None = []

abbrev pub file_bodies : ℕ → ℕ → Option Facts → List Body
file_bodies file part (Some facts) = part_bodies file facts.module_ (slice_get facts.defined part)
file_bodies file part None = []

-- the bodies of the predicate that stands there
abbrev pub bodies_at : List Facts → ℕ × ℕ → List Body
bodies_at files at = file_bodies at.0 at.1 (slice_get files at.0)

-- the bodies of the predicate of that number
abbrev pub bodies_in : Seen → ℕ → List Body
bodies_in seen node = flat_map (bodies_at seen.loaded.files) (places_in seen node)

-- a goal of a directive is a body too
abbrev pub goal_body : ℕ → List ℕ → Tree → Body
goal_body file owner goal = body_in file (place owner goal_role goal)

-- the goals of directives of a file
abbrev pub goals_of_file : ℕ × Facts → List Body
goals_of_file at = map (goal_body at.0 at.1.module_) at.1.goals

-- all goals of directives
abbrev pub goals_in : List Facts → List Body
goals_in files = flat_map goals_of_file (enumerate_from 0 files)

-- this is met in the body
abbrev pub IsMetInBody : Rows → Body → Met → Type 0
IsMetInBody T body m = IsMet T body.at m

-- it weighs so little that the number of arguments of each call in it fits, though nine may be added at each term
abbrev pub IsLight : Body → Type 0
IsLight body = added body.at.role.arg + 10 * weight body.at.tree ≤ 4294967295
