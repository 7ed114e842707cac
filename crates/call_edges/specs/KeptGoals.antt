-- What is met in the plain form of a clause, without its trees but for those of whole goals.
use Rattle.std.specs.Prelude.{ℕ, ◌≡◌, false, List, Option, Some, None}
use Rattle.kept_clauses.specs.Plain.{PlainGoal, called, whole}
use Rattle.call_edges.specs.Calls.{IsAmong}
use Rattle.call_edges.specs.Goals.{Met, call, place, goal_role, Rows, IsMet}

-- this is met in the goal, in a body of the module: the call itself, to which nothing is added and which isn't negated, or within the term
abbrev pub IsMetInGoal : Rows → List ℕ → PlainGoal → Met → Type 0
IsMetInGoal T owner (called one) m = call one.at owner one.name one.arity 0 false ≡ m
IsMetInGoal T owner (whole tree) m = IsMet T (place owner goal_role tree) m

-- this is met in the body, in one of its goals
abbrev pub IsMetInForm : Rows → List ℕ → Option (List PlainGoal) → Met → Type 0
IsMetInForm T owner (Some goals) m = IsAmong (IsMetInGoal T owner) goals m
IsMetInForm T owner None m = ⊥
