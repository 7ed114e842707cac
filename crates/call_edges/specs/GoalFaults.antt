-- Goals that aren't callable, with their places.
use Rattle.std.specs.Prelude.{ℕ, ◌≡◌, ◌≢◌, ◌⊎◌, List, [], All, AllPairs, Contains}
use Rattle.std.specs.declared.cmp.Ordering.{Ordering}
use Rattle.std.specs.declared.cmp.Ordering.TheVariants.{Less}
use Rattle.std.specs.Ordering.{ordering_then, nat_cmp}
use Rattle.std.specs.Cmp.Lexicographic.{slice_cmp}
use Rattle.prolog_tokens.specs.Places.{IsPlace}
use Rattle.clause_text.specs.declared.cause.Cause.TheVariants.{NotCallable}
use Rattle.module_table.specs.Defined.{Predicate}
use Rattle.module_table.specs.Facts.{Facts}
use Rattle.file_library.specs.declared.fault.Fault.{Fault}
use Rattle.import_rules.specs.Program.{Seen}
use Rattle.call_edges.specs.declared.goal_stop.GoalStop.{GoalStop}
use Rattle.call_edges.specs.declared.goal_stop.GoalStop.TheVariants.{Faults, NoMemory}
use Rattle.call_edges.specs.Goals.{Met, fault, Rows}
use Rattle.call_edges.specs.ProgramRows.{rows_of}
use Rattle.call_edges.specs.Calls.{IsAmong, IsMetInClause, IsMetInGoals}

-- this is met in the file: in a clause of one of its predicates, or in a goal directive
abbrev pub IsMetInFile : Rows → Facts → Met → Type 0
IsMetInFile T file m = IsAmong (λ (p : Predicate). IsAmong (IsMetInClause T file.module_) p.clauses) file.defined m ⊎ IsMetInGoals T file m

-- a goal that stands there isn't callable
pub record IsGoalFault (seen : Seen) (one : Fault) : Type 0 where
  pub file : Facts
  pub has_file : Contains seen.loaded.files file
  pub named : one.file ≡ file.file
  pub met : IsMetInFile (rows_of seen) file (fault one.offset)
  pub cause : one.cause ≡ NotCallable
  pub text : List ℕ
  pub has_text : Contains seen.loaded.texts (one.file, text)
  pub stands : IsPlace text one.offset one.place

-- by file, then by offset
abbrev pub fault_cmp : Fault → Fault → Ordering
fault_cmp a b = ordering_then (slice_cmp nat_cmp a.file b.file) (nat_cmp a.offset b.offset)

-- all goals that aren't callable, in order and each once
pub record AreGoalFaults (seen : Seen) (faults : List Fault) : Type 0 where
  pub ordered : AllPairs (λ a b. fault_cmp a b ≡ Less) faults
  pub sound : All (IsGoalFault seen) faults
  pub all : (one : Fault) → IsGoalFault seen one → Contains faults one

-- why not every goal is known to be callable: the goal faults, one at least
abbrev pub IsGoalStop : Seen → GoalStop → Type 0
IsGoalStop seen (Faults faults) = AreGoalFaults seen faults.items × (faults.items ≢ [])
IsGoalStop seen NoMemory = Unit {0}
