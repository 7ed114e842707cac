-- Calls with the places of their goals.
use Rattle.std.specs.Prelude.{ℕ, ◌≡◌, ◌↔◌, Bool, List, Option, AllPairs, Contains}
use Rattle.std.specs.declared.cmp.Ordering.{Ordering}
use Rattle.std.specs.declared.cmp.Ordering.TheVariants.{Less}
use Rattle.std.specs.Cmp.Lexicographic.{slice_cmp}
use Rattle.std.specs.Ordering.{bool_cmp, ordering_then, nat_cmp}
use Rattle.import_rules.specs.declared.names.PredName.{PredName}
use Rattle.import_rules.specs.Program.{Seen, found}
use Rattle.call_edges.specs.Goals.{Met, call}
use Rattle.call_edges.specs.ProgramRows.{rows_of}
use Rattle.call_edges.specs.Calls.{IsAmong}
use Rattle.call_edges.specs.Bodies.{Body, bodies_in, IsMetInBody}

-- a call: the place of its file, the offset at which its goal starts, the number of the predicate that calls, the name that it calls, how many of its
-- arguments are added to the goal, whether it is negated, and the number of the predicate that the name means, if any
pub record CallAt : Type 0 where
  pub file : ℕ
  pub offset : ℕ
  pub caller : ℕ
  pub callee : PredName
  pub added : ℕ
  pub negated : Bool
  pub means : Option ℕ

-- what is met where its goal starts
abbrev pub met_of : CallAt → Met
met_of c = call c.offset c.callee.module c.callee.name c.callee.arity c.added c.negated

-- a call in that file, by that predicate, of what its name means, such that this is true of what is met where its goal starts
pub record IsCallBy (seen : Seen) (file caller : ℕ) (P : Met → Type 0) (c : CallAt) : Type 0 where
  pub in_file : c.file ≡ file
  pub caller_is : c.caller ≡ caller
  pub means_is : c.means ≡ found seen c.callee.module c.callee.name c.callee.arity
  pub met : P (met_of c)

-- the call stands in the body of a clause of that predicate
abbrev pub IsCalledIn : Seen → ℕ → Body → CallAt → Type 0
IsCalledIn seen caller body c = IsCallBy seen body.file caller (IsMetInBody (rows_of seen) body) c

-- the call stands in a clause of the predicate of that number
abbrev pub IsCallOf : Seen → ℕ → CallAt → Type 0
IsCallOf seen caller c = IsAmong (IsCalledIn seen caller) (bodies_in seen caller) c

-- by module, name and arity, then by how many arguments are added, then those that aren't negated first
abbrev pub callee_cmp : CallAt → CallAt → Ordering
callee_cmp a b =
    ordering_then (slice_cmp nat_cmp a.callee.module b.callee.module)
    (ordering_then (slice_cmp nat_cmp a.callee.name b.callee.name)
    (ordering_then (nat_cmp a.callee.arity b.callee.arity) (ordering_then (nat_cmp a.added b.added) (bool_cmp a.negated b.negated))))

-- by file, then by offset, then by the caller and what is called
abbrev pub call_cmp : CallAt → CallAt → Ordering
call_cmp a b =
    ordering_then (nat_cmp a.file b.file)
    (ordering_then (nat_cmp a.offset b.offset) (ordering_then (nat_cmp a.caller b.caller) (callee_cmp a b)))

-- all calls of the predicates, in order and each once
pub record AreCallsOf (seen : Seen) (callers : List ℕ) (calls : List CallAt) : Type 0 where
  pub ordered : AllPairs (λ a b. call_cmp a b ≡ Less) calls
  pub each : (c : CallAt) → Contains calls c ↔ IsAmong (IsCallOf seen) callers c
