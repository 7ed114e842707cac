-- Clauses with the offsets at which they start and end.
use Rattle.std.specs.Prelude.{ℕ, ◌≡◌, ◌↔◌, List, [], Option, Some, None, AllPairs, Contains, map, slice_get}
use Rattle.std.specs.List.{flat_map}
use Rattle.std.specs.declared.cmp.Ordering.{Ordering}
use Rattle.std.specs.declared.cmp.Ordering.TheVariants.{Less}
use Rattle.std.specs.Ordering.{ordering_then, nat_cmp}
use Rattle.prolog_terms.specs.Tree.{Tree}
use Rattle.prolog_terms.specs.Views.{start_of}
use Rattle.module_table.specs.Defined.{Predicate}
use Rattle.module_table.specs.Facts.{Facts}
use Rattle.import_rules.specs.ClauseEnds.{end_of}
use Rattle.import_rules.specs.Program.{Seen, places_in}
use Rattle.call_edges.specs.Calls.{IsAmong}
use Rattle.call_table.specs.declared.clause_at.ClauseAt.{ClauseAt}

-- a clause of the predicate of that number, in that file
abbrev pub clause_at : ℕ → ℕ → Tree → ClauseAt
clause_at file node clause = record { file = file; offset = start_of clause; end = end_of clause; node = node }

abbrev pub part_clauses : ℕ → ℕ → Option Predicate → List ClauseAt
part_clauses file node (Some predicate) = map (clause_at file node) predicate.clauses
part_clauses file node None = []

abbrev pub file_clauses : ℕ → ℕ → ℕ → Option Facts → List ClauseAt
file_clauses file part node (Some facts) = part_clauses file node (slice_get facts.defined part)
file_clauses file part node None = []

-- the clauses of the predicate that stand at a place: of a file, and of a part of it
abbrev pub clauses_there : List Facts → ℕ → ℕ × ℕ → List ClauseAt
clauses_there files node at = file_clauses at.0 at.1 node (slice_get files at.0)

-- all clauses of the predicate of that number
abbrev pub clauses_in : Seen → ℕ → List ClauseAt
clauses_in seen node = flat_map (clauses_there seen.loaded.files node) (places_in seen node)

-- by file, then by offset, then by end, then by the predicate
abbrev pub clause_cmp : ClauseAt → ClauseAt → Ordering
clause_cmp a b =
    ordering_then (nat_cmp a.file b.file)
    (ordering_then (nat_cmp a.offset b.offset) (ordering_then (nat_cmp a.end b.end) (nat_cmp a.node b.node)))

-- the clauses of the predicates, in order and each once
pub record AreClausesOf (seen : Seen) (nodes : List ℕ) (clauses : List ClauseAt) : Type 0 where
  pub ordered : AllPairs (λ a b. clause_cmp a b ≡ Less) clauses
  pub each : (c : ClauseAt) → Contains clauses c ↔ IsAmong (λ node. Contains (clauses_in seen node)) nodes c
