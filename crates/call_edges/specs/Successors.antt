-- What predicates call, as lists of numbers: what `Calls` says as a relation.
use Rattle.std.specs.Prelude.{ℕ, List, Option, Some, None, Bool, false, nat_eq, map, filter, length}
use Rattle.std.specs.List.{flat_map, list_any, range_with_len}
use Rattle.import_rules.specs.Program.{Seen}
use Rattle.call_edges.specs.Goals.{Met, Rows}
use Rattle.call_edges.specs.ProgramRows.{rows_of}
use Rattle.call_edges.specs.Listed.{mets_in}
use Rattle.call_edges.specs.Calls.{target}
use Rattle.call_edges.specs.Bodies.{Body, bodies_in}

abbrev pub body_mets : Rows → Body → List Met
body_mets T body = mets_in T body.at.module_ body.at.role body.at.tree

-- what is met in the clauses of the predicate of that number
abbrev pub node_mets : Seen → ℕ → List Met
node_mets seen node = flat_map (body_mets (rows_of seen)) (bodies_in seen node)

abbrev pub is_target : ℕ → Option ℕ → Bool
is_target q (Some callee) = nat_eq callee q
is_target q None = false

-- whether p calls q
abbrev pub calls_to : Seen → ℕ → ℕ → Bool
calls_to seen p q = list_any (λ m. is_target q (target seen m)) (node_mets seen p)

-- the successors of each predicate, ascending
unfoldable pub successor_lists : Seen → List (List ℕ)
successor_lists seen =
    map (λ p. filter (calls_to seen p) (range_with_len 0 (length seen.predicates))) (range_with_len 0 (length seen.predicates))
