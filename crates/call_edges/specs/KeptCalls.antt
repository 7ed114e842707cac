-- Calls that are kept with the places of their goals.
use Rattle.std.specs.Bool.{beq}
use Rattle.std.specs.Prelude.{ℕ, ◌≡◌, ◌<◌, ◌≤◌, ◌+◌, ◌*◌, ◌&&◌, List, Bool, Some, nat_eq, length, slice_get, slice_index_or, slice_range}
use Rattle.std.specs.List.{flat_map, filter_map, list_any}
use Rattle.std.specs.Option.{option_eq}
use Rattle.std.specs.Str.{bytes_eq}
use Rattle.import_rules.specs.Program.{Seen}
use Rattle.call_edges.specs.declared.piece_calls.PieceCalls.{PieceCalls}
use Rattle.call_edges.specs.declared.piece.TheConstants.{PIECE_SIZE}
use Rattle.call_edges.specs.declared.placed_calls.PlacedCall.{PlacedCall}
use Rattle.call_edges.specs.Bodies.{Body, bodies_in}
use Rattle.call_edges.specs.CallPlaces.{CallAt}
use Rattle.call_edges.specs.PlacedSeen.{call_met, see_calls}
use Rattle.call_edges.specs.ProgramRows.{rows_of}
use Rattle.call_edges.specs.Successors.{body_mets}

-- the calls in a body of the predicate of that number, in the order of the text
abbrev pub body_calls : Seen → ℕ → Body → List CallAt
body_calls seen caller body = filter_map (call_met seen body.file caller) (body_mets (rows_of seen) body)

-- the calls of the predicate of that number: what `IsCallOf` says as a relation
unfoldable pub calls_in : Seen → ℕ → List CallAt
calls_in seen caller = flat_map (body_calls seen caller) (bodies_in seen caller)

-- whether two calls are of one name, with as many arguments added, and both negated or neither
abbrev pub same_callee : CallAt → CallAt → Bool
same_callee a b =
    bytes_eq a.callee.module b.callee.module
    && (bytes_eq a.callee.name b.callee.name && (nat_eq a.callee.arity b.callee.arity && (nat_eq a.added b.added && beq a.negated b.negated)))

-- and stand at one place
abbrev pub same_name : CallAt → CallAt → Bool
same_name a b = nat_eq a.file b.file && (nat_eq a.offset b.offset && (nat_eq a.caller b.caller && same_callee a b))

-- whether two calls are the same
abbrev pub same_call : CallAt → CallAt → Bool
same_call a b = same_name a b && option_eq nat_eq a.means b.means

-- whether the call is one of the list
abbrev pub has_call : List CallAt → CallAt → Bool
has_call calls c = list_any (same_call c) calls

-- between the two places just the calls of the predicate of that number stand
pub record AreCallsBetween (seen : Seen) (node : ℕ) (calls : List PlacedCall) (span : ℕ × ℕ) : Type 0 where
  pub ordered : span.0 ≤ span.1
  pub within : span.1 ≤ length calls
  pub each : (c : CallAt) → has_call (see_calls (slice_range calls span.0 span.1)) c ≡ has_call (calls_in seen node) c

-- the calls of the predicates of the piece of that number, predicate by predicate
pub record AreCallsIn (seen : Seen) (number : ℕ) (piece : PieceCalls) : Type 0 where
  pub as_many : (k : ℕ) → k < PIECE_SIZE → number * PIECE_SIZE + k < length seen.predicates → k < length piece.spans.items
  pub each : (k : ℕ) → k < length piece.spans.items
      → AreCallsBetween seen (number * PIECE_SIZE + k) piece.calls.items (slice_index_or piece.spans.items k (0, 0))

-- those of all predicates, piece by piece
pub record AreKept (seen : Seen) (pieces : List PieceCalls) : Type 0 where
  pub as_many : (number : ℕ) → number * PIECE_SIZE < length seen.predicates → number < length pieces
  pub each : (number : ℕ) (piece : PieceCalls) → slice_get pieces number ≡ Some piece → AreCallsIn seen number piece
