-- What is found at predicates, and lists that stand one behind the other.
use Rattle.std.specs.Prelude.{ℕ, ◌≡◌, ◌<◌, ◌≤◌, ◌+◌, ◌*◌, ◌/◌, ◌↔◌, List, [], Some, Contains, length, take, drop, slice_get, slice_index_or}
use Rattle.std.specs.Prelude.{slice_range}
use Rattle.std.specs.List.Sorted.{IsStrictlyIncreasing}
use Rattle.import_rules.specs.Program.{Seen}
use Rattle.call_edges.specs.declared.piece.TheConstants.{PIECE_SIZE}
use Rattle.call_edges.specs.declared.piece.Piece.{Piece}
use Rattle.call_edges.specs.Bodies.{bodies_in}
use Rattle.call_edges.specs.ProgramRows.{rows_of}
use Rattle.call_edges.specs.Calls.{IsAmong, NodeCalls}
use Rattle.call_edges.specs.FaultPlaces.{IsFaultIn}
use Rattle.call_edges.specs.Successors.{successor_lists}

-- what the predicate of that number calls, ascending and each once
pub record IsOpened (seen : Seen) (node : ℕ) (callees : List ℕ) : Type 0 where
  pub ascending : IsStrictlyIncreasing callees
  pub calls : (q : ℕ) → Contains callees q ↔ NodeCalls seen node q

-- the list stands between the two places
pub record StandsBetween (all : List ℕ) (from to : ℕ) (list : List ℕ) : Type 0 where
  pub ordered : from ≤ to
  pub within : to ≤ length all
  pub is : slice_range all from to ≡ list

-- each list stands between its start and the one after it
pub record AreLaidOut (lists : List (List ℕ)) (starts all : List ℕ) : Type 0 where
  pub as_many : length starts ≡ length lists + 1
  pub each : (p : ℕ) → p < length lists → StandsBetween all (slice_index_or starts p 0) (slice_index_or starts (p + 1) 0) (slice_index_or lists p [])

-- those of the lists that are in the piece of that number
abbrev pub piece_lists : List (List ℕ) → ℕ → List (List ℕ)
piece_lists lists number = take PIECE_SIZE (drop (number * PIECE_SIZE) lists)

-- a goal of a predicate of the piece isn't callable, there
pub record IsPieceFault (seen : Seen) (number : ℕ) (p : ℕ × ℕ) : Type 0 where
  pub node : ℕ
  pub below : node < length seen.predicates
  pub in_piece : node / PIECE_SIZE ≡ number
  pub is : IsAmong (IsFaultIn (rows_of seen)) (bodies_in seen node) p

-- what the predicates of the piece call, and where their goals aren't callable
pub record IsPiece (seen : Seen) (number : ℕ) (piece : Piece) : Type 0 where
  pub laid_out : AreLaidOut (piece_lists (successor_lists seen) number) piece.starts.items piece.callees.items
  pub faults : (p : ℕ × ℕ) → Contains piece.faults.items p ↔ IsPieceFault seen number p

-- the pieces of all predicates
pub record ArePieces (seen : Seen) (pieces : List Piece) : Type 0 where
  pub as_many : (number : ℕ) → number * PIECE_SIZE < length seen.predicates → number < length pieces
  pub each : (number : ℕ) (piece : Piece) → slice_get pieces number ≡ Some piece → IsPiece seen number piece

-- the lists of all predicates, piece by piece
pub record AreListed (lists : List (List ℕ)) (pieces : List Piece) : Type 0 where
  pub as_many : (number : ℕ) → number * PIECE_SIZE < length lists → number < length pieces
  pub each : (number : ℕ) (piece : Piece) → slice_get pieces number ≡ Some piece → AreLaidOut (piece_lists lists number) piece.starts.items piece.callees.items
