-- What is found in the pieces of a program.
use Rattle.std.specs.Prelude.{ℕ, ◌≡◌, ◌<◌, ◌*◌, List, Bool, true, Some, Result, IfOk, length, map, slice_get}
use Rattle.std.specs.List.{AllZip, range_with_len}
use Rattle.std.specs.declared.alloc.AllocError.{AllocError}
use Rattle.import_rules.specs.Program.{Seen}
use Rattle.call_edges.specs.declared.piece_calls.PieceCalls.{PieceCalls}
use Rattle.call_edges.specs.declared.piece.OpenedPiece.{OpenedPiece}
use Rattle.call_edges.specs.declared.piece.Piece.{Piece}
use Rattle.call_edges.specs.declared.piece.TheConstants.{PIECE_SIZE}
use Rattle.call_edges.specs.CallLists.{IsPiece}
use Rattle.call_edges.specs.KeptCalls.{AreCallsIn}

-- the lists and the faults of a piece, and its calls where they are kept
pub record IsOpenedPiece (keep : Bool) (seen : Seen) (number : ℕ) (opened : OpenedPiece) : Type 0 where
  pub piece : IsPiece seen number opened.piece
  pub kept : keep ≡ true → AreCallsIn seen number opened.kept

-- what is found in each piece, in the order of their numbers: so many that no predicate is left out
pub record AreOpened (keep : Bool) (seen : Seen) (found : List (Result OpenedPiece AllocError)) : Type 0 where
  pub as_many : (number : ℕ) → number * PIECE_SIZE < length seen.predicates → number < length found
  pub each : AllZip (λ number one. IfOk one (IsOpenedPiece keep seen number)) (range_with_len 0 (length found)) found

-- the pieces of all predicates, as they were opened
pub record AreOpenedPieces (keep : Bool) (seen : Seen) (opened : List OpenedPiece) : Type 0 where
  pub as_many : (number : ℕ) → number * PIECE_SIZE < length seen.predicates → number < length opened
  pub each : (number : ℕ) (one : OpenedPiece) → slice_get opened number ≡ Some one → IsOpenedPiece keep seen number one

-- the lists of each, and the calls that are kept of each
abbrev pub pieces_of : List OpenedPiece → List Piece
pieces_of opened = map (λ (one : OpenedPiece). one.piece) opened

abbrev pub kept_of : List OpenedPiece → List PieceCalls
kept_of opened = map (λ (one : OpenedPiece). one.kept) opened
