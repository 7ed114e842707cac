-- Where goals aren't callable: the place of a file, and an offset.
use Rattle.std.specs.Prelude.{ℕ, ◌≡◌, ◌↔◌, List, Option, Some, None, AllPairs, Contains, slice_get}
use Rattle.std.specs.declared.cmp.Ordering.TheVariants.{Less}
use Rattle.prolog_tokens.specs.Places.{IsPlace}
use Rattle.clause_text.specs.declared.cause.Cause.TheVariants.{NotCallable}
use Rattle.module_table.specs.Facts.{Facts}
use Rattle.file_library.specs.declared.fault.Fault.{Fault}
use Rattle.file_library.specs.Loaded.{NamedText}
use Rattle.import_rules.specs.Files.{pair_cmp}
use Rattle.import_rules.specs.Program.{Seen}
use Rattle.call_edges.specs.declared.piece.Piece.{Piece}
use Rattle.call_edges.specs.Goals.{Met, call, fault, Rows}
use Rattle.call_edges.specs.ProgramRows.{rows_of}
use Rattle.call_edges.specs.Calls.{IsAmong}
use Rattle.call_edges.specs.Bodies.{Body, IsMetInBody}
use Rattle.call_edges.specs.GoalFaults.{IsMetInFile}

-- the offset, where it is that of a goal that isn't callable
abbrev pub fault_at : Met → Option ℕ
fault_at (call at owner name arity more negated) = None
fault_at (fault at) = Some at

-- such a goal stands there, in the body
pub record IsFaultIn (T : Rows) (body : Body) (p : ℕ × ℕ) : Type 0 where
  pub in_file : p.0 ≡ body.file
  pub met : IsMetInBody T body (fault p.1)

-- just the places of such goals in the bodies
pub record AreFaultsIn (T : Rows) (bodies : List Body) (faults : List (ℕ × ℕ)) : Type 0 where
  pub each : (p : ℕ × ℕ) → Contains faults p ↔ IsAmong (IsFaultIn T) bodies p

-- just those of one piece or another
abbrev pub HasPlace : Piece → ℕ × ℕ → Type 0
HasPlace piece p = Contains piece.faults.items p

-- such a goal stands there, in the file
pub record IsFaultPlace (seen : Seen) (p : ℕ × ℕ) : Type 0 where
  pub file : Facts
  pub is : slice_get seen.loaded.files p.0 ≡ Some file
  pub met : IsMetInFile (rows_of seen) file (fault p.1)

-- all such places, in order and each once
pub record AreFaultPlaces (seen : Seen) (faults : List (ℕ × ℕ)) : Type 0 where
  pub ordered : AllPairs (λ a b. pair_cmp a b ≡ Less) faults
  pub each : (p : ℕ × ℕ) → Contains faults p ↔ IsFaultPlace seen p

-- the fault of a goal that stands at the offset of the text of the file
pub record IsPlacedAt (text : NamedText) (at : ℕ) (one : Fault) : Type 0 where
  pub in_file : one.file ≡ text.0
  pub offset : one.offset ≡ at
  pub cause : one.cause ≡ NotCallable
  pub stands : IsPlace text.1 at one.place

-- the fault of a goal that stands there
pub record IsPlaced (texts : List NamedText) (p : ℕ × ℕ) (one : Fault) : Type 0 where
  pub text : NamedText
  pub is : slice_get texts p.0 ≡ Some text
  pub placed : IsPlacedAt text p.1 one
