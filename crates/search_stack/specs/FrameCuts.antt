-- Where a list of frames can be cut.
use Rattle.std.specs.Prelude.{◌≡◌, ℕ, ◌<◌, ◌≤◌, List, length, slice_index_or}
use Rattle.search_stack.specs.declared.cut.Cut.{Cut}
use Rattle.search_stack.specs.declared.frame.Frame.{Frame}

-- the frame at a place
abbrev pub frame_in : List Frame → ℕ → Frame
frame_in frames b = slice_index_or frames b (record { position = 0; low = 0 })

-- a frame at or above a has a low below the position of a
pub record DipsIn (frames : List Frame) (a : ℕ) : Type 0 where
  pub frame : ℕ
  pub from : a ≤ frame
  pub within : frame < length frames
  pub is : (frame_in frames frame).low < (frame_in frames a).position

-- the greatest frame at or below the place such that no frame from it on has a low below its position
pub record IsGreatestCut (frames : List Frame) (place : ℕ) (cut : Cut) : Type 0 where
  pub within : cut.frame < length frames
  pub position_is : cut.position ≡ (frame_in frames cut.frame).position
  pub at_or_below : cut.position ≤ place
  pub lawful : DipsIn frames cut.frame → ⊥
  pub greatest : (b : ℕ) → cut.frame < b → b < length frames → (frame_in frames b).position ≤ place → DipsIn frames b
