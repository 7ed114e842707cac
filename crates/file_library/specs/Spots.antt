-- Spots of files: the place of a file among texts, and an offset of its text.
use Rattle.std.specs.Prelude.{ℕ, ◌≡◌, ◌<◌, ◌≤◌, ◌⊎◌, List, Some, Vec, All, AllPairs, length, map, slice_get}
use Rattle.std.specs.declared.alloc.Global.{Global}
use Rattle.prolog_tokens.specs.declared.token.Place.{Place}
use Rattle.prolog_tokens.specs.Places.{IsOffset, IsPlace}
use Rattle.prolog_tokens.specs.declared.limits.TheConstants.{MOST_BYTES}
use Rattle.file_library.specs.declared.limits.TheConstants.{MOST_FILES}
use Rattle.file_library.specs.Loaded.{NamedText}

abbrev pub texts_of : List (List ℕ × Vec ℕ Global) → List NamedText
texts_of texts = map (λ text. (text.0, text.1.items)) texts

-- no more texts than files are loaded, and none of them too large
pub record AreLimited (texts : List NamedText) : Type 0 where
  pub few : length texts ≤ MOST_FILES
  pub small : All (λ (text : NamedText). length text.1 ≤ MOST_BYTES) texts

-- the offset is one of the text at that place
pub record StandsInText (texts : List NamedText) (file offset : ℕ) : Type 0 where
  pub text : NamedText
  pub is : slice_get texts file ≡ Some text
  pub stands : IsOffset text.1 offset

-- in an earlier file, or not behind it in the same one
abbrev pub IsUpto : ℕ × ℕ → ℕ × ℕ → Type 0
IsUpto a b = (a.0 < b.0) ⊎ ((a.0 ≡ b.0) × (a.1 ≤ b.1))

-- by file and offset, each at an offset of the text of its file
pub record AreSpots (texts : List NamedText) (spots : List (ℕ × ℕ)) : Type 0 where
  pub ordered : AllPairs IsUpto spots
  pub stand : All (λ (s : ℕ × ℕ). StandsInText texts s.0 s.1) spots

-- the line and the column of the spot in its file
pub record IsSpotPlace (texts : List NamedText) (s : ℕ × ℕ) (place : Place) : Type 0 where
  pub text : NamedText
  pub is : slice_get texts s.0 ≡ Some text
  pub stands : IsPlace text.1 s.1 place
