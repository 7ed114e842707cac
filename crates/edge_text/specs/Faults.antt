-- Faults of a text: names that are too long.
use Rattle.std.specs.Prelude.{◌≡◌, ℕ, ◌+◌, ◌-◌, ◌<◌, ◌≤◌, ◌⊎◌, false, List, [], slice_index_or}
use Rattle.edge_text.specs.declared.fault.Fault.{Fault}
use Rattle.edge_text.specs.declared.limits.TheConstants.{MOST_NAME}
use Rattle.edge_text.specs.Lines.{is_comment, lines_of}
use Rattle.edge_text.specs.Words.{IsWordAt}

-- the line with a number, from 0 on; past the last line it is empty
abbrev pub line_at : List ℕ → ℕ → List ℕ
line_at text number = slice_index_or (lines_of text) number []

-- in the line, which is no comment, a word begins there that is too long for a name
pub record IsLongName (line : List ℕ) (start : ℕ) : Type 0 where
  pub said : is_comment line ≡ false
  pub end : ℕ
  pub word : IsWordAt line start end
  pub long : MOST_NAME < end - start

-- it is the first of the line
pub record IsFirstLong (line : List ℕ) (start : ℕ) : Type 0 where
  pub is : IsLongName line start
  pub first : (other : ℕ) → IsLongName line other → start ≤ other

-- where a name is too long; lines and columns count from 1, and a column is a byte
pub record IsFault (text : List ℕ) (fault : Fault) : Type 0 where
  pub number : ℕ
  pub start : ℕ
  pub line_is : fault.line ≡ number + 1
  pub column_is : fault.column ≡ start + 1
  pub long : IsLongName (line_at text number) start

abbrev pub ComesBefore : Fault → Fault → Type 0
ComesBefore a b = (a.line < b.line) ⊎ ((a.line ≡ b.line) × (a.column < b.column))

-- the first fault of a text
pub record IsFirstFault (text : List ℕ) (fault : Fault) : Type 0 where
  pub is : IsFault text fault
  pub first : (other : Fault) → IsFault text other → ComesBefore other fault → ⊥
