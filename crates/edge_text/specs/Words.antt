-- Where words are in a line.
use Rattle.std.specs.Prelude.{◌≡◌, ℕ, ◌-◌, ◌<◌, ◌≤◌, ◌⊎◌, true, false, List, [], ◌∷◌, length, drop, slice_index, slice_range}
use Rattle.edge_text.specs.declared.words.Word.{Word}
use Rattle.edge_text.specs.Lines.{is_separator, words_of}

-- all bytes from one offset up to another separate words
abbrev pub AreSeparators : List ℕ → ℕ → ℕ → Type 0
AreSeparators line from to = (k : ℕ) → from ≤ k → k < to → is_separator (slice_index line k) ≡ true

-- none of them does
abbrev pub AreUnbroken : List ℕ → ℕ → ℕ → Type 0
AreUnbroken line from to = (k : ℕ) → from ≤ k → k < to → is_separator (slice_index line k) ≡ false

-- the bytes from one offset up to another are a word of the line: it is unbroken, and at both ends there is a separator or the end of the line
pub record IsWordAt (line : List ℕ) (start end : ℕ) : Type 0 where
  pub ordered : start < end
  pub within : end ≤ length line
  pub inside : AreUnbroken line start end
  pub opens : (start ≡ 0) ⊎ (is_separator (slice_index line (start - 1)) ≡ true)
  pub closes : (end ≡ length line) ⊎ (is_separator (slice_index line end) ≡ true)

-- the first word of what is left of a line
pub record IsNextWord (line : List ℕ) (from : ℕ) (word : Word) : Type 0 where
  pub after : from ≤ word.start
  pub ordered : word.start < word.end
  pub within : word.end ≤ length line
  pub skipped : AreSeparators line from word.start
  pub inside : AreUnbroken line word.start word.end
  pub closes : word.end < length line → is_separator (slice_index line word.end) ≡ true
  pub is : words_of (drop from line) ≡ slice_range line word.start word.end ∷ words_of (drop word.end line)

-- no word is left
pub record IsNoWord (line : List ℕ) (from : ℕ) : Type 0 where
  pub skipped : AreSeparators line from (length line)
  pub is : words_of (drop from line) ≡ []
