-- Quoted items (ISO/IEC 13211-1, 6.4.2): what stands between a quote and the one that closes it.
use Rattle.std.specs.Prelude.{◌≡◌, ◌≢◌, ℕ, ◌+◌, ◌<◌, ◌≤◌, ◌⊎◌, List, [], ◌∷◌, Option, length, slice_index}
use Rattle.prolog_tokens.specs.Escapes.{IsEscape}

-- the parts of a quoted item: a byte that stands for itself, the quote written twice, an escape
pub data Part : Type 0 where
  plain : ℕ → Part
  twice : Part
  escape : Option ℕ → Part

abbrev pub PartBy : List ℕ → ℕ → ℕ → ℕ → Part → Type 0
PartBy text q a b (plain x) = (slice_index text a ≡ x) × (x ≢ q) × (x ≢ 92) × (b ≡ a + 1)
PartBy text q a b twice = (slice_index text a ≡ q) × (slice_index text (a + 1) ≡ q) × (b ≡ a + 2)
PartBy text q a b (escape c) = IsEscape text a c b

-- the part, within the text, from a up to b
pub record IsPart (text : List ℕ) (q a : ℕ) (p : Part) (b : ℕ) : Type 0 where
  pub within : b ≤ length text
  pub by : PartBy text q a b p

-- parts one after another, from one place up to another
abbrev pub AreParts : List ℕ → ℕ → ℕ → List Part → ℕ → Type 0
AreParts text q a [] b = a ≡ b
AreParts text q a (p ∷ ps) b = (m : ℕ) × IsPart text q a p m × AreParts text q m ps b

pub record PartsLead (text : List ℕ) (q a b : ℕ) : Type 0 where
  pub parts : List Part
  pub are : AreParts text q a parts b

abbrev pub NoPart : List ℕ → ℕ → ℕ → Type 0
NoPart text q a = (p : Part) (b : ℕ) → IsPart text q a p b → ⊥

-- the quotes: single, double, back
abbrev pub IsQuote : ℕ → Type 0
IsQuote q = (q ≡ 39) ⊎ ((q ≡ 34) ⊎ (q ≡ 96))

-- a quoted item from a to b: its parts, and a quote that stands alone
pub record IsQuoted (text : List ℕ) (q a b : ℕ) : Type 0 where
  pub opens : slice_index text a ≡ q
  pub close : ℕ
  pub lead : PartsLead text q (a + 1) close
  pub closes : slice_index text close ≡ q
  pub alone : slice_index text (close + 1) ≢ q
  pub ends : b ≡ close + 1

-- the first backslash of the item at which no escape stands
pub record IsBadEscape (text : List ℕ) (q a p : ℕ) : Type 0 where
  pub opens : slice_index text a ≡ q
  pub lead : PartsLead text q (a + 1) p
  pub backslash : slice_index text p ≡ 92
  pub none : NoPart text q p

-- the item goes on to the end of the text
pub record IsOpenQuote (text : List ℕ) (q a : ℕ) : Type 0 where
  pub within : a < length text
  pub opens : slice_index text a ≡ q
  pub lead : PartsLead text q (a + 1) (length text)
