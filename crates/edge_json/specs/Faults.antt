-- Lines that are no edges.
use Rattle.std.specs.Prelude.{◌≡◌, ℕ, ◌+◌, ◌≤◌, List, length}
use Rattle.edge_text.specs.Faults.{line_at}
use Rattle.edge_json.specs.declared.cause.LineFault.{LineFault}
use Rattle.edge_json.specs.declared.decoded.Decoded.{Decoded}
use Rattle.edge_json.specs.declared.decoded.Decoded.TheVariants.{Lines, Fault}
use Rattle.edge_json.specs.Meaning.{bad, meaning_of}
use Rattle.edge_json.specs.Said.{json_said, said_of}

-- something is wrong with a line; lines count from 1
pub record IsFault (text : List ℕ) (fault : LineFault) : Type 0 where
  pub number : ℕ
  pub line_is : fault.line ≡ number + 1
  pub means : meaning_of (line_at text number) ≡ bad fault.cause

-- and with none before it
pub record IsFirstFault (text : List ℕ) (fault : LineFault) : Type 0 where
  pub is : IsFault text fault
  pub first : (other : LineFault) → IsFault text other → fault.line ≤ other.line

abbrev pub IsFaultless : List ℕ → Type 0
IsFaultless text = (fault : LineFault) → IsFault text fault → ⊥

-- the names of all lines, or the first line that is no edge
abbrev pub IsDecoded : List ℕ → Decoded → Type 0
IsDecoded text (Lines lines) = (said_of lines.items ≡ json_said text) × IsFaultless text × (length lines.items ≤ length text + 1)
IsDecoded text (Fault fault) = IsFirstFault text fault
