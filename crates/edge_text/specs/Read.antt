-- What is read of lines so far.
use Rattle.std.specs.Prelude.{◌≡◌, ℕ, ◌+◌, ◌<◌, ◌≤◌, ◌⊎◌, ◌++◌, Bool, true, false, List, [], length, map, All, Contains}
use Rattle.flat_graph.specs.declared.edge.Edge.{Edge}
use Rattle.list_laws.specs.Counts.{IsLonger}
use Rattle.byte_names.specs.Names.{name_at}
use Rattle.edge_text.specs.declared.limits.TheConstants.{MOST_EDGES}
use Rattle.edge_text.specs.EdgeGraph.{Call, call_of, calls_of, calls_said, Said, said_in}
use Rattle.edge_text.specs.Lines.{said_by}

-- the names, some of them perhaps more than once, and the calls between them
pub record Read : Type 0 where
  pub names : List (List ℕ)
  pub calls : List Call

-- an edge between names is a call
abbrev pub call_at : List (List ℕ) → Edge → Call
call_at names edge = call_of (name_at names edge.from) (name_at names edge.to)

abbrev pub read_of : List (List ℕ) → List Edge → Read
read_of names edges = record { names = names; calls = map (call_at names) edges }

-- the new names are the old ones and after them some of the words, and each of the words is among them
pub record AreAdded (words old new : List (List ℕ)) : Type 0 where
  pub longer : IsLonger old new
  pub only : All (λ name. Contains old name ⊎ Contains words name) new
  pub all : All (Contains new) words

-- the name has the index
pub record IsNamed (name : List ℕ) (names : List (List ℕ)) (place : ℕ) : Type 0 where
  pub within : place < length names
  pub is : name_at names place ≡ name

-- what a line says is added
pub record IsLineRead (line : List ℕ) (old new : Read) : Type 0 where
  pub names : AreAdded (said_by line) old.names new.names
  pub calls : new.calls ≡ old.calls ++ calls_of (said_by line)

-- all that is said is read, where that isn't too many calls
pub record IsWholeRead (said : Said) (read : Read) : Type 0 where
  pub names : AreAdded said.names [] read.names
  pub calls : read.calls ≡ said.calls
  pub few : length read.calls ≤ MOST_EDGES

abbrev pub IsTextRead : List ℕ → Read → Bool → Type 0
IsTextRead text read true = IsWholeRead (said_in text) read × (length read.names ≤ length text + 1)
IsTextRead text read false = MOST_EDGES < length (calls_said text)
