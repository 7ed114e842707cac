-- The graph that names and calls are, as a text says them.
use Rattle.std.specs.Prelude.{◌≡◌, ℕ, ◌<◌, List, [], ◌∷◌, length, map, All, Contains}
use Rattle.std.specs.List.{flat_map}
use Rattle.std.specs.List.Sorted.{IsStrictlyIncreasing}
use Rattle.graph_law.specs.Graph.{Calls}
use Rattle.byte_names.specs.Names.{name_at, AreInOrder}
use Rattle.edge_text.specs.Lines.{lines_of, said_by}

-- the names of a caller and of one of its callees
pub record Call : Type 0 where
  pub caller : List ℕ
  pub callee : List ℕ

abbrev pub call_of : List ℕ → List ℕ → Call
call_of caller callee = record { caller = caller; callee = callee }

-- the calls of a line: its first word calls each of the others
abbrev pub calls_of : List (List ℕ) → List Call
calls_of [] = []
calls_of (caller ∷ callees) = map (call_of caller) callees

-- all that lines say, one line after the other
abbrev pub names_in : List (List ℕ) → List (List ℕ)
names_in lines = flat_map said_by lines

abbrev pub calls_in : List (List ℕ) → List Call
calls_in lines = flat_map (λ line. calls_of (said_by line)) lines

abbrev pub names_said : List ℕ → List (List ℕ)
names_said text = names_in (lines_of text)

abbrev pub calls_said : List ℕ → List Call
calls_said text = calls_in (lines_of text)

-- what is said: names of nodes, and calls between them
pub record Said : Type 0 where
  pub names : List (List ℕ)
  pub calls : List Call

-- what a text says
abbrev pub said_in : List ℕ → Said
said_in text = record { names = names_said text; calls = calls_said text }

-- the different names, in the order of their bytes
pub record AreNames (said : Said) (names : List (List ℕ)) : Type 0 where
  pub in_order : AreInOrder names
  pub only : All (Contains said.names) names
  pub all : All (Contains names) said.names

-- one name calls the other, by their numbers
abbrev pub SaysCall : Said → List (List ℕ) → ℕ → ℕ → Type 0
SaysCall said names p q = Contains said.calls (call_of (name_at names p) (name_at names q))

-- for each of the names the numbers of those that it calls, strictly ascending; the number of a name is its index
pub record AreCallees (said : Said) (names lists : List (List ℕ)) : Type 0 where
  pub each : length lists ≡ length names
  pub ascending : All IsStrictlyIncreasing lists
  pub below : (p q : ℕ) → p < length names → Calls lists p q → q < length names
  pub only : (p q : ℕ) → p < length names → Calls lists p q → SaysCall said names p q
  pub all : (p q : ℕ) → p < length names → q < length names → SaysCall said names p q → Calls lists p q

-- the graph of what is said: its names, and the lists of their callees
pub record IsEdgeGraph (said : Said) (names lists : List (List ℕ)) : Type 0 where
  pub nodes : AreNames said names
  pub callees : AreCallees said names lists
