-- What a text of JSON Lines says.
use Rattle.std.specs.Prelude.{◌≡◌, ℕ, ◌<◌, ◌^◌, ◌⊎◌, ◌++◌, Bool, true, false, List, [], ◌∷◌, length, map}
use Rattle.std.specs.List.{flat_map}
use Rattle.edge_text.specs.declared.limits.TheConstants.{MOST_EDGES}
use Rattle.edge_text.specs.EdgeGraph.{calls_of, Said}
use Rattle.edge_text.specs.Lines.{lines_of}
use Rattle.edge_text.specs.Read.{IsWholeRead, Read}
use Rattle.edge_json.specs.Meaning.{Meaning, bad, meaning_of, says}
use Rattle.edge_json.specs.declared.line.Line.{Line}
use Rattle.edge_json.specs.declared.line.Line.TheVariants.{Blank, Edge, Bad}

abbrev pub see_line : Line → Meaning
see_line Blank = says []
see_line (Edge names) = says names
see_line (Bad cause) = bad cause

-- the names that a line says, if nothing is wrong with it
abbrev pub heard : Meaning → List (List ℕ)
heard (says names) = names
heard (bad cause) = []

abbrev pub heard_in : List ℕ → List (List ℕ)
heard_in line = heard (meaning_of line)

-- the names of a line are added, which needn't be if it says none
abbrev pub IsHeard : Meaning → List (List (List ℕ)) → List (List (List ℕ)) → Type 0
IsHeard (says names) old new = (new ≡ old ++ names ∷ []) ⊎ ((names ≡ []) × (new ≡ old))
IsHeard (bad cause) old new = ⊥

-- lists of names: the first of each list calls the others
abbrev pub said_of : List (List (List ℕ)) → Said
said_of lines = record { names = flat_map (λ line. line) lines; calls = flat_map calls_of lines }

-- what a text says, line by line
abbrev pub json_said : List ℕ → Said
json_said text = said_of (map heard_in (lines_of text))

-- all that is said is read, or it has too many calls
abbrev pub AreLinesRead : Said → Read → Bool → Type 0
AreLinesRead said read true = IsWholeRead said read × (length read.names < 2 ^ 32)
AreLinesRead said read false = MOST_EDGES < length said.calls
