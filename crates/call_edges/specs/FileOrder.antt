-- Predicates in the order in which they stand in the files.
use Rattle.std.specs.Prelude.{ℕ, ◌≡◌, ◌+◌, ◌*◌, List, [], ◌∷◌, Option, Some, None, map, slice_get}
use Rattle.prolog_terms.specs.Tree.{Tree}
use Rattle.prolog_terms.specs.Views.{start_of}
use Rattle.module_table.specs.Defined.{Predicate}
use Rattle.module_table.specs.Facts.{Facts}
use Rattle.import_rules.specs.Program.{Seen, places_in}
use Rattle.call_edges.specs.declared.starts.Start.{Start}

-- the offset at which the first of the clauses starts; 0 where there is none
abbrev pub first_offset : List Tree → ℕ
first_offset [] = 0
first_offset (clause ∷ clauses) = start_of clause

abbrev pub offset_in : Option Predicate → ℕ
offset_in (Some predicate) = first_offset predicate.clauses
offset_in None = 0

abbrev pub offset_at : ℕ → Option Facts → ℕ
offset_at part (Some file) = offset_in (slice_get file.defined part)
offset_at part None = 0

-- a number that rises with a place: by file, then by offset, which are below 2 to the 32
abbrev pub place_number : ℕ → ℕ → ℕ
place_number file offset = file * 4294967296 + offset

abbrev pub first_start : List Facts → List (ℕ × ℕ) → ℕ
first_start files [] = 0
first_start files (at ∷ more) = place_number at.0 (offset_at at.1 (slice_get files at.0))

-- the place at which the first clause of the predicate of that number starts
abbrev pub start_place : Seen → ℕ → ℕ
start_place seen node = first_start seen.loaded.files (places_in seen node)

abbrev pub start_in : Seen → ℕ → ℕ × ℕ
start_in seen node = (node, start_place seen node)

abbrev pub see_start : Start → ℕ × ℕ
see_start s = (s.node, s.place)

abbrev pub node_of : Start → ℕ
node_of s = s.node

-- they are these predicates in order, each with its place
abbrev pub AreStarts : Seen → List ℕ → List Start → Type 0
AreStarts seen nodes starts = map see_start starts ≡ map (start_in seen) nodes
