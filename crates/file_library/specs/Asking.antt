-- How the asking for files ends, over a map of files.
use Rattle.std.specs.Prelude.{◌≡◌, ℕ, ◌+◌, ◌<◌, ◌≤◌, ◌⊎◌, List, [], ◌∷◌, ◌++◌, Option, Some, None, Contains, length, take, sum_by, option_map, ⊤}
use Rattle.file_library.specs.Counts.{Rose}
use Rattle.file_library.specs.declared.fault.Fault.{Fault}
use Rattle.file_library.specs.Library.{Files, Answered, names_of, map_of, LibrarySeen}
use Rattle.file_library.specs.Asked.{AreInOrder, IsInWave, AreFirstWaves, AreWaves, names_in}
use Rattle.file_library.specs.FileLoads.{FileLoads}
use Rattle.file_library.specs.declared.limits.TheConstants.{MOST_FILES, MOST_TEXT}
use Rattle.prolog_tokens.specs.declared.limits.TheConstants.{MOST_BYTES}
use Rattle.file_library.specs.Loaded.{LoadedFiles, IsLoaded, AreLoadFaults, AreWithin, size_of}

-- these names are asked for first
pub record AreFirst (files : Files) (roots names : List (List ℕ)) : Type 0 where
  pub waves : List (List (List ℕ))
  pub are : AreFirstWaves (FileLoads files) roots waves
  pub rest : List (List ℕ)
  pub is : names_in waves ≡ names ++ rest
  pub few : length (names_in waves) ≤ MOST_FILES

-- all that is asked
pub record AreAll (files : Files) (roots names : List (List ℕ)) : Type 0 where
  pub waves : List (List (List ℕ))
  pub are : AreWaves (FileLoads files) roots waves
  pub is : names ≡ names_in waves
  pub few : length names ≤ MOST_FILES
  pub within : AreWithin files names

-- the next wave has more names than may be asked for
pub record AreTooMany (files : Files) (roots names : List (List ℕ)) : Type 0 where
  pub waves : List (List (List ℕ))
  pub are : AreFirstWaves (FileLoads files) roots waves
  pub is : names ≡ names_in waves
  pub few : length names ≤ MOST_FILES
  pub within : AreWithin files names
  pub next : List (List ℕ)
  pub ordered : AreInOrder next
  pub in_wave : (name : List ℕ) → Contains next name → IsInWave (FileLoads files) roots (length waves) name
  pub many : MOST_FILES < length names + length next

-- the names up to a last one, all before it within the limits
pub record LeadTo (files : Files) (roots names : List (List ℕ)) (last : List ℕ) : Type 0 where
  pub before : List (List ℕ)
  pub is : names ≡ before ++ last ∷ []
  pub first : AreFirst files roots names
  pub within : AreWithin files before

-- the names are asked for first, and they are within the limits, but for the last of them
pub record AreFirstWithin (files : Files) (roots names : List (List ℕ)) : Type 0 where
  pub first : AreFirst files roots names
  pub within : AreWithin files names ⊎ ((last : List ℕ) × LeadTo files roots names last)

pub record IsTooMuch (files : Files) (roots names : List (List ℕ)) : Type 0 where
  pub last : List ℕ
  pub leads : LeadTo files roots names last
  pub small : size_of files last ≤ MOST_BYTES
  pub much : MOST_TEXT < sum_by (size_of files) names

-- how the asking ends
pub data LoadEnd : Type 0 where
  loaded : LoadedFiles → LoadEnd
  faults : List Fault → LoadEnd
  unread : List ℕ → LoadEnd
  too_many : LoadEnd
  too_large : List ℕ → LoadEnd
  too_much : LoadEnd
  no_memory : LoadEnd

-- the map alone decides on the end: no read failed, and memory was ample
abbrev pub IsDecided : LoadEnd → Type 0
IsDecided (unread name) = ⊥
IsDecided no_memory = ⊥
IsDecided _ = ⊤

-- when it ends so over the map, the names being those that were asked for
abbrev pub LoadEndIs : Files → List (List ℕ) → List (List ℕ) → LoadEnd → Type 0
LoadEndIs files roots names (loaded found) = AreAll files roots names × IsLoaded files roots found
LoadEndIs files roots names (faults found) = AreAll files roots names × AreLoadFaults files roots found × (found ≡ [] → ⊥)
LoadEndIs files roots names (unread name) = LeadTo files roots names name
LoadEndIs files roots names too_many = AreTooMany files roots names
LoadEndIs files roots names (too_large name) = LeadTo files roots names name × (MOST_BYTES < size_of files name)
LoadEndIs files roots names too_much = IsTooMuch files roots names
LoadEndIs files roots names no_memory = AreFirstWithin files roots names

-- what is seen of a map when no file is read further than one byte past the limit
abbrev pub seen_of : Files → Files
seen_of files name = option_map (λ bytes. take (MOST_BYTES + 1) bytes) (files name)

-- all names were answered, but for the last where that could not be read or memory was wanting
abbrev pub AreAnswered : List (List ℕ) → List (List ℕ) → LoadEnd → Type 0
AreAnswered names answered (unread name) = names ≡ answered ++ name ∷ []
AreAnswered names answered no_memory = (names ≡ answered) ⊎ ((last : List ℕ) × (names ≡ answered ++ last ∷ []))
AreAnswered names answered end = names ≡ answered

-- the library gave just these answers; where memory was wanting it may have given one more
abbrev pub AreGiven : List Answered → List Answered → List Answered → LoadEnd → Type 0
AreGiven before after answers no_memory = (after ≡ before ++ answers) ⊎ ((last : Answered) × (after ≡ (before ++ answers) ++ last ∷ []))
AreGiven before after answers end = after ≡ before ++ answers

-- the asking for the roots ended so over the map that the library's answers are, which is what is seen of its own, where it tells that; only a last name that
-- could not be read, or for which memory was wanting, is without an answer
pub record HasEnded (before after : LibrarySeen) (roots : List (List ℕ)) (end : LoadEnd) : Type 0 where
  pub names : List (List ℕ)
  pub put : after.asked ≡ before.asked ++ names
  pub answers : List Answered
  pub given : AreGiven before.answers after.answers answers end
  pub answers_are : AreAnswered names (names_of answers) end
  pub as_told : (files : Files) → before.told ≡ Some files → (name : List ℕ) → Contains (names_of answers) name → map_of answers name ≡ seen_of files name
  pub missed : (name : List ℕ) → Contains (names_of answers) name → map_of answers name ≡ None → Rose before.misses after.misses
  pub is : LoadEndIs (map_of answers) roots names end

-- the asking for the roots ended as the files of this map decide, the names of the call being those that were asked for
pub record EndsAsTold (before after : LibrarySeen) (roots : List (List ℕ)) (files : Files) (end : LoadEnd) : Type 0 where
  pub names : List (List ℕ)
  pub put : after.asked ≡ before.asked ++ names
  pub is : LoadEndIs files roots names end
