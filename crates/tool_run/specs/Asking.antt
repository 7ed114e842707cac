-- How a library was asked for files in a run.
use Rattle.std.specs.Prelude.{◌≡◌, ℕ, ◌⊎◌, List, [], ◌∷◌, Option, Some, None}
use Rattle.file_library.specs.Counts.{Rose}
use Rattle.file_library.specs.Library.{Files, LibrarySeen}
use Rattle.file_library.specs.Asking.{LoadEnd, LoadEndIs, HasEnded, IsDecided}
use Rattle.file_library.specs.Asking as of_load
use Rattle.group_words.specs.Made.{made_text}
use Rattle.tool_run.specs.Wanted.{one_file, made_name}

-- what is seen of the library before and after
abbrev pub Asking : Type 0
Asking = LibrarySeen × LibrarySeen

-- where a file could not be read, the count of faults rose
abbrev pub IsCounted : ℕ → ℕ → LoadEnd → Type 0
IsCounted before after (of_load.unread name) = Rose before after
IsCounted before after end = Unit {0}

-- the asking for these files ended so
pub record EndsAsking (library : Asking) (roots : List (List ℕ)) (load : LoadEnd) : Type 0 where
  pub ended : HasEnded library.0 library.1 roots load
  pub counted : IsCounted library.0.faults library.1.faults load

-- the library was not asked
abbrev pub IsLeft : Asking → Type 0
IsLeft library = library.1 ≡ library.0

-- the map alone decided how the asking for these files ended
pub record IsDecidedEnd (files : Files) (roots : List (List ℕ)) (load : LoadEnd) : Type 0 where
  pub decided : IsDecided load
  pub asked : List (List ℕ)
  pub ends : LoadEndIs files roots asked load

-- the reading of files ended so: the library was asked for these; or it was left, and the one file was made and read, unless memory was wanting
abbrev pub EndsReading : Option ℕ → List (List ℕ) → Asking → LoadEnd → Type 0
EndsReading None names library load = EndsAsking library names load
EndsReading (Some count) names library load =
    IsLeft library × ((load ≡ of_load.no_memory) ⊎ IsDecidedEnd (one_file made_name (made_text count)) (made_name ∷ []) load)
