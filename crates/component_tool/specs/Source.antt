-- What a source of texts answers.
use Rattle.std.specs.Prelude.{◌≡◌, ℕ, ◌+◌, ◌≤◌, List, [], ◌∷◌, ◌++◌, Option, Some, None, length, ⊤}
use Rattle.edge_text.specs.declared.limits.TheConstants.{MOST_BYTES}
use Rattle.file_library.specs.Library.{Files, Answered, IsFound}
use Rattle.component_tool.specs.declared.source.SourceRead.{SourceRead}
use Rattle.component_tool.specs.declared.source.SourceRead.TheVariants.{Found, Failed, NoMemory}

-- what is seen of a source: the map that it stands for, where it tells that, and what it answered, in order
pub record SourceSeen : Type 0 where
  pub told : Option Files
  pub answers : List Answered

abbrev pub source_seen : Option Files → List Answered → SourceSeen
source_seen told answers = record { told = told; answers = answers }

-- a source before and after
abbrev pub Asking : Type 0
Asking = SourceSeen × SourceSeen

abbrev pub answered : List ℕ → Option (List ℕ) → Answered
answered name text = record { name = name; text = text }

-- it answered just this once more
abbrev pub HandedOver : List ℕ → Option (List ℕ) → SourceSeen → SourceSeen → Type 0
HandedOver name text before after = after.answers ≡ before.answers ++ answered name text ∷ []

-- what stands in the room after each answer, over the map, where the source tells that
abbrev pub SourceReadIs : SourceSeen → List ℕ → List ℕ → SourceRead → Type 0
SourceReadIs before name room Found =
    (length room ≤ MOST_BYTES + 1) × ((files : Files) → before.told ≡ Some files → IsFound files name MOST_BYTES room)
SourceReadIs before name room Failed = (files : Files) → before.told ≡ Some files → files name ≡ None
SourceReadIs before name room NoMemory = ⊤

-- the bytes that were found are what was answered last, or that there is nothing to be read; else nothing more was answered
abbrev pub GivenIs : SourceSeen → SourceSeen → List ℕ → List ℕ → SourceRead → Type 0
GivenIs before after name room Found = HandedOver name (Some room) before after
GivenIs before after name room Failed = HandedOver name None before after
GivenIs before after name room NoMemory = after.answers ≡ before.answers
