-- What a library of files answers.
use Rattle.std.specs.Prelude.{◌≡◌, ℕ, ◌+◌, ◌≤◌, ◌⊎◌, List, [], ◌∷◌, ◌++◌, Option, Some, None, if◌then◌else◌, length, map, take}
use Rattle.std.specs.Str.{bytes_eq}
use Rattle.file_library.specs.Counts.{Rose}
use Rattle.file_library.specs.declared.library.Read.{Read}
use Rattle.file_library.specs.declared.library.Read.TheVariants.{Found, Absent, Failed, NoMemory}

-- the bytes of each file that is there, by its name
abbrev pub Files : Type 0
Files = List ℕ → Option (List ℕ)

-- what was answered for a name: the bytes that were handed over, or that there is no such file
pub record Answered : Type 0 where
  pub name : List ℕ
  pub text : Option (List ℕ)

abbrev pub names_of : List Answered → List (List ℕ)
names_of answers = map (λ (answer : Answered). answer.name) answers

-- the map that the answers are; it has no other files
abbrev pub map_of : List Answered → Files
map_of [] name = None
map_of (answer ∷ answers) name = if bytes_eq answer.name name then answer.text else map_of answers name

-- what is seen of a library: the map that it stands for, where it tells that; the names that it was asked for, and what it answered, in order; and its counts
-- of faults and of misses
pub record LibrarySeen : Type 0 where
  pub told : Option Files
  pub asked : List (List ℕ)
  pub answers : List Answered
  pub faults : ℕ
  pub misses : ℕ

abbrev pub library_seen : Option Files → List (List ℕ) → List Answered → ℕ → ℕ → LibrarySeen
library_seen told asked answers faults misses = record { told = told; asked = asked; answers = answers; faults = faults; misses = misses }

-- a library later on: it stands for the same map, and its counts have not fallen
pub record IsLater (before after : LibrarySeen) : Type 0 where
  pub same_files : after.told ≡ before.told
  pub faults_kept : before.faults ≤ after.faults
  pub misses_kept : before.misses ≤ after.misses

-- the room holds the file, or one byte more than the limit where it is longer
pub record IsFound (files : Files) (name : List ℕ) (limit : ℕ) (room : List ℕ) : Type 0 where
  pub bytes : List ℕ
  pub has : files name ≡ Some bytes
  pub is : room ≡ take (limit + 1) bytes

-- what stands in the room after each answer, over the map, where the library tells that
abbrev pub ReadIs : LibrarySeen → LibrarySeen → List ℕ → ℕ → List ℕ → Read → Type 0
ReadIs before after name limit room Found =
    (length room ≤ limit + 1) × ((files : Files) → before.told ≡ Some files → IsFound files name limit room)
ReadIs before after name limit room Absent =
    (room ≡ []) × Rose before.misses after.misses × ((files : Files) → before.told ≡ Some files → files name ≡ None)
ReadIs before after name limit room Failed = (room ≡ []) × Rose before.faults after.faults
ReadIs before after name limit room NoMemory = room ≡ []

-- the name is last among the names asked for; where memory was wanting they may be as before
abbrev pub AskedIs : List (List ℕ) → List (List ℕ) → List ℕ → Read → Type 0
AskedIs old new name NoMemory = (new ≡ old) ⊎ (new ≡ old ++ name ∷ [])
AskedIs old new name _ = new ≡ old ++ name ∷ []

-- the bytes that were found are what was answered last, or that there is no such file; else nothing more was answered
abbrev pub AnsweredIs : List Answered → List Answered → List ℕ → List ℕ → Read → Type 0
AnsweredIs old new name room Found = new ≡ old ++ record { name = name; text = Some room } ∷ []
AnsweredIs old new name room Absent = new ≡ old ++ record { name = name; text = None } ∷ []
AnsweredIs old new name room Failed = new ≡ old
AnsweredIs old new name room NoMemory = new ≡ old
