-- What a run is asked for, which its words say or which is handed over.
use Rattle.std.specs.Prelude.{◌≡◌, ◌≢◌, ℕ, List, [], ◌∷◌, Option, Some, None, if◌then◌else◌, codes}
use Rattle.std.specs.Str.{bytes_eq}
use Rattle.file_library.specs.Library.{Files}
use Rattle.group_words.specs.Made.{made_text}
use Rattle.tool_run.specs.Tool.{Tool}

-- just this is wanted
abbrev pub IsJust : {A : Type 0} → A → A → Type 0
IsJust asked wanted = wanted ≡ asked

-- nothing is wanted: words aren't lawful
abbrev pub IsNothingAsked : {A : Type 0} → (A → Type 0) → Type 0
IsNothingAsked {A} wanted = (asked : A) → wanted asked → ⊥

-- no two things are wanted
abbrev pub IsOneAtMost : {A : Type 0} → (A → Type 0) → Type 0
IsOneAtMost {A} wanted = (asked other : A) → wanted asked → wanted other → asked ≡ other

-- no library is asked for files: whatever is wanted makes its own
abbrev pub AskForNone : {A : Type 0} → Tool A → (A → Type 0) → Type 0
AskForNone {A} tool wanted = (asked : A) → wanted asked → tool.make asked ≢ None

-- one file of that name, with that text
abbrev pub one_file : List ℕ → List ℕ → Files
one_file name text asked = if bytes_eq name asked then Some text else None

-- the name of the file that is made
abbrev pub made_name : List ℕ
made_name = codes "gen.pl"

-- the files that are read: those that are there, or the one that is made
abbrev pub files_read : Option ℕ → Files → Files
files_read None files = files
files_read (Some count) files = one_file made_name (made_text count)

-- and the names that are asked for
abbrev pub names_read : Option ℕ → List (List ℕ) → List (List ℕ)
names_read None names = names
names_read (Some count) names = made_name ∷ []
