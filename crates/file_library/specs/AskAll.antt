-- What was asked for, wave by wave, over every map that agrees with the answers.
use Rattle.std.specs.Prelude.{◌≡◌, ℕ, ◌+◌, ◌-◌, ◌<◌, ◌≤◌, ◌⊎◌, List, [], ◌∷◌, ◌++◌, Option, All, Contains, length, map, sum_by}
use Rattle.std.specs.List.{AllPairs}
use Rattle.file_library.specs.declared.limits.TheConstants.{MOST_FILES}
use Rattle.file_library.specs.Library.{Files, Answered, names_of, LibrarySeen}
use Rattle.file_library.specs.Asked.{IsInWave, AreInOrder, AreFirstWaves, AreWaves, names_in}
use Rattle.file_library.specs.FileLoads.{FileLoads}
use Rattle.file_library.specs.NextWave.{AddsFiles}
use Rattle.file_library.specs.Answers.{bytes_of, AreAnswers, HasGiven, StopsAt, IsPut, StopsWave}
use Rattle.file_library.specs.AskedFile.{FileFound, answered_of, loads_in, IsOfText}
use Rattle.file_library.specs.declared.loaded.LoadStop.{LoadStop}
use Rattle.file_library.specs.declared.loaded.LoadStop.TheVariants.{TooManyFiles, NoMemory}

abbrev pub answers_of : List FileFound → List Answered
answers_of found = map answered_of found

-- the map has of each file what was answered
abbrev pub Agrees : Files → List Answered → Type 0
Agrees files answers = (answer : Answered) → Contains answers answer → files answer.name ≡ answer.text

-- no two answers are for one name
abbrev pub AreApart : List Answered → Type 0
AreApart answers = AllPairs (λ a b. a.name ≡ b.name → ⊥) answers

-- the files of a wave were asked for
pub record HasAskedWave (before after : LibrarySeen) (wave : List (List ℕ)) (total : ℕ) (found : List FileFound) : Type 0 where
  pub ordered : AreInOrder wave
  pub names : names_of (answers_of found) ≡ wave
  pub gained : HasGiven before after wave (answers_of found)
  pub answers : AreAnswers before after total (answers_of found)
  pub of_texts : All IsOfText found

-- or some of them, when memory was wanting
pub record HasAskedSome (before after : LibrarySeen) (wave : List (List ℕ)) (total : ℕ) (stop : LoadStop) : Type 0 where
  pub wanting : stop ≡ NoMemory
  pub answers : List Answered
  pub are : AreAnswers before after total answers
  pub rest : List (List ℕ)
  pub is : wave ≡ names_of answers ++ rest
  pub gained : HasGiven before after (names_of answers) answers

abbrev pub StopsInWave : LibrarySeen → LibrarySeen → List (List ℕ) → ℕ → LoadStop → Type 0
StopsInWave before after wave total stop = StopsWave before after wave total stop ⊎ HasAskedSome before after wave total stop

-- all was asked for
pub record HasAskedAll (before after : LibrarySeen) (roots : List (List ℕ)) (found : List FileFound) : Type 0 where
  pub waves : List (List (List ℕ))
  pub are : (files : Files) → Agrees files (answers_of found) → AreWaves (FileLoads files) roots waves
  pub names : names_of (answers_of found) ≡ names_in waves
  pub gained : HasGiven before after (names_of (answers_of found)) (answers_of found)
  pub answers : AreAnswers before after 0 (answers_of found)
  pub few : length found ≤ MOST_FILES
  pub apart : AreApart (answers_of found)
  pub of_texts : All IsOfText found

-- the names of the waves are these and a next one, at which the asking stopped
pub record StopsAtName (before after : LibrarySeen) (answers : List Answered) (waves : List (List (List ℕ))) (stop : LoadStop) : Type 0 where
  pub next : List ℕ
  pub rest : List (List ℕ)
  pub is : names_in waves ≡ names_of answers ++ next ∷ rest
  pub put : IsPut (before.asked ++ names_of answers) after.asked next stop
  pub why : StopsAt before after (before.answers ++ answers) next (sum_by bytes_of answers) stop

-- there are more names in the next wave than may be asked for
pub record HasTooMany (before after : LibrarySeen) (roots : List (List ℕ)) (answers : List Answered) (waves : List (List (List ℕ))) : Type 0 where
  pub is : names_in waves ≡ names_of answers
  pub gained : HasGiven before after (names_of answers) answers
  pub next : List (List ℕ)
  pub ordered : AreInOrder next
  pub in_wave : (files : Files) → Agrees files answers → (name : List ℕ) → Contains next name → IsInWave (FileLoads files) roots (length waves) name
  pub many : MOST_FILES < length answers + length next

-- memory was wanting between two names
pub record StopsBetween (before after : LibrarySeen) (answers : List Answered) (waves : List (List (List ℕ))) : Type 0 where
  pub rest : List (List ℕ)
  pub is : names_in waves ≡ names_of answers ++ rest
  pub gained : HasGiven before after (names_of answers) answers

abbrev pub StopsBy : LibrarySeen → LibrarySeen → List (List ℕ) → List Answered → List (List (List ℕ)) → LoadStop → Type 0
StopsBy before after roots answers waves TooManyFiles = HasTooMany before after roots answers waves
StopsBy before after roots answers waves NoMemory = StopsBetween before after answers waves ⊎ StopsAtName before after answers waves NoMemory
StopsBy before after roots answers waves stop = StopsAtName before after answers waves stop

-- not all was asked for, and why
pub record HasStopped (before after : LibrarySeen) (roots : List (List ℕ)) (stop : LoadStop) : Type 0 where
  pub answers : List Answered
  pub are_answers : AreAnswers before after 0 answers
  pub waves : List (List (List ℕ))
  pub are : (files : Files) → Agrees files answers → AreFirstWaves (FileLoads files) roots waves
  pub few : length (names_in waves) ≤ MOST_FILES
  pub once : AllPairs (λ a b. a ≡ b → ⊥) (names_in waves)
  pub why : StopsBy before after roots answers waves stop

-- the names of a wave are known with those before, what was found comes behind the other files, and the next names are what it loads
pub record IsKept (known wave known' : List (List ℕ)) (files found files' : List FileFound) (next : List (List ℕ)) : Type 0 where
  pub sound : (name : List ℕ) → Contains known' name → Contains known name ⊎ Contains wave name
  pub all : (name : List ℕ) → Contains known name ⊎ Contains wave name → Contains known' name
  pub joined : files' ≡ files ++ found
  pub adds : AddsFiles known' (MOST_FILES - (length files + length found)) [] (loads_in found) next
