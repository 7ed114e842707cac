-- What a library answered for names, one after another.
use Rattle.std.specs.Prelude.{◌≡◌, ℕ, ◌+◌, ◌<◌, ◌≤◌, ◌⊎◌, List, [], ◌∷◌, ◌++◌, Option, Some, None, All, length, sum_by, option_map, unwrap_or}
use Rattle.file_library.specs.Counts.{Rose}
use Rattle.file_library.specs.Library.{Files, Answered, names_of, LibrarySeen}
use Rattle.prolog_tokens.specs.declared.limits.TheConstants.{MOST_BYTES}
use Rattle.file_library.specs.declared.limits.TheConstants.{MOST_TEXT}
use Rattle.file_library.specs.Asking.{seen_of}
use Rattle.file_library.specs.declared.answer.Answer.{Answer}
use Rattle.file_library.specs.declared.loaded.LoadStop.{LoadStop}
use Rattle.file_library.specs.declared.loaded.LoadStop.TheVariants.{Faults, ReadFault, TooManyFiles, FileTooLarge, TooMuchText, NoMemory}

abbrev pub see_answer : Answer → Answered
see_answer answer = record { name = answer.name; text = option_map (λ bytes. bytes.items) answer.bytes }

abbrev pub bytes_of : Answered → ℕ
bytes_of answer = unwrap_or (option_map (λ text. length text) answer.text) 0

-- the answer is what is seen of the library's map, where it tells that, and the misses rose where it is that there is no such file
pub record IsTrueAnswer (before after : LibrarySeen) (answer : Answered) : Type 0 where
  pub seen : (files : Files) → before.told ≡ Some files → answer.text ≡ seen_of files answer.name
  pub missed : answer.text ≡ None → Rose before.misses after.misses

-- the answers are true, no text is too large, and they aren't with what was read before
pub record AreAnswers (before after : LibrarySeen) (total : ℕ) (answers : List Answered) : Type 0 where
  pub are_true : All (IsTrueAnswer before after) answers
  pub small : All (λ answer. bytes_of answer ≤ MOST_BYTES) answers
  pub together : total + sum_by bytes_of answers ≤ MOST_TEXT

-- a text of so many bytes is too large by itself, or with what was read before
abbrev pub IsTooLong : List ℕ → ℕ → ℕ → LoadStop → Type 0
IsTooLong name size total (FileTooLarge file) = (file ≡ name) × (MOST_BYTES < size)
IsTooLong name size total TooMuchText = (size ≤ MOST_BYTES) × (MOST_TEXT < total + size)
IsTooLong name size total (ReadFault file) = ⊥
IsTooLong name size total (Faults list) = ⊥
IsTooLong name size total TooManyFiles = ⊥
IsTooLong name size total NoMemory = ⊥

-- the text was answered for the name, and nothing else; it is what is seen of the library's map, where it tells that
pub record GivesText (before after : LibrarySeen) (given : List Answered) (name text : List ℕ) : Type 0 where
  pub given_last : after.answers ≡ given ++ record { name = name; text = Some text } ∷ []
  pub seen : (files : Files) → before.told ≡ Some files → Some text ≡ seen_of files name

-- one name may have been answered, or none was
abbrev pub MayGive : List Answered → List Answered → Type 0
MayGive given given' = (given' ≡ given) ⊎ ((last : Answered) × (given' ≡ given ++ last ∷ []))

-- why no more than this name was asked for, when so many bytes were read and these answers given before
abbrev pub StopsAt : LibrarySeen → LibrarySeen → List Answered → List ℕ → ℕ → LoadStop → Type 0
StopsAt before after given name total (ReadFault file) = (file ≡ name) × Rose before.faults after.faults × (after.answers ≡ given)
StopsAt before after given name total (FileTooLarge file) =
    (file ≡ name) × ((text : List ℕ) × (MOST_BYTES < length text) × GivesText before after given name text)
StopsAt before after given name total TooMuchText =
    (text : List ℕ) × (length text ≤ MOST_BYTES) × (MOST_TEXT < total + length text) × GivesText before after given name text
StopsAt before after given name total NoMemory = MayGive given after.answers
StopsAt before after given name total (Faults list) = ⊥
StopsAt before after given name total TooManyFiles = ⊥

-- the name was asked for; where memory was wanting it may not have been
abbrev pub IsPut : List (List ℕ) → List (List ℕ) → List ℕ → LoadStop → Type 0
IsPut old new name NoMemory = (new ≡ old) ⊎ (new ≡ old ++ name ∷ [])
IsPut old new name stop = new ≡ old ++ name ∷ []

-- between these two the library was asked for just these names, and gave just these answers
pub record HasGiven (before after : LibrarySeen) (names : List (List ℕ)) (answers : List Answered) : Type 0 where
  pub put : after.asked ≡ before.asked ++ names
  pub given : after.answers ≡ before.answers ++ answers

-- the asking stopped within a wave: the names before this one were answered, and why it ends here
pub record StopsWave (before after : LibrarySeen) (wave : List (List ℕ)) (total : ℕ) (stop : LoadStop) : Type 0 where
  pub answers : List Answered
  pub are : AreAnswers before after total answers
  pub next : List ℕ
  pub rest : List (List ℕ)
  pub is : wave ≡ names_of answers ++ next ∷ rest
  pub put : IsPut (before.asked ++ names_of answers) after.asked next stop
  pub why : StopsAt before after (before.answers ++ answers) next (total + sum_by bytes_of answers) stop
