-- What a run promises.
use Rattle.std.specs.Prelude.{◌≡◌, ◌≢◌, ℕ, ◌⊎◌, List, ◌++◌, Some}
use Rattle.file_library.specs.Counts.{Rose}
use Rattle.file_library.specs.Library.{Files, Answered, map_of}
use Rattle.tool_run.specs.Lines.{memory_line}
use Rattle.tool_run.specs.Run.{Taking, TookJust, TookNone}
use Rattle.component_tool.specs.End.{End, status_of, out_of, err_of}
use Rattle.component_tool.specs.Lines.{program_name}
use Rattle.component_tool.specs.Run.{IsAnswer, IsRun}
use Rattle.component_words.specs.Settings.{IsUnlawful}
use Rattle.component_tool.specs.Source.{Asking}

-- the sinks have taken the bytes of the right answer, and nothing else
pub record SaysAnswer (words : List (List ℕ)) (files : Files) (out err : Taking) (result : ℕ) : Type 0 where
  pub answer : End
  pub is_right : IsAnswer words files answer
  pub status : result ≡ status_of answer
  pub on_out : TookJust (out_of answer) out
  pub on_err : TookJust (err_of answer) err

-- the answer is the right one for just the text that the source handed over
pub record SaysHandedOver (words : List (List ℕ)) (source : Asking) (out err : Taking) (result : ℕ) : Type 0 where
  pub answers : List Answered
  pub given : source.1.answers ≡ source.0.answers ++ answers
  pub says : SaysAnswer words (map_of answers) out err result

-- memory was wanting, and that is said
pub record SaysNoMemory (out err : Taking) (result : ℕ) : Type 0 where
  pub status : result ≡ 7
  pub on_out : TookNone out
  pub on_err : TookJust (memory_line program_name) err

abbrev pub IsStatus : ℕ → Type 0
IsStatus result = (result ≡ 0) ⊎ ((result ≡ 2) ⊎ ((result ≡ 3) ⊎ ((result ≡ 4) ⊎ ((result ≡ 5) ⊎ ((result ≡ 6) ⊎ (result ≡ 7))))))

-- a run keeps each of these promises, over a source and two sinks, as they are seen before and after
pub record RunKeeps (words : List (List ℕ)) (source : Asking) (out err : Taking) (result : ℕ) : Type 0 where
  -- over a source that tells its texts, where no count of faults of a sink rose, the sinks took the bytes of the right answer, or memory was wanting
  pub answered :
      (files : Files) → source.0.told ≡ Some files → (Rose out.0.faults out.1.faults → ⊥) → (Rose err.0.faults err.1.faults → ⊥)
      → SaysAnswer words files out err result ⊎ SaysNoMemory out err result
  -- over any source, where no sink failed and memory was ample, they took those of the right answer to just the text that the source handed over
  pub handed_over : result ≢ 5 → result ≢ 7 → SaysHandedOver words source out err result
  -- the status is 0, or one from 2 to 7
  pub statuses : IsStatus result
  -- where words aren't lawful, the status is 2, unless a sink failed or memory was wanting, and the source is as before
  pub unlawful : IsUnlawful words → (result ≡ 2) ⊎ ((result ≡ 5) ⊎ (result ≡ 7))
  -- how the run ends, why, and what the sinks have taken: the other promises follow from it
  pub run : IsRun words source out err result
