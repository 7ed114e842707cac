-- How a run ends, and what its sinks have taken.
use Rattle.std.specs.Prelude.{◌≡◌, ℕ, ◌<◌, ◌≤◌, ◌⊎◌, List, Option, Some, None, length, if◌then◌else◌}
use Rattle.edge_text.specs.declared.limits.TheConstants.{MOST_BYTES}
use Rattle.file_library.specs.Library.{Files}
use Rattle.component_report.specs.declared.form.Form.TheVariants.{Lines, Json}
use Rattle.component_answer.specs.declared.answer.Answer.{Answer}
use Rattle.component_answer.specs.declared.answer.Wanted.{Wanted}
use Rattle.component_answer.specs.Answers.{IsAnswer as IsTextAnswer}
use Rattle.tool_run.specs.Run.{Taking, IsWritten}
use Rattle.component_words.specs.Settings.{AreLawful, IsUnlawful, Settings}
use Rattle.component_tool.specs.End.{End, usage, unread, too_large, output, no_memory, status_of, err_of, end_of_answer}
use Rattle.component_tool.specs.Source.{Asking, HandedOver}

-- what is right to say

-- a text has too many bytes
pub record IsTooLarge (file text : List ℕ) (end : End) : Type 0 where
  pub large : MOST_BYTES < length text
  pub is : end ≡ too_large file

-- what is wanted of the report
abbrev pub wanted_of : Settings → Wanted
wanted_of settings = record { order = settings.order; form = if settings.json then Json else Lines; loops = settings.loops; from_json = settings.from_json }

-- or it is answered with this
pub record IsAnswered (settings : Settings) (text : List ℕ) (end : End) : Type 0 where
  pub within : length text ≤ MOST_BYTES
  pub answer : Answer
  pub right : IsTextAnswer text settings.roots (wanted_of settings) answer
  pub is : end ≡ end_of_answer settings.file settings.roots answer

-- of a text, or where there is none to be read
abbrev pub IsTextEnd : Settings → Option (List ℕ) → End → Type 0
IsTextEnd settings None end = end ≡ unread settings.file
IsTextEnd settings (Some text) end = IsTooLarge settings.file text end ⊎ IsAnswered settings text end

-- lawful words ask for what is right to say of the text that they name
pub record IsLawfulAnswer (words : List (List ℕ)) (files : Files) (end : End) : Type 0 where
  pub settings : Settings
  pub lawful : AreLawful words settings
  pub right : IsTextEnd settings (files settings.file) end

-- the answer to words over a map of texts
abbrev pub IsAnswer : List (List ℕ) → Files → End → Type 0
IsAnswer words files end = (IsUnlawful words × (end ≡ usage)) ⊎ IsLawfulAnswer words files end

-- why a run ends so

-- the source handed over a text, or that there is none to be read, and this is right to say of it; over the source's map, where it tells that, it is right too
pub record IsReadEnd (settings : Settings) (source : Asking) (end : End) : Type 0 where
  pub text : Option (List ℕ)
  pub given : HandedOver settings.file text source.0 source.1
  pub right : IsTextEnd settings text end
  pub told_too : (files : Files) → source.0.told ≡ Some files → IsTextEnd settings (files settings.file) end

-- lawful words ask for what is read so
pub record IsLawfulEnd (words : List (List ℕ)) (source : Asking) (end : End) : Type 0 where
  pub settings : Settings
  pub lawful : AreLawful words settings
  pub read : IsReadEnd settings source end

-- words aren't lawful, and the source was asked for nothing
pub record IsUsageEnd (words : List (List ℕ)) (source : Asking) (end : End) : Type 0 where
  pub unlawful : IsUnlawful words
  pub left : source.1 ≡ source.0
  pub is : end ≡ usage

-- memory was wanting, words aren't lawful, or what is read
abbrev pub EndIs : List (List ℕ) → Asking → End → Type 0
EndIs words source end = (end ≡ no_memory) ⊎ (IsUsageEnd words source end ⊎ IsLawfulEnd words source end)

-- what the sinks have taken

-- the report goes to `out`, all else to `err`
abbrev pub EndsBy : ℕ → Taking → Taking → End → Type 0
EndsBy result out err (output bytes) = IsWritten bytes 0 result out err
EndsBy result out err end = IsWritten (err_of end) (status_of end) result err out

-- the bytes of the end are put, or there was no memory for them and that is said
abbrev pub PutsEnd : ℕ → Taking → Taking → End → Type 0
PutsEnd result out err end = EndsBy result out err end ⊎ EndsBy result out err no_memory

-- the run ends so, for this cause, and its bytes are put
pub record IsRun (words : List (List ℕ)) (source : Asking) (out err : Taking) (result : ℕ) : Type 0 where
  pub end : End
  pub cause : EndIs words source end
  pub written : EndsBy result out err end
