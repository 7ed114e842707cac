-- Each command line over each map of texts has a right answer.
use Rattle.std.proofs.Common.{◌⊎◌, inl, inr, ℕ, List, Option, Some, None, length, refl}
use Rattle.std.proofs.lemmas.Bool.{cases_lt}
use Rattle.edge_text.specs.declared.limits.TheConstants.{MOST_BYTES}
use Rattle.file_library.specs.Library.{Files}
use Rattle.component_words.specs.Settings.{AreLawful, IsUnlawful, Settings}
use Rattle.component_answer.specs.declared.answer.Answer.{Answer}
use Rattle.component_answer.specs.declared.answer.Wanted.{Wanted}
use Rattle.component_answer.specs.Answers.{IsAnswer as IsTextAnswer}
use Rattle.component_tool.specs.End.{End, end_of_answer, too_large, unread, usage}
use Rattle.component_tool.specs.Run.{IsAnswer, IsTextEnd, wanted_of}

-- each text has a right answer
abbrev pub AnswersExist : Type 0
AnswersExist = (text : List ℕ) (roots : List (List ℕ)) (wanted : Wanted) → (answer : Answer) × IsTextAnswer text roots wanted answer

module _ (answers : AnswersExist) where
  text_end : (settings : Settings) (text : Option (List ℕ)) → (end : End) × IsTextEnd settings text end
  text_end settings None = (unread settings.file, refl)
  text_end settings (Some text) = elim (cases_lt MOST_BYTES (length text)) [
    | inl large ↦ (too_large settings.file, inl (record { large = large; is = refl }))
    | inr within ↦
        let found : (answer : Answer) × IsTextAnswer text settings.roots (wanted_of settings) answer = answers text settings.roots (wanted_of settings) in
        (end_of_answer settings.file settings.roots found.0, inr (record { within = within; answer = found.0; right = found.1; is = refl }))
  ]

  pub answer_of : (words : List (List ℕ)) (files : Files) → ((settings : Settings) × AreLawful words settings) ⊎ IsUnlawful words
      → (answer : End) × IsAnswer words files answer
  answer_of words files (inr unlawful) = (usage, inl (unlawful, refl))
  answer_of words files (inl found) =
      let right : (end : End) × IsTextEnd found.0 (files found.0.file) end = text_end found.0 (files found.0.file) in
      (right.0, inr (record { settings = found.0; lawful = found.1; right = right.1 }))
