-- A wave that was read and parsed.
use Rattle.std.proofs.Common.{◌≡◌, ℕ, zero, suc, ◌<◌, ◌≤◌, List, [], ◌∷◌, ◌++◌, Option, All, length, map, get_or, refl, sym, subst, ◌∙◌, ap, arith, append-nil}
use Rattle.std.specs.List.{AllZip}
use Rattle.std.proofs.lemmas.List.{get_or-map, length-map}
use Rattle.file_library.specs.declared.limits.TheConstants.{MOST_TEXT}
use Rattle.file_library.specs.Library.{Answered, names_of, LibrarySeen}
use Rattle.file_library.specs.Asked.{AreInOrder}
use Rattle.file_library.specs.Answers.{see_answer, bytes_of, AreAnswers, HasGiven}
use Rattle.prolog_tokens.specs.declared.limits.TheConstants.{MOST_BYTES}
use Rattle.file_library.specs.AskedFile.{FileFound, see_file, IsOfText, IsParsed, IsSmall}
use Rattle.file_library.specs.AskAll.{answers_of, HasAskedWave, HasAskedSome}
use Rattle.file_library.specs.declared.answer.Answer.{Answer}
use Rattle.file_library.specs.declared.asked_file.AskedFile.{AskedFile}
use Rattle.file_library.specs.declared.loaded.LoadStop.TheVariants.{NoMemory}
use Rattle.file_library.proofs.AnswersJoined.{no_answers, none_given}

pub parsed_answers : (answers : List Answer) (files : List AskedFile) → AllZip IsParsed answers files → answers_of (map see_file files) ≡ map see_answer answers
parsed_answers [] [] zip = refl
parsed_answers [] (file ∷ files) zip = absurd zip
parsed_answers (answer ∷ answers) [] zip = absurd zip
parsed_answers (answer ∷ answers) (file ∷ files) zip =
    ap (λ a. a ∷ answers_of (map see_file files)) zip.0.answered ∙ ap (λ rest. see_answer answer ∷ rest) (parsed_answers answers files zip.1)

parsed_one : (answers : List Answer) (files : List AskedFile) → AllZip IsParsed answers files → (k : ℕ) (d : FileFound) → k < length (map see_file files) → IsOfText (get_or (map see_file files) k d)
parsed_one [] [] zip k d less = let none : ⊥ = omega (arith, less) in absurd none
parsed_one [] (file ∷ files) zip k d less = absurd zip
parsed_one (answer ∷ answers) [] zip k d less = absurd zip
parsed_one (answer ∷ answers) (file ∷ files) zip zero d less = zip.0.told
parsed_one (answer ∷ answers) (file ∷ files) zip (suc k) d less = let below : k < length (map see_file files) = omega (arith, less) in parsed_one answers files zip.1 k d below

pub small_answers : (answers : List Answer) → All (λ (answer : Answered). bytes_of answer ≤ MOST_BYTES) (map see_answer answers) → All IsSmall answers
small_answers answers small k d less =
    subst (λ answer. bytes_of answer ≤ MOST_BYTES) (get_or-map see_answer answers k d (see_answer d) less) (small k (see_answer d) (omega (arith, less, length-map answers see_answer)))

pub wave_asked : (before after : LibrarySeen) (wave : List (List ℕ)) (total : ℕ) (answers : List Answer) (files : List AskedFile)
    → AreInOrder wave → names_of (map see_answer answers) ≡ wave → HasGiven before after wave (map see_answer answers) → AreAnswers before after total (map see_answer answers)
    → AllZip IsParsed answers files → HasAskedWave before after wave total (map see_file files)
wave_asked before after wave total answers files ordered names gained are zip =
    let same : map see_answer answers ≡ answers_of (map see_file files) = sym (parsed_answers answers files zip) in
    record {
      ordered = ordered;
      names = ap names_of (sym same) ∙ names;
      gained = subst (HasGiven before after wave) same gained;
      answers = subst (AreAnswers before after total) same are;
      of_texts = parsed_one answers files zip;
    }

-- memory was wanting before a wave, or behind it
pub none_asked : (before : LibrarySeen) (wave : List (List ℕ)) (total : ℕ) → total ≤ MOST_TEXT → HasAskedSome before before wave total NoMemory
none_asked before wave total fits = record { wanting = refl; answers = []; are = no_answers before total fits; rest = wave; is = refl; gained = none_given before }

pub wave_read : (before after : LibrarySeen) (wave : List (List ℕ)) (total : ℕ) (answers : List Answered)
    → names_of answers ≡ wave → HasGiven before after wave answers → AreAnswers before after total answers → HasAskedSome before after wave total NoMemory
wave_read before after wave total answers names gained are = record {
  wanting = refl;
  answers = answers;
  are = are;
  rest = [];
  is = sym names ∙ sym (append-nil (names_of answers));
  gained = subst (λ n. HasGiven before after n answers) (sym names) gained;
}
