-- What a read of a library is as an answer.
use Rattle.std.proofs.Common.{◌≡◌, ℕ, ◌+◌, ◌≤◌, List, [], ◌∷◌, ◌++◌, Option, Some, None, Result, Ok, Err, IfOk, IfErr, OnOk, length, take, option_map, sym, subst, ◌∙◌, ap, arith}
use Rattle.std.proofs.lemmas.List.Elements.{All-cons, All-nil}
use Rattle.std.proofs.lemmas.List.Sums.{sum_by-cons}
use Rattle.file_library.specs.declared.limits.TheConstants.{MOST_TEXT}
use Rattle.file_library.specs.Library.{Files, Answered, LibrarySeen, IsFound}
use Rattle.prolog_tokens.specs.declared.limits.TheConstants.{MOST_BYTES}
use Rattle.file_library.specs.Asking.{seen_of}
use Rattle.file_library.specs.Answers.{see_answer, bytes_of, IsTrueAnswer, AreAnswers, GivesText, HasGiven, StopsAt, IsTooLong}
use Rattle.file_library.specs.declared.answer.Answer.{Answer}
use Rattle.file_library.specs.declared.loaded.LoadStop.{LoadStop}
use Rattle.file_library.specs.declared.loaded.LoadStop.TheVariants.{Faults, ReadFault, TooManyFiles, FileTooLarge, TooMuchText, NoMemory}

-- what was found is what is seen of the map
pub seen_found : (files : Files) (name room : List ℕ) → IsFound files name MOST_BYTES room → Some room ≡ seen_of files name
seen_found files name room found = sym (ap (option_map (take (MOST_BYTES + 1))) found.has ∙ ap (λ bytes. Some bytes) (sym found.is))

module _ (before after : LibrarySeen) (total : ℕ) where
  -- one answer with no bytes too many
  pub one_answer : (answer : Answered) → IsTrueAnswer before after answer → bytes_of answer ≤ MOST_BYTES → total + bytes_of answer ≤ MOST_TEXT
      → AreAnswers before after total (answer ∷ [])
  one_answer answer is small fits = record {
    are_true = All-cons (IsTrueAnswer before after) answer [] is (All-nil (IsTrueAnswer before after));
    small = All-cons (λ a. bytes_of a ≤ MOST_BYTES) answer [] small (All-nil (λ a. bytes_of a ≤ MOST_BYTES));
    together = omega (arith, fits, sum_by-cons bytes_of answer []);
  }

  found_true : (name room : List ℕ) → ((files : Files) → before.told ≡ Some files → IsFound files name MOST_BYTES room) → IsTrueAnswer before after (record { name = name; text = Some room })
  found_true name room found = record {
    seen = λ files is. seen_found files name room (found files is);
    missed = λ is. let both : Some room ≡ None = is in absurd (cc);
  }

  pub found_answers : (name also room : List ℕ) (result : Result Answer LoadStop) → also ≡ name → ((files : Files) → before.told ≡ Some files → IsFound files name MOST_BYTES room)
      → IfOk result (λ answer. see_answer answer ≡ record { name = also; text = Some room })
      → OnOk result ((length room ≤ MOST_BYTES) × (total + length room ≤ MOST_TEXT))
      → IfOk result (λ answer. AreAnswers before after total (see_answer answer ∷ []))
  found_answers name also room (Ok answer) same found is fits =
      let whole : record { name = name; text = Some room } ≡ see_answer answer = ap (λ n. record { name = n; text = Some room }) (sym same) ∙ sym is in
      subst (λ a. AreAnswers before after total (a ∷ [])) whole (one_answer (record { name = name; text = Some room }) (found_true name room found) fits.0 fits.1)
  found_answers name also room (Err stop) same found is fits = tt

  -- what was handed over is the answer
  pub found_gained : (name also room : List ℕ) (result : Result Answer LoadStop) → also ≡ name → after.asked ≡ before.asked ++ name ∷ []
      → after.answers ≡ before.answers ++ record { name = name; text = Some room } ∷ []
      → IfOk result (λ answer. see_answer answer ≡ record { name = also; text = Some room })
      → IfOk result (λ answer. HasGiven before after (name ∷ []) (see_answer answer ∷ []))
  found_gained name also room (Ok answer) same put given is =
      let whole : record { name = name; text = Some room } ≡ see_answer answer = ap (λ n. record { name = n; text = Some room }) (sym same) ∙ sym is in
      record { put = put; given = given ∙ ap (λ a. before.answers ++ a ∷ []) whole }
  found_gained name also room (Err stop) same put given is = tt

  -- what is too long stops
  too_long : (name also room : List ℕ) (stop : LoadStop) → also ≡ name → GivesText before after before.answers name room
      → IsTooLong also (length room) total stop → StopsAt before after before.answers name total stop
  too_long name also room (FileTooLarge file) same gives long = (long.0 ∙ same, (room, long.1, gives))
  too_long name also room TooMuchText same gives long = (room, long.0, long.1, gives)
  too_long name also room (ReadFault file) same gives long = absurd long
  too_long name also room (Faults list) same gives long = absurd long
  too_long name also room TooManyFiles same gives long = absurd long
  too_long name also room NoMemory same gives long = absurd long

  pub found_stops : (name also room : List ℕ) (result : Result Answer LoadStop) → also ≡ name → ((files : Files) → before.told ≡ Some files → IsFound files name MOST_BYTES room)
      → after.answers ≡ before.answers ++ record { name = name; text = Some room } ∷ []
      → IfErr result (IsTooLong also (length room) total) → IfErr result (StopsAt before after before.answers name total)
  found_stops name also room (Ok answer) same found given long = tt
  found_stops name also room (Err stop) same found given long =
      too_long name also room stop same (record { given_last = given; seen = λ files is. seen_found files name room (found files is) }) long
