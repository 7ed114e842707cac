-- An asking that stopped is one that ended, over the map that its answers are.
use Rattle.std.proofs.Common.{◌≡◌, ℕ, ◌+◌, ◌<◌, ◌≤◌, List, [], ◌∷◌, ◌++◌, Option, Some, None, All, Contains, length, sum_by, get_or, refl, sym, subst, ◌∙◌, ap, inl, inr, arith, append-nil, option_map, unwrap_or}
use Rattle.std.specs.List.{AllPairs}
use Rattle.std.proofs.lemmas.List.{append_assoc, length-map, map-append}
use Rattle.std.proofs.lemmas.List.Elements.{All-append, All-cons, All-nil, Contains-get_or, Contains-append_left, Contains-append_right}
use Rattle.std.proofs.lemmas.List.Sums.{sum_by-append, sum_by-cons}
use Rattle.list_laws.proofs.OneOrder.{nothing_in, first_or_rest, in_rest, in_first, holds_of}
use Rattle.file_library.specs.Library.{Files, LibrarySeen, Answered, names_of, map_of}
use Rattle.prolog_tokens.specs.declared.limits.TheConstants.{MOST_BYTES}
use Rattle.file_library.specs.declared.limits.TheConstants.{MOST_FILES, MOST_TEXT}
use Rattle.file_library.specs.Loaded.{AreWithin, size_of}
use Rattle.file_library.specs.Asked.{AreFirstWaves, names_in}
use Rattle.file_library.specs.FileLoads.{FileLoads}
use Rattle.file_library.specs.Asking.{AreFirst, AreTooMany, LeadTo, IsTooMuch, LoadEnd, LoadEndIs, AreAnswered, AreGiven, HasEnded, seen_of}
use Rattle.file_library.specs.Answers.{bytes_of, IsTrueAnswer, AreAnswers, GivesText}
use Rattle.file_library.specs.AskAll.{Agrees, AreApart, HasTooMany, HasStopped}
use Rattle.file_library.specs.SortedOut.{end_of_stop}
use Rattle.file_library.specs.declared.loaded.LoadStop.{LoadStop}
use Rattle.file_library.specs.declared.loaded.LoadStop.TheVariants.{Faults, ReadFault, TooManyFiles, FileTooLarge, TooMuchText, NoMemory}
use Rattle.file_library.proofs.Lookups.{apart_from, map_agrees}
use Rattle.file_library.proofs.WaveLaws.{Names}

-- what is in a list of one is that one
only_one : (next name : List ℕ) → Contains (next ∷ []) name → next ≡ name
only_one next name has = elim (first_or_rest next name [] has) [ inl is ↦ is | inr later ↦ absurd (nothing_in name later) ]

-- the answer for a name
pub answer_named : (answers : List Answered) (name : List ℕ) → Contains (names_of answers) name → (answer : Answered) × Contains answers answer × (answer.name ≡ name)
answer_named [] name has = absurd (nothing_in name has)
answer_named (first ∷ rest) name has =
    elim (first_or_rest first.name name (names_of rest) has) [
      | inl is ↦ (first, in_first first rest, is)
      | inr later ↦ let from = answer_named rest name later in (from.0, in_rest first from.0 rest from.1, from.2)
    ]

-- answers for the names before a next one, and one for that, are for different names
with_last_apart : (answers : List Answered) (last : Answered) (rest : Names) → AllPairs (λ a b. a ≡ b → ⊥) (names_of answers ++ last.name ∷ rest) → AreApart (answers ++ last ∷ [])
with_last_apart answers last rest once =
    apart_from (answers ++ last ∷ []) rest
    (subst (AllPairs (λ a b. a ≡ b → ⊥))
    (sym (append_assoc (names_of answers) (last.name ∷ []) rest) ∙ ap (λ names. names ++ rest) (sym (map-append (λ (a : Answered). a.name) answers (last ∷ [])))) once)

-- sizes in a map are those of the answers with which it agrees

size_is : (seen : Files) (name : List ℕ) (answer : Answered) → seen name ≡ answer.text → size_of seen name ≡ bytes_of answer
size_is seen name answer is = ap (λ (text : Option (List ℕ)). unwrap_or (option_map (λ bytes. length bytes) text) 0) is

sizes_are : (seen : Files) (answers : List Answered) → Agrees seen answers → sum_by (size_of seen) (names_of answers) ≡ sum_by bytes_of answers
sizes_are seen [] agrees = refl
sizes_are seen (first ∷ rest) agrees =
    omega (
      arith,
      sum_by-cons (size_of seen) first.name (names_of rest),
      sum_by-cons bytes_of first rest,
      size_is seen first.name first (agrees first (in_first first rest)),
      sizes_are seen rest (λ answer has. agrees answer (in_rest first answer rest has)),
    )

module _ (before after : LibrarySeen) (roots : Names) (answers : List Answered) (waves : List Names) (are_answers : AreAnswers before after 0 answers)
    (are : (files : Files) → Agrees files answers → AreFirstWaves (FileLoads files) roots waves) (few : length (names_in waves) ≤ MOST_FILES) (seen : Files) (agrees : Agrees seen answers) where
  -- the answered names are within the limits
  pub within : AreWithin seen (names_of answers)
  within = record {
    each = λ k d less.
        let name = get_or (names_of answers) k d in
        let from = answer_named answers name (Contains-get_or (names_of answers) k d less) in
        let same : size_of seen name ≡ bytes_of from.0 = size_is seen name from.0 (ap seen (sym from.2) ∙ agrees from.0 from.1) in
        omega (arith, same, holds_of (λ answer. bytes_of answer ≤ MOST_BYTES) answers from.0 are_answers.small from.1);
    together = omega (arith, sizes_are seen answers agrees, are_answers.together);
  }

  -- names that come first in the waves are asked for first
  pub first_names : (names rest : Names) → names_in waves ≡ names ++ rest → AreFirst seen roots names
  first_names names rest is = record { waves = waves; are = are seen agrees; rest = rest; is = is; few = few }

  with_next : (next : List ℕ) (rest : Names) → names_in waves ≡ names_of answers ++ next ∷ rest → AreFirst seen roots (names_of answers ++ next ∷ [])
  with_next next rest is = first_names (names_of answers ++ next ∷ []) rest (is ∙ sym (append_assoc (names_of answers) (next ∷ []) rest))

  leads_to : (next : List ℕ) (rest : Names) → names_in waves ≡ names_of answers ++ next ∷ rest → LeadTo seen roots (names_of answers ++ next ∷ []) next
  leads_to next rest is = record { before = names_of answers; is = refl; first = with_next next rest is; within = within }

  too_many_names : HasTooMany before after roots answers waves → AreTooMany seen roots (names_of answers)
  too_many_names many = record {
    waves = waves;
    are = are seen agrees;
    is = sym many.is;
    few = omega (arith, few, ap (λ (names : Names). length names) many.is);
    within = within;
    next = many.next;
    ordered = many.ordered;
    in_wave = many.in_wave seen agrees;
    many = omega (arith, many.many, length-map answers (λ (a : Answered). a.name));
  }

  too_much_text : (next : List ℕ) (rest : Names) (text : List ℕ) → names_in waves ≡ names_of answers ++ next ∷ rest → seen next ≡ Some text → length text ≤ MOST_BYTES
      → MOST_TEXT < sum_by bytes_of answers + length text → IsTooMuch seen roots (names_of answers ++ next ∷ [])
  too_much_text next rest text is there small much =
      let size : size_of seen next ≡ length text = size_is seen next (record { name = next; text = Some text }) there in
      record {
        last = next;
        leads = leads_to next rest is;
        small = omega (arith, size, small);
        much = omega (arith, size, much, sizes_are seen answers agrees, sum_by-append (size_of seen) (names_of answers) (next ∷ []), sum_by-cons (size_of seen) next []);
      }

-- the asking ended so over the map that the answers are
pub answers_end : (before after : LibrarySeen) (roots names : Names) (answers : List Answered) (end : LoadEnd) → after.asked ≡ before.asked ++ names
    → AreGiven before.answers after.answers answers end → AreAnswered names (names_of answers) end → AreApart answers → All (IsTrueAnswer before after) answers
    → LoadEndIs (map_of answers) roots names end → HasEnded before after roots end
answers_end before after roots names answers end put given answered apart are_true is = record {
  names = names;
  put = put;
  answers = answers;
  given = given;
  answers_are = answered;
  as_told = λ files told name has.
      let from = answer_named answers name has in
      let true_one = holds_of (IsTrueAnswer before after) answers from.0 are_true from.1 in
      subst (λ n. map_of answers n ≡ seen_of files n) from.2 (map_agrees answers apart from.0 from.1 ∙ true_one.seen files told);
  missed = λ name has none.
      let from = answer_named answers name has in
      let true_one = holds_of (IsTrueAnswer before after) answers from.0 are_true from.1 in
      true_one.missed (sym (map_agrees answers apart from.0 from.1) ∙ (ap (map_of answers) from.2 ∙ none));
  is = is;
}

-- and one more answer, whose text is too long
module _ (before after : LibrarySeen) (roots : Names) (answers : List Answered) (are_answers : AreAnswers before after 0 answers) (next : List ℕ) (rest : Names)
    (once : AllPairs (λ a b. a ≡ b → ⊥) (names_of answers ++ next ∷ rest)) (text : List ℕ) (gives : GivesText before after (before.answers ++ answers) next text) where
  abbrev last : Answered
  last = record { name = next; text = Some text }

  abbrev with_last : List Answered
  with_last = answers ++ last ∷ []

  apart : AreApart with_last
  apart = with_last_apart answers last rest once

  last_agrees : Agrees (map_of with_last) answers
  last_agrees answer has = map_agrees with_last apart answer (Contains-append_left answers (last ∷ []) answer has)

  last_there : map_of with_last next ≡ Some text
  last_there = map_agrees with_last apart last (Contains-append_right answers (last ∷ []) last (in_first last []))

  last_true : IsTrueAnswer before after last
  last_true = record { seen = gives.seen; missed = λ none. let both : Some text ≡ None = none in absurd (cc) }

  last_named : names_of with_last ≡ names_of answers ++ next ∷ []
  last_named = map-append (λ (a : Answered). a.name) answers (last ∷ [])

  last_given : after.answers ≡ before.answers ++ with_last
  last_given = gives.given_last ∙ append_assoc before.answers answers (last ∷ [])

  ended_with : (end : LoadEnd) → after.asked ≡ (before.asked ++ names_of answers) ++ next ∷ [] → AreGiven before.answers after.answers with_last end
      → AreAnswered (names_of answers ++ next ∷ []) (names_of with_last) end
      → LoadEndIs (map_of with_last) roots (names_of answers ++ next ∷ []) end → HasEnded before after roots end
  ended_with end put given answered is =
      answers_end before after roots (names_of answers ++ next ∷ []) with_last end (put ∙ append_assoc before.asked (names_of answers) (next ∷ [])) given answered apart
      (All-append (IsTrueAnswer before after) answers (last ∷ []) are_answers.are_true (All-cons (IsTrueAnswer before after) last [] last_true (All-nil (IsTrueAnswer before after)))) is

-- an asking that stopped ended so
pub stop_ended : (before after : LibrarySeen) (roots : List (List ℕ)) (stop : LoadStop) → HasStopped before after roots stop → HasEnded before after roots (end_of_stop stop)
stop_ended before after roots (Faults list) stopped = absurd stopped.why.why
stop_ended before after roots (ReadFault file) stopped =
    let answers = stopped.answers in
    let at = stopped.why in
    let own = map_of answers in
    let apart = apart_from answers (at.next ∷ at.rest) (subst (AllPairs (λ a b. a ≡ b → ⊥)) at.is stopped.once) in
    answers_end before after roots (names_of answers ++ at.next ∷ []) answers (end_of_stop (ReadFault file))
    (at.put ∙ append_assoc before.asked (names_of answers) (at.next ∷ [])) at.why.2
    (ap (λ name. names_of answers ++ name ∷ []) (sym at.why.0)) apart stopped.are_answers.are_true
    (subst (LeadTo own roots (names_of answers ++ at.next ∷ [])) (sym at.why.0)
    (leads_to before after roots answers stopped.waves stopped.are_answers stopped.are stopped.few own (map_agrees answers apart) at.next at.rest at.is))
stop_ended before after roots TooManyFiles stopped =
    let answers = stopped.answers in
    let many = stopped.why in
    let apart = apart_from answers [] (subst (AllPairs (λ a b. a ≡ b → ⊥)) (many.is ∙ sym (append-nil (names_of answers))) stopped.once) in
    answers_end before after roots (names_of answers) answers (end_of_stop TooManyFiles) many.gained.put many.gained.given refl apart stopped.are_answers.are_true
    (too_many_names before after roots answers stopped.waves stopped.are_answers stopped.are stopped.few (map_of answers) (map_agrees answers apart) many)
stop_ended before after roots (FileTooLarge file) stopped =
    let answers = stopped.answers in
    let at = stopped.why in
    let text = at.why.1.0 in
    let gives = at.why.1.2 in
    let once = subst (AllPairs (λ a b. a ≡ b → ⊥)) at.is stopped.once in
    let own = map_of (with_last before after roots answers stopped.are_answers at.next at.rest once text gives) in
    let agrees = last_agrees before after roots answers stopped.are_answers at.next at.rest once text gives in
    let there = last_there before after roots answers stopped.are_answers at.next at.rest once text gives in
    let size : size_of own at.next ≡ length text = size_is own at.next (record { name = at.next; text = Some text }) there in
    let large : MOST_BYTES < size_of own at.next = omega (arith, size, at.why.1.1) in
    ended_with before after roots answers stopped.are_answers at.next at.rest once text gives (end_of_stop (FileTooLarge file)) at.put
    (last_given before after roots answers stopped.are_answers at.next at.rest once text gives)
    (sym (last_named before after roots answers stopped.are_answers at.next at.rest once text gives))
    (subst (λ name. LeadTo own roots (names_of answers ++ at.next ∷ []) name × (MOST_BYTES < size_of own name)) (sym at.why.0)
    (leads_to before after roots answers stopped.waves stopped.are_answers stopped.are stopped.few own agrees at.next at.rest at.is, large))
stop_ended before after roots TooMuchText stopped =
    let answers = stopped.answers in
    let at = stopped.why in
    let text = at.why.0 in
    let gives = at.why.3 in
    let once = subst (AllPairs (λ a b. a ≡ b → ⊥)) at.is stopped.once in
    let own = map_of (with_last before after roots answers stopped.are_answers at.next at.rest once text gives) in
    let agrees = last_agrees before after roots answers stopped.are_answers at.next at.rest once text gives in
    let there = last_there before after roots answers stopped.are_answers at.next at.rest once text gives in
    ended_with before after roots answers stopped.are_answers at.next at.rest once text gives (end_of_stop TooMuchText) at.put
    (last_given before after roots answers stopped.are_answers at.next at.rest once text gives)
    (sym (last_named before after roots answers stopped.are_answers at.next at.rest once text gives))
    (too_much_text before after roots answers stopped.waves stopped.are_answers stopped.are stopped.few own agrees at.next at.rest text at.is there at.why.1 at.why.2)
stop_ended before after roots NoMemory stopped =
    elim stopped.why [
      | inl between ↦
          let apart = apart_from answers between.rest (subst (AllPairs (λ a b. a ≡ b → ⊥)) between.is stopped.once) in
          answers_end before after roots (names_of answers) answers (end_of_stop NoMemory) between.gained.put (inl between.gained.given) (inl refl) apart stopped.are_answers.are_true
          (record {
            first = first_names before after roots answers stopped.waves stopped.are_answers stopped.are stopped.few own (map_agrees answers apart) (names_of answers) between.rest between.is;
            within = inl (within before after roots answers stopped.waves stopped.are_answers stopped.are stopped.few own (map_agrees answers apart));
          })
      | inr at ↦
          let apart = apart_from answers (at.next ∷ at.rest) (subst (AllPairs (λ a b. a ≡ b → ⊥)) at.is stopped.once) in
          elim at.put [
            | inl same ↦
                answers_end before after roots (names_of answers) answers (end_of_stop NoMemory) same at.why (inl refl) apart stopped.are_answers.are_true
                (record {
                  first = first_names before after roots answers stopped.waves stopped.are_answers stopped.are stopped.few own (map_agrees answers apart) (names_of answers) (at.next ∷ at.rest) at.is;
                  within = inl (within before after roots answers stopped.waves stopped.are_answers stopped.are stopped.few own (map_agrees answers apart));
                })
            | inr more ↦
                answers_end before after roots (names_of answers ++ at.next ∷ []) answers (end_of_stop NoMemory) (more ∙ append_assoc before.asked (names_of answers) (at.next ∷ [])) at.why
                (inr (at.next, refl)) apart stopped.are_answers.are_true
                (record {
                  first = with_next before after roots answers stopped.waves stopped.are_answers stopped.are stopped.few own (map_agrees answers apart) at.next at.rest at.is;
                  within = inr (at.next, leads_to before after roots answers stopped.waves stopped.are_answers stopped.are stopped.few own (map_agrees answers apart) at.next at.rest at.is);
                })
          ]
    ]
  where
    answers : List Answered
    answers = stopped.answers

    own : Files
    own = map_of answers
