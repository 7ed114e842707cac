-- The next wave, and how the asking stops.
use Rattle.std.proofs.Common.{◌≡◌, ℕ, suc, ◌+◌, ◌-◌, ◌<◌, ◌≤◌, List, [], ◌∷◌, ◌++◌, Option, Contains, length, sum_by, refl, sym, subst, ◌∙◌, ap, inl, inr, arith, append-nil}
use Rattle.std.specs.List.{AllPairs}
use Rattle.std.proofs.lemmas.Bool.{cases_lt}
use Rattle.std.proofs.lemmas.List.{map-append, append_assoc, flat_map_more, length-append}
use Rattle.std.proofs.lemmas.List.Elements.{Contains-append_right}
use Rattle.std.proofs.lemmas.List.Sums.{sum_by-append}
use Rattle.std.proofs.Math.Seq.{get_or-append_seam}
use Rattle.file_library.specs.declared.limits.TheConstants.{MOST_FILES}
use Rattle.list_laws.proofs.OneOrder.{nothing_in, holds_of}
use Rattle.file_library.specs.Library.{Files, LibrarySeen, IsLater, Answered, names_of, map_of}
use Rattle.file_library.specs.Asked.{IsInWave, wave_at, AreInOrder, AreFirstWaves, names_in}
use Rattle.file_library.specs.FileLoads.{FileLoads}
use Rattle.file_library.specs.NextWave.{AddsFiles}
use Rattle.file_library.specs.Answers.{bytes_of, AreAnswers, HasGiven, StopsAt, IsPut}
use Rattle.file_library.specs.AskedFile.{FileFound, answered_of, text_of, loads_in, IsOfText}
use Rattle.file_library.specs.AskAll.{answers_of, Agrees, StopsInWave, StopsAtName, StopsBetween, StopsBy, HasStopped}
use Rattle.file_library.specs.declared.loaded.LoadStop.{LoadStop}
use Rattle.file_library.specs.declared.loaded.LoadStop.TheVariants.{Faults, ReadFault, TooManyFiles, FileTooLarge, TooMuchText, NoMemory}
use Rattle.file_library.proofs.AnswersJoined.{answers_joined, no_answers, none_given, stops_within}
use Rattle.file_library.proofs.AskedSoFar.{AskedWaves, AreKnown, AskedSoFar, found_count, agrees_first}
use Rattle.file_library.proofs.LoadsFound.{loads_from, loads_into, answer_in, named_file, file_loads, loads_file}
use Rattle.file_library.proofs.Lookups.{all_pairs_append, map_agrees, name_in, names_apart, order_once}
use Rattle.file_library.proofs.WaveLaws.{Names, next_sound, next_all, more_waves, waves_apart}

module _ (before : LibrarySeen) (roots : Names) where
  pub asking_goes_on : (after : LibrarySeen) (total : ℕ) (found new : List FileFound) (waves : List Names) (wave known next : Names)
      → AskedWaves before after roots total (found ++ new) (waves ++ wave ∷ []) → names_of (answers_of new) ≡ wave → AreKnown (waves ++ wave ∷ []) known
      → AddsFiles known (MOST_FILES - (length found + length new)) [] (loads_in new) next
      → AskedSoFar before after roots total (found ++ new) known next
  asking_goes_on after total found new waves wave known next past named are_known adds = record {
    waves = ws;
    past = past;
    next = record {
      sound = λ files agrees name has.
          let added = in_loads name has in
          let from = loads_from new name added.0 in
          let file = from.0 in
          subst (λ n. IsInWave (FileLoads files) roots n name) (sym count)
          (next_sound (FileLoads files) roots ws (length waves) (past.are files agrees) count file.name name (in_last file from.1)
          (file_loads files file.name file.found name (there files agrees file from.1) (told_of file from.1) from.2)
          (λ before. added.1 (are_known.all name before)));
      whole =
          elim (cases_lt (MOST_FILES - (length found + length new)) (length next)) [
            | inl many ↦ inr (omega (arith, many, past.few, length-append found new))
            | inr few ↦ inl (λ files agrees name in_wave.
                let from = next_all (FileLoads files) roots ws (length waves) (past.are files agrees) count name (subst (λ n. IsInWave (FileLoads files) roots n name) count in_wave) in
                let file = named_file new from.0 (subst (λ names. Contains names from.0) (seam ∙ sym named) from.1) in
                let loads = loads_file files file.0.name file.0.found name (there files agrees file.0 file.1) (told_of file.0 file.1) (subst (λ user. FileLoads files user name) (sym file.2) from.2) in
                elim (adds.all name (loads_into new file.0 name file.1 loads)) [
                  | inl before ↦ absurd (from.3 (are_known.sound name before))
                  | inr rest ↦ elim rest [ inl has ↦ has | inr over ↦ let no : ⊥ = omega (arith, over, few) in absurd no ]
                ])
          ];
    };
    are_known = are_known;
  }
    where
      ws : List Names
      ws = waves ++ wave ∷ []

      count : length ws ≡ suc (length waves)
      count = omega (arith, length-append waves (wave ∷ []))

      seam : wave_at ws (length waves) ≡ wave
      seam = get_or-append_seam waves wave [] []

      in_loads : (name : List ℕ) → Contains next name → Contains (loads_in new) name × (Contains known name → ⊥)
      in_loads name has = elim (adds.sound name has) [ inl old ↦ absurd (nothing_in name old) | inr added ↦ added ]

      in_last : (file : FileFound) → Contains new file → Contains (wave_at ws (length waves)) file.name
      in_last file has = subst (λ names. Contains names file.name) (named ∙ sym seam) (name_in (answers_of new) (answered_of file) (answer_in new file has))

      there : (files : Files) → Agrees files (answers_of (found ++ new)) → (file : FileFound) → Contains new file → files file.name ≡ text_of file.found
      there files agrees file has = agrees (answered_of file) (answer_in (found ++ new) file (Contains-append_right found new file has))

      told_of : (file : FileFound) → Contains new file → IsOfText file
      told_of file has = holds_of IsOfText (found ++ new) file past.of_texts (Contains-append_right found new file has)

  -- more names are in the next wave than may be asked for
  pub stops_many : (after : LibrarySeen) (total : ℕ) (found : List FileFound) (known wave : Names) → AskedSoFar before after roots total found known wave
      → AreInOrder wave → MOST_FILES < length found + length wave → HasStopped before after roots TooManyFiles
  stops_many after total found known wave so_far ordered many = record {
    answers = answers_of found;
    are_answers = so_far.past.answers;
    waves = so_far.waves;
    are = so_far.past.are;
    few = omega (arith, so_far.past.few, found_count found, ap (λ (names : Names). length names) so_far.past.names);
    once = subst (AllPairs (λ a b. a ≡ b → ⊥)) so_far.past.names (names_apart (answers_of found) so_far.past.apart);
    why = record {
      is = sym so_far.past.names;
      gained = so_far.past.gained;
      next = wave;
      ordered = ordered;
      in_wave = so_far.next.sound;
      many = omega (arith, many, found_count found, names_count (answers_of found));
    };
  }
    where
      names_count : (answers : List Answered) → length (names_of answers) ≡ length answers
      names_count [] = refl
      names_count (answer ∷ answers) = omega (arith, names_count answers)

  -- memory was wanting behind whole waves
  pub stops_behind : (after : LibrarySeen) (total : ℕ) (found : List FileFound) (waves : List Names) → AskedWaves before after roots total found waves
      → HasStopped before after roots NoMemory
  stops_behind after total found waves past = record {
    answers = answers_of found;
    are_answers = past.answers;
    waves = waves;
    are = past.are;
    few = omega (arith, past.few, found_count found, ap (λ (names : Names). length names) past.names);
    once = subst (AllPairs (λ a b. a ≡ b → ⊥)) past.names (names_apart (answers_of found) past.apart);
    why = inl (record { rest = []; is = sym past.names ∙ sym (append-nil (names_of (answers_of found))); gained = past.gained });
  }

  pub stops_at_once : HasStopped before before roots NoMemory
  stops_at_once = record {
    answers = [];
    are_answers = no_answers before 0 (omega arith);
    waves = [];
    are = λ files agrees n less. let no : ⊥ = omega (arith, less) in absurd no;
    few = omega arith;
    once = λ i j d lt within. let no : ⊥ = omega (arith, within) in absurd no;
    why = inl (record { rest = []; is = refl; gained = none_given before });
  }

  by_stop : (after : LibrarySeen) (answers : List Answered) (waves : List Names) (stop : LoadStop) → StopsAtName before after answers waves stop → StopsBy before after roots answers waves stop
  by_stop after answers waves (Faults list) at = at
  by_stop after answers waves (ReadFault file) at = at
  by_stop after answers waves TooManyFiles at = absurd at.why
  by_stop after answers waves (FileTooLarge file) at = at
  by_stop after answers waves TooMuchText at = at
  by_stop after answers waves NoMemory at = inr at

  -- the asking stopped within a wave
  pub stops_in_wave : (mid after : LibrarySeen) (total : ℕ) (found : List FileFound) (known wave : Names) (stop : LoadStop)
      → AskedSoFar before mid roots total found known wave → AreInOrder wave → length found + length wave ≤ MOST_FILES
      → IsLater before mid → IsLater mid after → StopsInWave mid after wave total stop → HasStopped before after roots stop
  stops_in_wave mid after total found known wave stop so_far ordered fits first second stops =
      elim stops [
        | inl at ↦ stopped at.answers at.are (by_stop after (answers_of found ++ at.answers) ws stop (record {
          next = at.next;
          rest = at.rest;
          is = names_more at.answers (at.next ∷ at.rest) at.is;
          put = subst (λ names. IsPut names after.asked at.next stop) (put_more at.answers) at.put;
          why =
              subst (λ given. StopsAt before after given at.next (sum_by bytes_of (answers_of found ++ at.answers)) stop) (given_more at.answers)
              (subst (λ n. StopsAt before after (mid.answers ++ at.answers) at.next n stop) (total_more at.answers)
              (stops_within before mid after (mid.answers ++ at.answers) at.next (total + sum_by bytes_of at.answers) stop first second at.why));
        }))
        | inr some ↦
            subst (HasStopped before after roots) (sym some.wanting)
            (stopped_wanting some.answers some.are (record {
              rest = some.rest;
              is = names_more some.answers some.rest some.is;
              gained = all_given some.answers some.gained;
            }))
      ]
    where
      ws : List Names
      ws = so_far.waves ++ wave ∷ []

      names_more : (answers : List Answered) (rest : Names) → wave ≡ names_of answers ++ rest → names_in ws ≡ names_of (answers_of found ++ answers) ++ rest
      names_more answers rest is =
          sym (flat_map_more (λ (w : Names). w) [] so_far.waves wave)
          ∙ (ap (λ names. names ++ wave) (sym so_far.past.names)
          ∙ (ap (λ w. names_of (answers_of found) ++ w) is
          ∙ (sym (append_assoc (names_of (answers_of found)) (names_of answers) rest)
          ∙ ap (λ names. names ++ rest) (sym (map-append (λ (a : Answered). a.name) (answers_of found) answers)))))

      put_more : (answers : List Answered) → mid.asked ++ names_of answers ≡ before.asked ++ names_of (answers_of found ++ answers)
      put_more answers =
          ap (λ names. names ++ names_of answers) so_far.past.gained.put
          ∙ (append_assoc before.asked (names_of (answers_of found)) (names_of answers)
          ∙ ap (λ names. before.asked ++ names) (sym (map-append (λ (a : Answered). a.name) (answers_of found) answers)))

      given_more : (answers : List Answered) → mid.answers ++ answers ≡ before.answers ++ (answers_of found ++ answers)
      given_more answers = ap (λ given. given ++ answers) so_far.past.gained.given ∙ append_assoc before.answers (answers_of found) answers

      all_given : (answers : List Answered) → HasGiven mid after (names_of answers) answers → HasGiven before after (names_of (answers_of found ++ answers)) (answers_of found ++ answers)
      all_given answers gained = record { put = gained.put ∙ put_more answers; given = gained.given ∙ given_more answers }

      total_more : (answers : List Answered) → total + sum_by bytes_of answers ≡ sum_by bytes_of (answers_of found ++ answers)
      total_more answers = omega (arith, so_far.past.counted, sum_by-append bytes_of (answers_of found) answers)

      past_total : total ≡ 0 + sum_by bytes_of (answers_of found)
      past_total = omega (arith, so_far.past.counted)

      whole_all : (files : Files) → Agrees files (answers_of found) → (name : List ℕ) → IsInWave (FileLoads files) roots (length so_far.waves) name → Contains wave name
      whole_all = elim so_far.next.whole [ inl all ↦ all | inr many ↦ let no : ⊥ = omega (arith, many, fits) in absurd no ]

      are_waves : (answers : List Answered) (files : Files) → Agrees files (answers_of found ++ answers) → AreFirstWaves (FileLoads files) roots ws
      are_waves answers files agrees =
          let old = agrees_first files (answers_of found) answers agrees in
          more_waves (FileLoads files) roots so_far.waves wave (so_far.past.are files old)
          (record { ordered = ordered; sound = so_far.next.sound files old; all = whole_all files old })

      few_names : length (names_in ws) ≤ MOST_FILES
      few_names =
          omega (arith, fits, found_count found, ap (λ (names : Names). length names) so_far.past.names, ap (λ (names : Names). length names) (flat_map_more (λ (w : Names). w) [] so_far.waves wave), length-append (names_in so_far.waves) wave)

      names_once : AllPairs (λ a b. a ≡ b → ⊥) (names_in ws)
      names_once =
          let own = map_of (answers_of found) in
          let agrees = map_agrees (answers_of found) so_far.past.apart in
          subst (AllPairs (λ a b. a ≡ b → ⊥)) (flat_map_more (λ (w : Names). w) [] so_far.waves wave)
          (all_pairs_append (λ a b. a ≡ b → ⊥) (names_in so_far.waves) wave
          (subst (AllPairs (λ a b. a ≡ b → ⊥)) so_far.past.names (names_apart (answers_of found) so_far.past.apart)) (order_once wave ordered)
          (λ a b has_a has_b same.
          waves_apart (FileLoads own) roots so_far.waves wave (so_far.past.are own agrees) (record { ordered = ordered; sound = so_far.next.sound own agrees; all = whole_all own agrees }) b has_b
          (subst (Contains (names_in so_far.waves)) same has_a)))

      all_answers : (answers : List Answered) → AreAnswers mid after total answers → AreAnswers before after 0 (answers_of found ++ answers)
      all_answers answers are =
          answers_joined before mid after 0 (answers_of found) answers first second so_far.past.answers
          (subst (λ n. AreAnswers mid after n answers) past_total are)

      stopped : (answers : List Answered) → AreAnswers mid after total answers → StopsBy before after roots (answers_of found ++ answers) ws stop → HasStopped before after roots stop
      stopped answers are why = record { answers = answers_of found ++ answers; are_answers = all_answers answers are; waves = ws; are = are_waves answers; few = few_names; once = names_once; why = why }

      stopped_wanting : (answers : List Answered) → AreAnswers mid after total answers → StopsBetween before after (answers_of found ++ answers) ws
          → HasStopped before after roots NoMemory
      stopped_wanting answers are why = record { answers = answers_of found ++ answers; are_answers = all_answers answers are; waves = ws; are = are_waves answers; few = few_names; once = names_once; why = inl why }
