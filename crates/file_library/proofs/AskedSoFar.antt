-- What was asked for so far.
use Rattle.std.proofs.Common.{◌≡◌, ℕ, ◌+◌, ◌<◌, ◌≤◌, ◌⊎◌, List, [], ◌∷◌, ◌++◌, Option, All, Contains, length, sum_by, refl, sym, subst, ◌∙◌, ap, inl, inr, arith, append-nil}
use Rattle.std.proofs.lemmas.Bool.{cases_lt}
use Rattle.std.proofs.lemmas.List.{map-append, append_assoc, flat_map_more, length-append, length-map}
use Rattle.std.proofs.lemmas.List.Elements.{Contains-append_left, All-append, All-nil}
use Rattle.std.proofs.lemmas.List.Sums.{sum_by-append}
use Rattle.file_library.specs.declared.limits.TheConstants.{MOST_FILES}
use Rattle.list_laws.proofs.OneOrder.{nothing_in}
use Rattle.file_library.specs.Library.{Files, LibrarySeen, IsLater, Answered, names_of, map_of}
use Rattle.file_library.specs.Asked.{IsInWave, AreInOrder, IsWave, AreFirstWaves, names_in}
use Rattle.file_library.specs.FileLoads.{FileLoads}
use Rattle.file_library.specs.NextWave.{AddsFiles}
use Rattle.file_library.specs.Answers.{bytes_of, AreAnswers, HasGiven}
use Rattle.file_library.specs.AskedFile.{FileFound, answered_of, IsOfText}
use Rattle.file_library.specs.AskAll.{answers_of, Agrees, AreApart, HasAskedWave, HasAskedAll}
use Rattle.file_library.proofs.AnswersJoined.{none_given, given_joined, no_answers, answers_joined}
use Rattle.file_library.proofs.Lookups.{all_pairs_append, apart_in_order, map_agrees, name_in}
use Rattle.file_library.proofs.WaveLaws.{Names, more_waves, all_waves, waves_apart}

-- these waves were asked for whole
pub record AskedWaves (before after : LibrarySeen) (roots : Names) (total : ℕ) (found : List FileFound) (waves : List Names) : Type 0 where
  pub are : (files : Files) → Agrees files (answers_of found) → AreFirstWaves (FileLoads files) roots waves
  pub names : names_of (answers_of found) ≡ names_in waves
  pub gained : HasGiven before after (names_of (answers_of found)) (answers_of found)
  pub answers : AreAnswers before after 0 (answers_of found)
  pub counted : total ≡ sum_by bytes_of (answers_of found)
  pub few : length found ≤ MOST_FILES
  pub apart : AreApart (answers_of found)
  pub of_texts : All IsOfText found

-- the names of the wave behind them; or more of them than may be asked for
pub record IsNextFor (roots : Names) (found : List FileFound) (waves : List Names) (wave : Names) : Type 0 where
  pub sound : (files : Files) → Agrees files (answers_of found) → (name : List ℕ) → Contains wave name → IsInWave (FileLoads files) roots (length waves) name
  pub whole : ((files : Files) → Agrees files (answers_of found) → (name : List ℕ) → IsInWave (FileLoads files) roots (length waves) name → Contains wave name)
      ⊎ (MOST_FILES < length found + length wave)

-- the set has the names that were asked for
pub record AreKnown (waves : List Names) (known : Names) : Type 0 where
  pub sound : (name : List ℕ) → Contains known name → Contains (names_in waves) name
  pub all : (name : List ℕ) → Contains (names_in waves) name → Contains known name

pub record AskedSoFar (before after : LibrarySeen) (roots : Names) (total : ℕ) (found : List FileFound) (known wave : Names) : Type 0 where
  pub waves : List Names
  pub past : AskedWaves before after roots total found waves
  pub next : IsNextFor roots found waves wave
  pub are_known : AreKnown waves known

pub found_count : (found : List FileFound) → length (names_of (answers_of found)) ≡ length found
found_count found = length-map (answers_of found) (λ (a : Answered). a.name) ∙ length-map found answered_of

pub agrees_first : (files : Files) (answers more : List Answered) → Agrees files (answers ++ more) → Agrees files answers
agrees_first files answers more agrees answer has = agrees answer (Contains-append_left answers more answer has)

module _ (before : LibrarySeen) (roots : Names) where
  pub asking_starts : (known wave : Names) → known ≡ [] → AddsFiles [] MOST_FILES [] roots wave → AskedSoFar before before roots 0 [] known wave
  asking_starts known wave none adds = record {
    waves = [];
    past = record {
      are = λ files agrees n less. let no : ⊥ = omega (arith, less) in absurd no;
      names = refl;
      gained = none_given before;
      answers = no_answers before 0 (omega arith);
      counted = refl;
      few = omega arith;
      apart = λ i j d lt within. let no : ⊥ = omega (arith, within) in absurd no;
      of_texts = All-nil IsOfText;
    };
    next = record {
      sound = λ files agrees name has.
          record {
            there = root_of name has;
            first = λ k below leads. let no : ⊥ = omega (arith, below) in no;
          };
      whole =
          elim (cases_lt MOST_FILES (length wave)) [
            | inl many ↦ inr (omega (arith, many))
            | inr few ↦ inl (λ files agrees name in_wave.
                elim (adds.all name in_wave.there) [
                  | inl before ↦ absurd (nothing_in name before)
                  | inr rest ↦ elim rest [ inl there ↦ there | inr over ↦ let no : ⊥ = omega (arith, over, few) in absurd no ]
                ])
          ];
    };
    are_known = record {
      sound = λ name has. absurd (nothing_in name (subst (λ names. Contains names name) none has));
      all = λ name has. absurd (nothing_in name has);
    };
  }
    where
      root_of : (name : List ℕ) → Contains wave name → Contains roots name
      root_of name has = elim (adds.sound name has) [ inl old ↦ absurd (nothing_in name old) | inr new ↦ new.0 ]

  -- a wave that was asked for whole comes behind the others
  pub wave_joined : (mid after : LibrarySeen) (total : ℕ) (found new : List FileFound) (waves : List Names) (wave : Names)
      → AskedWaves before mid roots total found waves → IsNextFor roots found waves wave → HasAskedWave mid after wave total new
      → IsLater before mid → IsLater mid after → length found + length wave ≤ MOST_FILES
      → AskedWaves before after roots (total + sum_by bytes_of (answers_of new)) (found ++ new) (waves ++ wave ∷ [])
  wave_joined mid after total found new waves wave past next more first second few =
      let both : answers_of (found ++ new) ≡ answers_of found ++ answers_of new = map-append answered_of found new in
      let named : names_of (answers_of (found ++ new)) ≡ names_of (answers_of found) ++ wave =
      ap names_of both ∙ (map-append (λ (a : Answered). a.name) (answers_of found) (answers_of new) ∙ ap (λ n. names_of (answers_of found) ++ n) more.names) in
      let one_wave : (files : Files) → Agrees files (answers_of found) → IsWave (FileLoads files) roots (length waves) wave = λ files agrees.
      record { ordered = more.ordered; sound = next.sound files agrees; all = whole_all files agrees } in
      record {
        are = λ files agrees.
            let old = agrees_first files (answers_of found) (answers_of new) (subst (Agrees files) both agrees) in
            more_waves (FileLoads files) roots waves wave (past.are files old) (one_wave files old);
        names = named ∙ (ap (λ n. n ++ wave) past.names ∙ flat_map_more (λ (w : Names). w) [] waves wave);
        gained =
            subst (λ names. HasGiven before after names (answers_of (found ++ new))) (sym named)
            (subst (HasGiven before after (names_of (answers_of found) ++ wave)) (sym both)
            (given_joined before mid after (names_of (answers_of found)) wave (answers_of found) (answers_of new) past.gained more.gained));
        answers =
            subst (AreAnswers before after 0) (sym both)
            (answers_joined before mid after 0 (answers_of found) (answers_of new) first second past.answers
            (subst (λ n. AreAnswers mid after n (answers_of new)) past_total more.answers));
        counted = omega (arith, past.counted, ap (sum_by bytes_of) both, sum_by-append bytes_of (answers_of found) (answers_of new));
        few = omega (arith, few, length-append found new, found_count new, ap (λ (n : Names). length n) more.names);
        apart =
            subst AreApart (sym both)
            (all_pairs_append (λ a b. a.name ≡ b.name → ⊥) (answers_of found) (answers_of new) past.apart (apart_in_order (answers_of new) (subst AreInOrder (sym more.names) more.ordered))
            (λ a b has_a has_b same.
            let own = map_of (answers_of found) in
            let agrees = map_agrees (answers_of found) past.apart in
            waves_apart (FileLoads own) roots waves wave (past.are own agrees) (one_wave own agrees) b.name
            (subst (λ n. Contains n b.name) more.names (name_in (answers_of new) b has_b))
            (subst (λ n. Contains (names_in waves) n) same (subst (λ n. Contains n a.name) past.names (name_in (answers_of found) a has_a)))));
        of_texts = All-append IsOfText found new past.of_texts more.of_texts;
      }
    where
      past_total : total ≡ 0 + sum_by bytes_of (answers_of found)
      past_total = omega (arith, past.counted)

      whole_all : (files : Files) → Agrees files (answers_of found) → (name : List ℕ) → IsInWave (FileLoads files) roots (length waves) name → Contains wave name
      whole_all = elim next.whole [ inl all ↦ all | inr many ↦ let no : ⊥ = omega (arith, many, few) in absurd no ]

  -- where the next wave is empty all was asked for
  pub asking_ends : (after : LibrarySeen) (total : ℕ) (found : List FileFound) (known wave : Names) → AskedSoFar before after roots total found known wave
      → AreInOrder wave → length wave ≡ 0 → HasAskedAll before after roots found
  asking_ends after total found known wave so_far ordered none = record {
    waves = so_far.waves;
    are = λ files agrees.
        all_waves (FileLoads files) roots so_far.waves (so_far.past.are files agrees)
        (subst (IsWave (FileLoads files) roots (length so_far.waves)) (empty wave none) (record { ordered = ordered; sound = so_far.next.sound files agrees; all = whole_all files agrees }));
    names = so_far.past.names;
    gained = so_far.past.gained;
    answers = so_far.past.answers;
    few = so_far.past.few;
    apart = so_far.past.apart;
    of_texts = so_far.past.of_texts;
  }
    where
      empty : (names : Names) → length names ≡ 0 → names ≡ []
      empty [] is = refl
      empty (name ∷ names) is = let no : ⊥ = omega (arith, is) in absurd no

      whole_all : (files : Files) → Agrees files (answers_of found) → (name : List ℕ) → IsInWave (FileLoads files) roots (length so_far.waves) name → Contains wave name
      whole_all = elim so_far.next.whole [ inl all ↦ all | inr many ↦ let no : ⊥ = omega (arith, many, none, so_far.past.few) in absurd no ]
