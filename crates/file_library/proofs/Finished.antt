-- What files that were all asked for come to.
use Rattle.std.proofs.Common.{ℕ, ◌≤◌, List, [], Option, Result, Ok, Err, IfOk, IfErr, Contains, length, refl, sym, subst, ap, ◌∙◌, inl, inr, arith, append-nil}
use Rattle.std.specs.BTreeSet.{BTreeSet}
use Rattle.file_library.specs.declared.limits.TheConstants.{MOST_FILES}
use Rattle.list_laws.proofs.OneOrder.{nothing_in}
use Rattle.file_library.specs.Asked.{AreInOrder, names_in}
use Rattle.file_library.specs.FileLoads.{FileLoads}
use Rattle.file_library.specs.Loaded.{WasLoaded}
use Rattle.file_library.specs.Library.{Files, LibrarySeen, Answered, names_of, map_of}
use Rattle.file_library.specs.NextWave.{AddsFiles}
use Rattle.file_library.specs.AskedFile.{FileFound}
use Rattle.file_library.specs.AskAll.{answers_of, Agrees, HasAskedAll}
use Rattle.file_library.specs.Asking.{AreAll, LoadEnd, loaded, faults, unread, too_many, too_large, too_much, no_memory, LoadEndIs, AreAnswered, AreGiven, HasEnded}
use Rattle.file_library.specs.SortedOut.{AreRoots, AreJustAsked, FinishIs, HasFailed, end_of, see_loaded}
use Rattle.file_library.specs.declared.loaded.Loaded.{Loaded}
use Rattle.file_library.specs.declared.loaded.LoadStop.{LoadStop}
use Rattle.file_library.specs.declared.loaded.LoadStop.TheVariants.{Faults, ReadFault, TooManyFiles, FileTooLarge, TooMuchText, NoMemory}
use Rattle.file_library.proofs.AskedSoFar.{found_count}
use Rattle.file_library.proofs.Lookups.{map_agrees}
use Rattle.file_library.proofs.Stopped.{answers_end, within, first_names}
use Rattle.file_library.proofs.WaveLaws.{waves_asked, asked_waves}

-- the set of the roots
pub roots_set : (roots : List (List ℕ)) (set : BTreeSet (List ℕ)) (room : ℕ) → AddsFiles [] room [] roots set.keys → AreInOrder set.keys → length set.keys ≤ room → AreRoots roots set
roots_set roots set room adds ordered fits = record {
  ordered = ordered;
  sound = λ name has. elim (adds.sound name has) [ inl old ↦ absurd (nothing_in name old) | inr new ↦ new.0 ];
  all = λ name has.
      elim (adds.all name has) [
        | inl asked ↦ absurd (nothing_in name asked)
        | inr found ↦ elim found [ inl there ↦ there | inr over ↦ let none : ⊥ = omega (arith, over, fits) in absurd none ]
      ];
}

-- no file was left unread
pub none_unread : (seen : Files) (roots : List (List ℕ)) (before after : ℕ) (result : Result Loaded LoadStop) → FinishIs seen roots (end_of result) → IfErr result (HasFailed before after)
none_unread seen roots before after (Ok found) is = tt
none_unread seen roots before after (Err (Faults list)) is = tt
none_unread seen roots before after (Err (ReadFault name)) is = absurd is
none_unread seen roots before after (Err TooManyFiles) is = tt
none_unread seen roots before after (Err (FileTooLarge name)) is = tt
none_unread seen roots before after (Err TooMuchText) is = tt
none_unread seen roots before after (Err NoMemory) is = tt

-- where the asking ended with what was loaded, that was loaded
pub was_loaded : (before after : LibrarySeen) (roots : List (List ℕ)) (result : Result Loaded LoadStop) → HasEnded before after roots (end_of result)
    → IfOk result (λ found. WasLoaded (see_loaded found))
was_loaded before after roots (Ok found) ended = record { files = map_of ended.answers; roots = roots; is = ended.is.1 }
was_loaded before after roots (Err stop) ended = tt

-- the asking ended over the map of the answers, over which these files are asked for and no others

module _ (before after : LibrarySeen) (roots : List (List ℕ)) (found : List FileFound) (all : HasAskedAll before after roots found) where
  abbrev answers : List Answered
  answers = answers_of found

  abbrev own : Files
  own = map_of answers

  agrees : Agrees own answers
  agrees = map_agrees answers all.apart

  just_asked : AreJustAsked own roots (names_of answers)
  just_asked = record {
    sound = λ name has. waves_asked (FileLoads own) roots all.waves (λ n less. all.are own agrees n) name (subst (λ names. Contains names name) all.names has);
    all = λ name is. subst (λ names. Contains names name) (sym all.names) (asked_waves (FileLoads own) roots all.waves (all.are own agrees) name is);
  }

  few : length (names_in all.waves) ≤ MOST_FILES
  few = omega (arith, all.few, found_count found, ap (λ (names : List (List ℕ)). length names) all.names)

  are_all : AreAll own roots (names_of answers)
  are_all = record {
    waves = all.waves;
    are = all.are own agrees;
    is = all.names;
    few = omega (arith, all.few, found_count found);
    within = within before after roots answers all.waves all.answers (λ files agree n less. all.are files agree n) few own agrees;
  }

  ends_by : (end : LoadEnd) → AreGiven before.answers after.answers answers end → AreAnswered (names_of answers) (names_of answers) end → LoadEndIs own roots (names_of answers) end
      → HasEnded before after roots end
  ends_by end given answered is = answers_end before after roots (names_of answers) answers end all.gained.put given answered all.apart all.answers.are_true is

  at_end : (end : LoadEnd) → FinishIs own roots end → HasEnded before after roots end
  at_end (loaded given) is = ends_by (loaded given) all.gained.given refl (are_all, is)
  at_end (faults given) is = ends_by (faults given) all.gained.given refl (are_all, is.0, is.1)
  at_end (unread name) is = absurd is
  at_end too_many is = absurd is
  at_end (too_large name) is = absurd is
  at_end too_much is = absurd is
  at_end no_memory is =
      ends_by no_memory (inl all.gained.given) (inl refl)
      (record {
        first = first_names before after roots answers all.waves all.answers (λ files agree n less. all.are files agree n) few own agrees (names_of answers) []
            (sym all.names ∙ sym (append-nil (names_of answers)));
        within = inl are_all.within;
      })

  -- how the asking ended, what the files come to being so for every map
  pub all_ended : (result : Result Loaded LoadStop) → ((seen : Files) → Agrees seen answers → AreJustAsked seen roots (names_of answers) → FinishIs seen roots (end_of result))
      → HasEnded before after roots (end_of result)
  all_ended result finished = at_end (end_of result) (finished own agrees just_asked)

  pub all_read : (low high : ℕ) (result : Result Loaded LoadStop)
      → ((seen : Files) → Agrees seen answers → AreJustAsked seen roots (names_of answers) → FinishIs seen roots (end_of result)) → IfErr result (HasFailed low high)
  all_read low high result finished = none_unread own roots low high result (finished own agrees just_asked)
