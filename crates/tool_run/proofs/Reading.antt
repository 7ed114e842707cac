-- How the reading of files ended.
use Rattle.std.proofs.Common.{◌≡◌, ◌≢◌, ℕ, ◌⊎◌, List, [], ◌∷◌, ◌++◌, Option, Some, None, Result, Ok, Err, Vec, Global, IsErrAnd, refl, sym, subst, ◌∙◌, ap, inl, inr, arith, append-nil}
use Rattle.list_laws.proofs.OneOrder.{nothing_in}
use Rattle.file_library.specs.declared.loaded.LoadStop.{LoadStop}
use Rattle.file_library.specs.declared.loaded.LoadStop.TheVariants.{Faults, ReadFault, TooManyFiles, FileTooLarge, TooMuchText, NoMemory}
use Rattle.file_library.specs.Counts.{Rose}
use Rattle.file_library.specs.Library.{Files, Answered, map_of, LibrarySeen}
use Rattle.file_library.specs.Loaded.{LoadedFiles}
use Rattle.file_library.specs.Asking.{LoadEnd, LoadEndIs, loaded, too_many, too_large, too_much, AreGiven, HasEnded, IsDecided}
use Rattle.file_library.specs.Asking as of_load
use Rattle.file_library.specs.SortedOut as of_library
use Rattle.import_rules.specs.Program.{Seen, IsProgram}
use Rattle.import_rules.specs.declared.program.Program.{Program}
use Rattle.call_edges.specs.declared.goal_stop.GoalStop.{GoalStop}
use Rattle.call_edges.specs.declared.goal_stop.GoalStop.TheVariants as of_check
use Rattle.call_edges.specs.GoalFaults.{AreGoalFaults, IsGoalStop}
use Rattle.group_words.specs.Made.{made_text}
use Rattle.group_words.specs.declared.options.WordFault.{WordFault}
use Rattle.group_words.specs.declared.options.WordFault.TheVariants as of_word
use Rattle.tool_run.specs.declared.roots.RootStop.{RootStop}
use Rattle.tool_run.specs.declared.roots.RootStop.TheVariants as of_root
use Rattle.tool_run.specs.declared.stop.Stop.{Stop}
use Rattle.tool_run.specs.Wanted.{IsJust, IsOneAtMost, AskForNone, IsNothingAsked, one_file, made_name, files_read, names_read}
use Rattle.tool_run.specs.Roots.{IsRootStop}
use Rattle.tool_run.specs.Answer.{LoadEndComesTo, IsLoadedEnd, IsLawfulAnswer}
use Rattle.tool_run.specs.Asking.{Asking, EndsAsking, IsDecidedEnd, IsLeft, EndsReading}
use Rattle.tool_run.specs.Carrying.{AreLoaded, AreNoProgram, AreResolved, CarriesOn, IsStopped, StopsAt}
use Rattle.tool_run.specs.End.{End, usage, faults, missing, unread, limit, output, no_memory}
use Rattle.tool_run.specs.LoadedEnd.{LoadedComesTo}
use Rattle.tool_run.specs.Run.{IsReadEnd, IsLawfulEnd, IsAsked, EndIs, Taking, PutsEnd, IsRun}
use Rattle.tool_run.specs.Stop.{of_words, of_loading, of_checking, of_roots, end_of_stop, end_of}
use Rattle.tool_run.specs.Tool.{Tool}
use Rattle.file_library.proofs.ToldEnd.{told_end}

-- over the library's map the reading ends so
pub reads_over : (make : Option ℕ) (names : List (List ℕ)) (library : Asking) (load : LoadEnd) → EndsReading make names library load → (files : Files) → library.0.told ≡ Some files → IsDecided load
    → (asked : List (List ℕ)) × LoadEndIs (files_read make files) (names_read make names) asked load
reads_over None names library load reading files tells decided = (
  reading.ended.names,
  told_end library.0 library.1 names load reading.ended files tells decided,
)
reads_over (Some count) names library load reading files tells decided = elim reading.1 [
  | inl none ↦ absurd (subst IsDecided none decided)
  | inr made ↦ (made.asked, made.ends)
]

-- where the map decided, the library gave just these answers
given_all : (before after answers : List Answered) (load : LoadEnd) → IsDecided load → AreGiven before after answers load → after ≡ before ++ answers
given_all before after answers (loaded found) decided is = is
given_all before after answers (of_load.faults found) decided is = is
given_all before after answers (of_load.unread name) decided is = absurd decided
given_all before after answers too_many decided is = is
given_all before after answers (too_large name) decided is = is
given_all before after answers too_much decided is = is
given_all before after answers of_load.no_memory decided is = absurd decided

-- over the map of what the library handed over the reading ends so
pub reads_handed : (make : Option ℕ) (names : List (List ℕ)) (library : Asking) (load : LoadEnd) → EndsReading make names library load → IsDecided load
    → (answers : List Answered) × ((library.1.answers ≡ library.0.answers ++ answers) × ((asked : List (List ℕ)) × LoadEndIs (files_read make (map_of answers)) (names_read make names) asked load))
reads_handed None names library load reading decided = (
  reading.ended.answers,
  (given_all library.0.answers library.1.answers reading.ended.answers load decided reading.ended.given, (reading.ended.names, reading.ended.is)),
)
reads_handed (Some count) names library load reading decided = elim reading.1 [
  | inl none ↦ absurd (subst IsDecided none decided)
  | inr made ↦ ([], (ap (λ (seen : LibrarySeen). seen.answers) reading.0 ∙ sym (append-nil library.0.answers), (made.asked, made.ends)))
]

-- where the file is made, the library is left
pub left_by : (make : Option ℕ) (names : List (List ℕ)) (library : Asking) (load : LoadEnd) → make ≢ None → EndsReading make names library load → library.1.asked ≡ library.0.asked
left_by None names library load some reading = absurd (some refl)
left_by (Some count) names library load some reading = ap (λ (seen : LibrarySeen). seen.asked) reading.0

-- a file that is made is read, and no read of it fails

decided_end : (made : Asking) (files : Files) (roots : List (List ℕ)) (load : LoadEnd) → made.0.told ≡ Some files → IsDecided load → EndsAsking made roots load → IsDecidedEnd files roots load
decided_end made files roots load tells decided asking = record {
  decided = decided;
  asked = asking.ended.names;
  ends = told_end made.0 made.1 roots load asking.ended files tells decided;
}

pub made_reading : (made : Asking) (files : Files) (roots : List (List ℕ)) (load : LoadEnd) → made.0.told ≡ Some files → (Rose made.0.faults made.1.faults → ⊥) → EndsAsking made roots load
    → (load ≡ of_load.no_memory) ⊎ IsDecidedEnd files roots load
made_reading made files roots (loaded found) tells quiet asking = inr (decided_end made files roots (loaded found) tells tt asking)
made_reading made files roots (of_load.faults found) tells quiet asking = inr (decided_end made files roots (of_load.faults found) tells tt asking)
made_reading made files roots (of_load.unread name) tells quiet asking = absurd (quiet asking.counted)
made_reading made files roots too_many tells quiet asking = inr (decided_end made files roots too_many tells tt asking)
made_reading made files roots (too_large name) tells quiet asking = inr (decided_end made files roots (too_large name) tells tt asking)
made_reading made files roots too_much tells quiet asking = inr (decided_end made files roots too_much tells tt asking)
made_reading made files roots of_load.no_memory tells quiet asking = inl refl

-- where memory was wanting before the first name, nothing was asked for

asks_nothing : (before : LibrarySeen) (roots : List (List ℕ)) → HasEnded before before roots of_load.no_memory
asks_nothing before roots = record {
  names = [];
  put = sym (append-nil before.asked);
  answers = [];
  given = inl (sym (append-nil before.answers));
  answers_are = inl refl;
  as_told = λ files tells name has. absurd (nothing_in name has);
  missed = λ name has none. absurd (nothing_in name has);
  is = record {
    first = record {
      waves = [];
      are = λ n less. let none : ⊥ = omega (arith, less) in absurd none;
      rest = [];
      is = refl;
      few = omega arith;
    };
    within = inl (record {
      each = λ k d less. let none : ⊥ = omega (arith, less) in absurd none;
      together = omega arith;
    });
  };
}

pub reads_nothing : (make : Option ℕ) (names : List (List ℕ)) (library : Asking) → IsLeft library → EndsReading make names library of_load.no_memory
reads_nothing None names library left = record {
  ended = subst (λ after. HasEnded library.0 after names of_load.no_memory) (sym left) (asks_nothing library.0 names);
  counted = tt;
}
reads_nothing (Some count) names library left = (left, inl refl)
