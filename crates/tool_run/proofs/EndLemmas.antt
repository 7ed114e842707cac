-- From how the reading of files ended to how a run ends.
use Rattle.std.proofs.Common.{◌≡◌, ◌≢◌, ℕ, ◌⊎◌, List, [], ◌∷◌, ◌++◌, Option, Some, None, Result, Ok, Err, Vec, Global, IsErrAnd, refl, sym, subst, ◌∙◌, ap, inl, inr, arith, append-nil}
use Rattle.list_laws.proofs.OneOrder.{nothing_in}
use Rattle.file_library.specs.declared.loaded.LoadStop.{LoadStop}
use Rattle.file_library.specs.declared.loaded.LoadStop.TheVariants.{Faults, ReadFault, TooManyFiles, FileTooLarge, TooMuchText, NoMemory}
use Rattle.file_library.specs.Counts.{Rose}
use Rattle.file_library.specs.Library.{Files, Answered, map_of, LibrarySeen}
use Rattle.file_library.specs.Loaded.{LoadedFiles}
use Rattle.file_library.specs.Asking.{LoadEnd, LoadEndIs, loaded, too_many, too_large, too_much, AreGiven, HasEnded, IsDecided}
use Rattle.file_library.specs.Asking as of_load
use Rattle.file_library.specs.SortedOut as of_library
use Rattle.import_rules.specs.Program.{Seen, IsProgram}
use Rattle.import_rules.specs.declared.program.Program.{Program}
use Rattle.call_edges.specs.declared.goal_stop.GoalStop.{GoalStop}
use Rattle.call_edges.specs.declared.goal_stop.GoalStop.TheVariants as of_check
use Rattle.call_edges.specs.GoalFaults.{AreGoalFaults, IsGoalStop}
use Rattle.group_words.specs.Made.{made_text}
use Rattle.group_words.specs.declared.options.WordFault.{WordFault}
use Rattle.group_words.specs.declared.options.WordFault.TheVariants as of_word
use Rattle.tool_run.specs.declared.roots.RootStop.{RootStop}
use Rattle.tool_run.specs.declared.roots.RootStop.TheVariants as of_root
use Rattle.tool_run.specs.declared.stop.Stop.{Stop}
use Rattle.tool_run.specs.Wanted.{IsJust, IsOneAtMost, AskForNone, IsNothingAsked, one_file, made_name, files_read, names_read}
use Rattle.tool_run.specs.Roots.{IsRootStop}
use Rattle.tool_run.specs.Answer.{LoadEndComesTo, IsLoadedEnd, IsLawfulAnswer}
use Rattle.tool_run.specs.Asking.{Asking, EndsAsking, IsDecidedEnd, IsLeft, EndsReading}
use Rattle.tool_run.specs.Carrying.{AreLoaded, AreNoProgram, AreResolved, CarriesOn, IsStopped, StopsAt}
use Rattle.tool_run.specs.End.{End, usage, faults, missing, unread, limit, output, no_memory}
use Rattle.tool_run.specs.LoadedEnd.{LoadedComesTo}
use Rattle.tool_run.specs.Run.{IsReadEnd, IsLawfulEnd, IsAsked, EndIs, Taking, PutsEnd, IsRun}
use Rattle.tool_run.specs.Stop.{of_words, of_loading, of_checking, of_roots, end_of_stop, end_of}
use Rattle.tool_run.specs.Tool.{Tool}
use Rattle.file_library.proofs.ToldEnd.{told_end}
use Rattle.tool_run.proofs.Reading.{reads_over, left_by, made_reading, reads_nothing}

module _ {A : Type 0} (tool : Tool A) where
  abbrev Reads : A → Asking → LoadEnd → Type 0
  Reads asked library load = EndsReading (tool.make asked) (tool.files asked) library load

  -- over the library's map this is the answer
  told_answer : (wanted : A → Type 0) (library : Asking) (asked : A) (load : LoadEnd) (end : End) → wanted asked → Reads asked library load
      → LoadEndComesTo tool asked load end → (files : Files) → library.0.told ≡ Some files → IsDecided load → IsLawfulAnswer tool wanted files end
  told_answer wanted library asked load end lawful reading comes files tells decided =
      let over = reads_over (tool.make asked) (tool.files asked) library load reading files tells decided in
      record {
        asked = asked;
        lawful = lawful;
        names = over.0;
        load = load;
        decided = decided;
        ends = over.1;
        comes = comes;
      }

  lawful_end : (wanted : A → Type 0) (library : Asking) (asked : A) (load : LoadEnd) (end : End) → wanted asked → Reads asked library load
      → LoadEndComesTo tool asked load end → IsLawfulEnd tool wanted library end
  lawful_end wanted library asked load end lawful reading comes = record {
    asked = asked;
    lawful = lawful;
    load = load;
    reading = reading;
    comes = comes;
    told_too = told_answer wanted library asked load end lawful reading comes;
  }

  pub lawful_left : (wanted : A → Type 0) (library : Asking) (end : End) → AskForNone tool wanted → IsLawfulEnd tool wanted library end
      → library.1.asked ≡ library.0.asked
  lawful_left wanted library end none is = left_by (tool.make is.asked) (tool.files is.asked) library is.load (none is.asked is.lawful) is.reading

  -- the files that are wanted were read
  read_asked : (asked : A) (library : Asking) (load : LoadEnd) → Reads asked library load → IsAsked tool (IsJust asked) library
  read_asked asked library load reading = record {
    lawful = λ other is. (load, subst (λ (one : A). Reads one library load) (sym is) reading);
    none = λ none. left_by (tool.make asked) (tool.files asked) library load (none asked refl) reading;
  }

  -- no reading comes to the usage
  never_usage : (asked : A) (load : LoadEnd) → LoadEndComesTo tool asked load usage → ⊥
  never_usage asked (loaded found) comes = comes
  never_usage asked (of_load.faults found) comes = cc
  never_usage asked (of_load.unread name) comes = cc
  never_usage asked too_many comes = cc
  never_usage asked (too_large name) comes = cc
  never_usage asked too_much comes = cc
  never_usage asked of_load.no_memory comes = cc

  comes_end : (asked : A) (library : Asking) (load : LoadEnd) → Reads asked library load → (end : End) → LoadEndComesTo tool asked load end
      → EndIs tool (IsJust asked) library end
  comes_end asked library load reading usage comes = absurd (never_usage asked load comes)
  comes_end asked library load reading (faults list) comes = lawful_end (IsJust asked) library asked load (faults list) refl reading comes
  comes_end asked library load reading (missing root) comes = lawful_end (IsJust asked) library asked load (missing root) refl reading comes
  comes_end asked library load reading (unread name) comes = lawful_end (IsJust asked) library asked load (unread name) refl reading comes
  comes_end asked library load reading (limit passed) comes = lawful_end (IsJust asked) library asked load (limit passed) refl reading comes
  comes_end asked library load reading (output bytes) comes = lawful_end (IsJust asked) library asked load (output bytes) refl reading comes
  comes_end asked library load reading no_memory comes = read_asked asked library load reading

  reading_end : (asked : A) (library : Asking) (load : LoadEnd) (end : End) → Reads asked library load
      → (end ≡ no_memory) ⊎ LoadEndComesTo tool asked load end → EndIs tool (IsJust asked) library end
  reading_end asked library load end reading comes = elim comes [
    | inl none ↦ subst (EndIs tool (IsJust asked) library) (sym none) (read_asked asked library load reading)
    | inr is ↦ comes_end asked library load reading end is
  ]

  -- the library is asked for the files
  pub files_end : (asked : A) (library : Asking) (names : List (List ℕ)) (end : End) → tool.make asked ≡ None → names ≡ tool.files asked
      → IsReadEnd tool asked names library end → EndIs tool (IsJust asked) library end
  files_end asked library names end none same is =
      let asking : EndsAsking library (tool.files asked) is.load = subst (λ files. EndsAsking library files is.load) same is.asking in
      reading_end asked library is.load end (subst (λ make. EndsReading make (tool.files asked) library is.load) (sym none) asking) is.comes

  -- or the one file is made
  pub made_end : (asked : A) (count : ℕ) (made library : Asking) (names : List (List ℕ)) (end : End) → tool.make asked ≡ Some count
      → names ≡ made_name ∷ [] → IsReadEnd tool asked names made end → made.0.told ≡ Some (one_file made_name (made_text count))
      → (Rose made.0.faults made.1.faults → ⊥) → IsLeft library → EndIs tool (IsJust asked) library end
  made_end asked count made library names end is same read tells quiet left =
      let asking : EndsAsking made (made_name ∷ []) read.load = subst (λ files. EndsAsking made files read.load) same read.asking in
      let ends = made_reading made (one_file made_name (made_text count)) (made_name ∷ []) read.load tells quiet asking in
      reading_end asked library read.load end (subst (λ make. EndsReading make (tool.files asked) library read.load) (sym is) (left, ends)) read.comes

  pub nothing_read : (wanted : A → Type 0) (library : Asking) → IsLeft library → EndIs tool wanted library no_memory
  nothing_read wanted library left = record {
    lawful = λ asked is. (of_load.no_memory, reads_nothing (tool.make asked) (tool.files asked) library left);
    none = λ none. ap (λ (seen : LibrarySeen). seen.asked) left;
  }

  -- what loaded files come to

  loaded_stop : (asked : A) (found : LoadedFiles) (end : End) → AreNoProgram found end → LoadedComesTo tool asked found end
  loaded_stop asked found usage stops = absurd stops
  loaded_stop asked found (faults list) stops = inl stops
  loaded_stop asked found (missing root) stops = absurd stops
  loaded_stop asked found (unread name) stops = absurd stops
  loaded_stop asked found (limit passed) stops = stops
  loaded_stop asked found (output bytes) stops = absurd stops
  loaded_stop asked found no_memory stops = absurd stops

  stop_comes : (asked : A) (load : LoadEnd) (end : End) → StopsAt load end → (end ≡ no_memory) ⊎ LoadEndComesTo tool asked load end
  stop_comes asked (loaded found) end stops = elim stops [ inl none ↦ inl none | inr other ↦ inr (loaded_stop asked found end other) ]
  stop_comes asked (of_load.faults found) end stops = inr stops
  stop_comes asked (of_load.unread name) end stops = inr stops
  stop_comes asked too_many end stops = inr stops
  stop_comes asked (too_large name) end stops = inr stops
  stop_comes asked too_much end stops = inr stops
  stop_comes asked of_load.no_memory end stops = inl stops

  -- the files that were loaded carry on to the end of the run
  pub carries : (asked : A) (names : List (List ℕ)) (library : Asking) (r : Result Program Stop) → AreLoaded names library r
      → CarriesOn tool asked (IsReadEnd tool asked names library) r
  carries asked names library (Ok program) are = λ end comes.
      record { load = loaded are.found; asking = are.asking; comes = comes are.found are.is }
  carries asked names library (Err stop) are = record {
    load = are.load;
    asking = are.asking;
    comes = stop_comes asked are.load (end_of_stop stop) are.stops;
  }

  -- where goals aren't callable
  pub check_end : (asked : A) (found : LoadedFiles) (seen : Seen) (stop : GoalStop) → IsProgram found seen → IsGoalStop seen stop
      → IsLoadedEnd tool asked found (end_of_stop (of_checking stop))
  check_end asked found seen (of_check.Faults list) program is = inr (inr (record { seen = seen; program = program; are = is.0; some = is.1 }))
  check_end asked found seen of_check.NoMemory program is = inl refl

  -- where a name is missing
  pub root_end : (asked : A) (found : LoadedFiles) (seen : Seen) (stop : RootStop) → IsProgram found seen → AreGoalFaults seen []
      → IsRootStop (tool.names asked) seen stop → IsLoadedEnd tool asked found (end_of_stop (of_roots stop))
  root_end asked found seen (of_root.NoPredicate root) program callable is =
      inr (record { seen = seen; program = record { program = program; callable = callable }; lacks = is })
  root_end asked found seen of_root.NoMemory program callable is = inl refl

  -- whatever the end, memory may be wanting behind it

  module _ (wanted : A → Type 0) (one : IsOneAtMost wanted) (library : Asking) where
    lawful_wanting : (end : End) → IsLawfulEnd tool wanted library end → IsAsked tool wanted library
    lawful_wanting end is = record {
      lawful = λ other also. (is.load, subst (λ (asked : A). Reads asked library is.load) (one is.asked other is.lawful also) is.reading);
      none = λ none. lawful_left wanted library end none is;
    }

    pub wanting : (end : End) → EndIs tool wanted library end → IsAsked tool wanted library
    wanting usage is = record { lawful = λ asked lawful. absurd (is.0 asked lawful); none = λ none. ap (λ (seen : LibrarySeen). seen.asked) is.1 }
    wanting (faults found) is = lawful_wanting (faults found) is
    wanting (missing root) is = lawful_wanting (missing root) is
    wanting (unread name) is = lawful_wanting (unread name) is
    wanting (limit passed) is = lawful_wanting (limit passed) is
    wanting (output bytes) is = lawful_wanting (output bytes) is
    wanting no_memory is = is

    -- a run that puts the bytes of an end that has its cause, or says that there is no memory for them
    pub run_put : (out err : Taking) (result : ℕ) (end : End) → EndIs tool wanted library end → PutsEnd tool.name tool.usage result out err end
        → IsRun tool wanted library out err result
    run_put out err result end cause puts = elim puts [
      | inl own ↦ record { end = end; cause = cause; written = own }
      | inr none ↦ record { end = no_memory; cause = wanting end cause; written = none }
    ]

  -- what is wanted in other words

  other_end : (wanted others : A → Type 0) (library : Asking) (end : End) → ((asked : A) → wanted asked → others asked)
      → IsLawfulEnd tool wanted library end → IsLawfulEnd tool others library end
  other_end wanted others library end to is = lawful_end others library is.asked is.load end (to is.asked is.lawful) is.reading is.comes

  others_end : (wanted others : A → Type 0) (library : Asking) → ((asked : A) → wanted asked → others asked)
      → ((asked : A) → others asked → wanted asked) → (end : End) → EndIs tool wanted library end → EndIs tool others library end
  others_end wanted others library to from usage is = (λ asked also. is.0 asked (from asked also), is.1)
  others_end wanted others library to from (faults found) is = other_end wanted others library (faults found) to is
  others_end wanted others library to from (missing root) is = other_end wanted others library (missing root) to is
  others_end wanted others library to from (unread name) is = other_end wanted others library (unread name) to is
  others_end wanted others library to from (limit passed) is = other_end wanted others library (limit passed) to is
  others_end wanted others library to from (output bytes) is = other_end wanted others library (output bytes) to is
  others_end wanted others library to from no_memory is = record {
    lawful = λ asked also. is.lawful asked (from asked also);
    none = λ none. is.none (λ asked lawful. none asked (to asked lawful));
  }

  -- a run for the one thing that is wanted
  pub run_wanted : (wanted : A → Type 0) (asked : A) (library : Asking) (out err : Taking) (result : ℕ) → wanted asked
      → ((other : A) → wanted other → other ≡ asked) → IsRun tool (IsJust asked) library out err result → IsRun tool wanted library out err result
  run_wanted wanted asked library out err result lawful only run = record {
    end = run.end;
    cause = others_end (IsJust asked) wanted library (λ other is. subst wanted (sym is) lawful) only run.end run.cause;
    written = run.written;
  }

  -- words that ask for nothing
  pub words_end : (wanted : A → Type 0) (library : Asking) (fault : WordFault) (stop : Stop) → stop ≡ of_words fault → IsLeft library
      → (fault ≡ of_word.Usage → IsNothingAsked wanted) → EndIs tool wanted library (end_of_stop stop)
  words_end wanted library fault stop is left none =
      subst (λ s. EndIs tool wanted library (end_of_stop s)) (sym is) (of_fault fault none)
    where
      of_fault : (fault : WordFault) → (fault ≡ of_word.Usage → IsNothingAsked wanted) → EndIs tool wanted library (end_of_stop (of_words fault))
      of_fault of_word.Usage none = (none refl, left)
      of_fault of_word.NoMemory none = nothing_read wanted library left

-- what holds of the stop holds of the error that was handed on
pub handed_on : (P : End → Type 0) (r : Result (Vec (Vec ℕ Global) Global) Stop) (stop : Stop) → IsErrAnd r (λ found. found ≡ stop) → P (end_of_stop stop)
    → P (end_of r)
handed_on P (Ok texts) stop is cause = absurd is
handed_on P (Err found) stop is cause = subst (λ s. P (end_of_stop s)) (sym is) cause

-- where nothing was loaded
pub load_stopped : (names : List (List ℕ)) (library : Asking) (stop : LoadStop) → HasEnded library.0 library.1 names (of_library.end_of_stop stop)
    → of_library.HasFailed library.0.faults library.1.faults stop → IsStopped names library (end_of_stop (of_loading stop))
load_stopped names library (Faults list) ended failed =
    record { load = of_load.faults list.items; asking = record { ended = ended; counted = tt }; stops = refl }
load_stopped names library (ReadFault name) ended failed =
    record { load = of_load.unread name; asking = record { ended = ended; counted = failed }; stops = refl }
load_stopped names library TooManyFiles ended failed = record { load = too_many; asking = record { ended = ended; counted = tt }; stops = refl }
load_stopped names library (FileTooLarge name) ended failed =
    record { load = too_large name; asking = record { ended = ended; counted = tt }; stops = refl }
load_stopped names library TooMuchText ended failed = record { load = too_much; asking = record { ended = ended; counted = tt }; stops = refl }
load_stopped names library NoMemory ended failed = record { load = of_load.no_memory; asking = record { ended = ended; counted = tt }; stops = refl }

pub stopped_loading : (names : List (List ℕ)) (library : Asking) (r : Result Program Stop) (stop : Stop) → IsErrAnd r (λ found. found ≡ stop)
    → IsStopped names library (end_of_stop stop) → AreLoaded names library r
stopped_loading names library (Ok program) stop is stopped = absurd is
stopped_loading names library (Err found) stop is stopped = subst (λ s. IsStopped names library (end_of_stop s)) (sym is) stopped

-- where files were loaded
pub loaded_so : (names : List (List ℕ)) (library : Asking) (found : LoadedFiles) (r : Result Program Stop)
    → HasEnded library.0 library.1 names (loaded found) → AreResolved found r → AreLoaded names library r
loaded_so names library found (Ok program) ended is = record { found = found; asking = record { ended = ended; counted = tt }; is = is }
loaded_so names library found (Err stop) ended is = record { load = loaded found; asking = record { ended = ended; counted = tt }; stops = is }
