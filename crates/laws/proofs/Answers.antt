-- What is wanted over files has an answer.
use Rattle.std.proofs.Common.{◌⊎◌, inl, inr, ℕ, List, refl}
use Rattle.file_library.specs.Library.{Files}
use Rattle.file_library.specs.Asking.{LoadEnd, loaded, too_many, too_large, too_much, LoadEndIs, IsDecided}
use Rattle.file_library.specs.Asking as of_load
use Rattle.file_library.specs.Loaded.{LoadedFiles, WasLoaded}
use Rattle.tool_run.specs.declared.stop.Limit.TheVariants.{TooManyFiles, FileTooLarge, TooMuchText}
use Rattle.tool_run.specs.Wanted.{IsNothingAsked, files_read, names_read}
use Rattle.tool_run.specs.LoadedEnd.{LoadedComesTo}
use Rattle.tool_run.specs.Answer.{LoadEndComesTo, IsLawfulAnswer, IsAnswer}
use Rattle.tool_run.specs.End.{End, usage, faults, missing, unread, limit, output, no_memory}
use Rattle.tool_run.specs.Tool.{Tool}
use Rattle.laws.proofs.LoadedEnds.{CanTell, ProgramLaws, loaded_end}

-- a decided end of the asking for the files
abbrev pub SomeLoad : Files → List (List ℕ) → Type 0
SomeLoad files roots = (names : List (List ℕ)) × ((load : LoadEnd) × (IsDecided load × LoadEndIs files roots names load))

module _ {A : Type 0} (tool : Tool A) (wanted : A → Type 0) (files : Files) where
  -- what is wanted, and how the asking for its files ends
  record IsWanted (load : LoadEnd) : Type 0 where
    pub asked : A
    pub lawful : wanted asked
    pub names : List (List ℕ)
    pub decided : IsDecided load
    pub ends : LoadEndIs (files_read (tool.make asked) files) (names_read (tool.make asked) (tool.files asked)) names load

  answer_of : (load : LoadEnd) (is : IsWanted load) (end : End) → LoadEndComesTo tool is.asked load end → IsLawfulAnswer tool wanted files end
  answer_of load is end comes = record {
    asked = is.asked;
    lawful = is.lawful;
    names = is.names;
    load = load;
    decided = is.decided;
    ends = is.ends;
    comes = comes;
  }

  -- loaded files don't come to the usage
  of_found : (found : LoadedFiles) (is : IsWanted (loaded found)) (end : End) → LoadedComesTo tool is.asked found end → (end : End) × IsAnswer tool wanted files end
  of_found found is usage comes = absurd comes
  of_found found is (faults list) comes = (faults list, answer_of (loaded found) is (faults list) comes)
  of_found found is (missing root) comes = (missing root, answer_of (loaded found) is (missing root) comes)
  of_found found is (unread name) comes = absurd comes
  of_found found is (limit passed) comes = (limit passed, answer_of (loaded found) is (limit passed) comes)
  of_found found is (output bytes) comes = (output bytes, answer_of (loaded found) is (output bytes) comes)
  of_found found is no_memory comes = absurd comes

  module _ (laws : ProgramLaws) (tells : (asked : A) → wanted asked → CanTell tool asked) where
    of_load_end : (load : LoadEnd) → IsWanted load → (end : End) × IsAnswer tool wanted files end
    of_load_end (loaded found) is =
        let was : WasLoaded found =
        record { files = files_read (tool.make is.asked) files; roots = names_read (tool.make is.asked) (tool.files is.asked); is = is.ends.1 } in
        let end = loaded_end tool is.asked laws (tells is.asked is.lawful) found was in
        of_found found is end.0 end.1
    of_load_end (of_load.faults list) is = (faults list, answer_of (of_load.faults list) is (faults list) refl)
    of_load_end (of_load.unread name) is = absurd is.decided
    of_load_end too_many is = (limit TooManyFiles, answer_of too_many is (limit TooManyFiles) refl)
    of_load_end (too_large name) is = (limit (FileTooLarge name), answer_of (too_large name) is (limit (FileTooLarge name)) refl)
    of_load_end too_much is = (limit TooMuchText, answer_of too_much is (limit TooMuchText) refl)
    of_load_end of_load.no_memory is = absurd is.decided

    -- something is wanted, or nothing is
    pub some_answer : ((files : Files) (roots : List (List ℕ)) → SomeLoad files roots) → ((asked : A) × wanted asked) ⊎ IsNothingAsked wanted
        → (end : End) × IsAnswer tool wanted files end
    some_answer loads (inl asked) =
        let load = loads (files_read (tool.make asked.0) files) (names_read (tool.make asked.0) (tool.files asked.0)) in
        of_load_end load.1.0 (record { asked = asked.0; lawful = asked.1; names = load.0; decided = load.1.1.0; ends = load.1.1.1 })
    some_answer loads (inr none) = (usage, none)
