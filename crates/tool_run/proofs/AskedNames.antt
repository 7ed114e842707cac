-- Which names a library was asked for.
use Rattle.std.proofs.Common.{◌≡◌, ◌≢◌, ℕ, ◌<◌, ◌⊎◌, List, [], ◌++◌, Option, None, AllPairs, length, sym, subst, ap, ◌∙◌, inl, inr, arith, append-nil}
use Rattle.std.proofs.lemmas.List.{length-append, get_or_append_left}
use Rattle.file_library.specs.FileLoads.{FileLoads}
use Rattle.file_library.specs.Library.{Files, map_of}
use Rattle.file_library.specs.Asked.{names_in}
use Rattle.file_library.specs.Asking.{AreFirst, AreAll, AreTooMany, LoadEnd, loaded, faults, unread, too_many, too_large, too_much, no_memory, LoadEndIs}
use Rattle.tool_run.specs.Answer.{LoadEndComesTo}
use Rattle.tool_run.specs.End as of_run
use Rattle.tool_run.specs.End.{End, usage, missing, limit, output}
use Rattle.tool_run.specs.declared.stop.Limit.{Limit}
use Rattle.tool_run.specs.Asking.{Asking, EndsAsking, EndsReading}
use Rattle.tool_run.specs.Lines.{memory_line}
use Rattle.tool_run.specs.Run.{IsLawfulEnd, EndIs, EndsBy, Taking, IsRun, SaidWith}
use Rattle.tool_run.specs.Statuses.{AreAskedFor}
use Rattle.tool_run.specs.Tool.{Tool}
use Rattle.tool_run.specs.Wanted.{IsOneAtMost}
use Rattle.file_library.proofs.ToldWaves.{waves_once}

all_first : (files : Files) (roots names : List (List ℕ)) → AreAll files roots names → AreFirst files roots names
all_first files roots names all = record {
  waves = all.waves;
  are = λ n less. all.are n;
  rest = [];
  is = sym all.is ∙ sym (append-nil names);
  few = let count : length names ≡ length (names_in all.waves) = ap (λ ns. length ns) all.is in omega (arith, all.few, count);
}

many_first : (files : Files) (roots names : List (List ℕ)) → AreTooMany files roots names → AreFirst files roots names
many_first files roots names many = record {
  waves = many.waves;
  are = many.are;
  rest = [];
  is = sym many.is ∙ sym (append-nil names);
  few = let count : length names ≡ length (names_in many.waves) = ap (λ ns. length ns) many.is in omega (arith, many.few, count);
}

-- the names that were put are the first that the roots lead to
end_first : (files : Files) (roots names : List (List ℕ)) (load : LoadEnd) → LoadEndIs files roots names load → AreFirst files roots names
end_first files roots names (loaded found) is = all_first files roots names is.0
end_first files roots names (faults found) is = all_first files roots names is.0
end_first files roots names (unread name) is = is.first
end_first files roots names too_many is = many_first files roots names is
end_first files roots names (too_large name) is = is.0.first
end_first files roots names too_much is = is.leads.first
end_first files roots names no_memory is = is.first

-- and no name is put twice
first_once : (files : Files) (roots names : List (List ℕ)) → AreFirst files roots names → AllPairs (λ a b. a ≡ b → ⊥) names
first_once files roots names first i j d lt within same =
    let once = subst (AllPairs (λ a b. a ≡ b → ⊥)) first.is (waves_once (FileLoads files) roots first.waves first.are) in
    let lower : i < length names = omega (arith, lt, within) in
    let inside : j < length (names ++ first.rest) = omega (arith, within, length-append names first.rest) in
    once i j d lt inside (get_or_append_left names first.rest d i lower ∙ (same ∙ sym (get_or_append_left names first.rest d j within)))

-- the statuses at which all was asked for
abbrev IsWhole : ℕ → Type 0
IsWhole result = (result ≡ 0) ⊎ ((result ≡ 2) ⊎ (result ≡ 3))

asked_for : (library : Asking) (roots : List (List ℕ)) (load : LoadEnd) (result : ℕ) (asking : EndsAsking library roots load)
    → (IsWhole result → (files : Files) (names : List (List ℕ)) → LoadEndIs files roots names load → AreAll files roots names) → AreAskedFor roots library result
asked_for library roots load result asking whole =
    let first = end_first (map_of asking.ended.answers) roots asking.ended.names load asking.ended.is in
    record {
      seen = map_of asking.ended.answers;
      names = asking.ended.names;
      put = asking.ended.put;
      first = first;
      once = first_once (map_of asking.ended.answers) roots asking.ended.names first;
      whole = λ status. whole status (map_of asking.ended.answers) asking.ended.names asking.ended.is;
    }

-- a status that is none of these
not_these : (bytes : List ℕ) (status result : ℕ) (sink : Taking) → SaidWith bytes status result sink → 3 < status
    → IsWhole result → ⊥
not_these bytes status result sink said high is =
    elim said [
      | inl all ↦ elim is [ inl zero ↦ omega (arith, zero, all.0, high) | inr rest ↦ elim rest [ inl two ↦ omega (arith, two, all.0, high) | inr three ↦ omega (arith, three, all.0, high) ] ]
      | inr part ↦ elim is [ inl zero ↦ omega (arith, zero, part.0) | inr rest ↦ elim rest [ inl two ↦ omega (arith, two, part.0) | inr three ↦ omega (arith, three, part.0) ] ]
    ]

-- the library was asked
asked_reading : (make : Option ℕ) (names : List (List ℕ)) (library : Asking) (load : LoadEnd) → make ≡ None → EndsReading make names library load → EndsAsking library names load
asked_reading make names library load none reading = subst (λ m. EndsReading m names library load) none reading

module _ {A : Type 0} (tool : Tool A) where
  -- which ends of the asking come to what is told, to faults or to a root that is missing
  load_whole : (asked : A) (files : Files) (roots names : List (List ℕ)) (load : LoadEnd) (end : End) → LoadEndComesTo tool asked load end → ((name : List ℕ) → end ≢ of_run.unread name)
      → end ≢ of_run.no_memory → ((passed : Limit) → end ≢ limit passed) → LoadEndIs files roots names load → AreAll files roots names
  load_whole asked files roots names (loaded found) end comes not_unread not_wanting not_passed is = is.0
  load_whole asked files roots names (faults found) end comes not_unread not_wanting not_passed is = is.0
  load_whole asked files roots names (unread name) end comes not_unread not_wanting not_passed is = absurd (not_unread name comes)
  load_whole asked files roots names too_many end comes not_unread not_wanting not_passed is = absurd (not_passed _ comes)
  load_whole asked files roots names (too_large name) end comes not_unread not_wanting not_passed is = absurd (not_passed _ comes)
  load_whole asked files roots names too_much end comes not_unread not_wanting not_passed is = absurd (not_passed _ comes)
  load_whole asked files roots names no_memory end comes not_unread not_wanting not_passed is = absurd (not_wanting comes)

  module _ (wanted : A → Type 0) (one : IsOneAtMost wanted) (library : Asking) (asked : A) (lawful : wanted asked) (reads : tool.make asked ≡ None) where
    reading_asked : (other : A) → wanted other → (load : LoadEnd) (result : ℕ) → EndsReading (tool.make other) (tool.files other) library load
        → (IsWhole result → (files : Files) (names : List (List ℕ)) → LoadEndIs files (tool.files asked) names load → AreAll files (tool.files asked) names)
        → AreAskedFor (tool.files asked) library result
    reading_asked other also load result reading whole =
        asked_for library (tool.files asked) load result
        (asked_reading (tool.make asked) (tool.files asked) library load reads (subst (λ (one : A). EndsReading (tool.make one) (tool.files one) library load) (one other asked also lawful) reading)) whole

    lawful_asked_for : (result : ℕ) (end : End) (is : IsLawfulEnd tool wanted library end)
        → (IsWhole result → (files : Files) (names : List (List ℕ)) → LoadEndIs files (tool.files asked) names is.load → AreAll files (tool.files asked) names)
        → AreAskedFor (tool.files asked) library result
    lawful_asked_for result end is whole = reading_asked is.asked is.lawful is.load result is.reading whole

    decided_for : (result : ℕ) (end : End) → IsLawfulEnd tool wanted library end → ((name : List ℕ) → end ≢ of_run.unread name) → end ≢ of_run.no_memory → ((passed : Limit) → end ≢ limit passed)
        → AreAskedFor (tool.files asked) library result
    decided_for result end is not_unread not_wanting not_passed =
        lawful_asked_for result end is
        (λ status files names ends. load_whole is.asked files (tool.files asked) names is.load end is.comes not_unread not_wanting not_passed ends)

    asked_by : (out err : Taking) (result : ℕ) (end : End) → EndIs tool wanted library end → EndsBy tool.name tool.usage result out err end → AreAskedFor (tool.files asked) library result
    asked_by out err result usage cause written = absurd (cause.0 asked lawful)
    asked_by out err result (of_run.faults found) cause written = decided_for result (of_run.faults found) cause (λ name e. cc) (λ e. cc) (λ passed e. cc)
    asked_by out err result (missing root) cause written = decided_for result (missing root) cause (λ name e. cc) (λ e. cc) (λ passed e. cc)
    asked_by out err result (of_run.unread name) cause written =
        lawful_asked_for result (of_run.unread name) cause (λ status files names ends. absurd (not_these (of_run.err_of tool.name tool.usage (of_run.unread name)) 4 result err written.0 (omega arith) status))
    asked_by out err result (limit passed) cause written =
        lawful_asked_for result (limit passed) cause (λ status files names ends. absurd (not_these (of_run.err_of tool.name tool.usage (limit passed)) 6 result err written.0 (omega arith) status))
    asked_by out err result (output bytes) cause written = decided_for result (output bytes) cause (λ name e. cc) (λ e. cc) (λ passed e. cc)
    asked_by out err result of_run.no_memory cause written =
        let read = cause.lawful asked lawful in
        reading_asked asked lawful read.0 result read.1 (λ status files names ends. absurd (not_these (memory_line tool.name) 7 result err written.0 (omega arith) status))

    pub asked_said : (out err : Taking) (result : ℕ) → IsRun tool wanted library out err result → AreAskedFor (tool.files asked) library result
    asked_said out err result run = asked_by out err result run.end run.cause run.written
