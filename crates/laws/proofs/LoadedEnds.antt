-- What loaded files come to, whatever is asked for.
use Rattle.std.proofs.Common.{◌≢◌, ◌⊎◌, inl, inr, ◌↔◌, ℕ, ◌<◌, ◌≤◌, List, [], ◌∷◌, Contains, length, refl}
use Rattle.std.specs.List.Sorted.{IsStrictlyIncreasing}
use Rattle.file_library.specs.declared.fault.Fault.{Fault}
use Rattle.file_library.specs.Loaded.{LoadedFiles, WasLoaded}
use Rattle.import_rules.specs.declared.names.PredName.{PredName}
use Rattle.import_rules.specs.Flaws.{AreImportFaults}
use Rattle.import_rules.specs.declared.resolve.TheConstants.{MOST_PREDICATES}
use Rattle.import_rules.specs.Program.{Seen, IsProgram, HasPredicates}
use Rattle.call_edges.specs.GoalFaults.{AreGoalFaults}
use Rattle.call_edges.specs.Roots.{IsRoot}
use Rattle.tool_run.specs.declared.stop.Limit.TheVariants.{TooManyPredicates}
use Rattle.tool_run.specs.LoadedEnd.{AreCallable, LoadedComesTo}
use Rattle.tool_run.specs.Roots.{LacksRoot, HasRoots}
use Rattle.tool_run.specs.End.{End, faults, missing, limit, output}
use Rattle.tool_run.specs.Tool.{Tool}
use Rattle.laws.proofs.NamedRoots.{has_or_lacks}

-- too many predicates, import faults, or a program
abbrev pub ProgramOrFaults : LoadedFiles → Type 0
ProgramOrFaults loaded =
    HasPredicates loaded (λ n. MOST_PREDICATES < n)
    ⊎ (((list : List Fault) × (HasPredicates loaded (λ n. n ≤ MOST_PREDICATES) × (AreImportFaults loaded list × (list ≢ [])))) ⊎ ((seen : Seen) × IsProgram loaded seen))

-- what there is for all loaded files, as the laws say it
pub record ProgramLaws : Type 0 where
  pub programs : (loaded : LoadedFiles) → WasLoaded loaded → ProgramOrFaults loaded
  pub goals : (loaded : LoadedFiles) (seen : Seen) → WasLoaded loaded → IsProgram loaded seen → (list : List Fault) × AreGoalFaults seen list
  pub roots : (seen : Seen) → (roots : List ℕ) × (IsStrictlyIncreasing roots × ((q : ℕ) → Contains roots q ↔ IsRoot seen q))
  pub below : (seen : Seen) (q : ℕ) → IsRoot seen q → q < length seen.predicates

module _ {A : Type 0} (tool : Tool A) (asked : A) where
  -- what is asked for can be told of a program that has the names asked for
  abbrev pub CanTell : Type 0
  CanTell = (found : LoadedFiles) (seen : Seen) → WasLoaded found → IsProgram found seen → HasRoots (tool.names asked) seen
      → (bytes : List ℕ) × tool.tells asked seen bytes

  abbrev pub SomeLoadedEnd : LoadedFiles → Type 0
  SomeLoadedEnd found = (end : End) × LoadedComesTo tool asked found end

  module _ (laws : ProgramLaws) (tells : CanTell) (found : LoadedFiles) (was : WasLoaded found) where
    -- of a callable program
    rooted_end : (seen : Seen) → AreCallable found seen → HasRoots (tool.names asked) seen ⊎ ((root : PredName) × LacksRoot (tool.names asked) seen root)
        → SomeLoadedEnd found
    rooted_end seen callable (inl has) =
        let bytes = tells found seen was callable.program has in
        (output bytes.0, record { seen = seen; program = callable; rooted = has; tells = bytes.1 })
    rooted_end seen callable (inr lacks) = (missing lacks.0, record { seen = seen; program = callable; lacks = lacks.1 })

    -- of a program with these goal faults
    program_end : (seen : Seen) → IsProgram found seen → (list : List Fault) → AreGoalFaults seen list → SomeLoadedEnd found
    program_end seen program [] are = rooted_end seen (record { program = program; callable = are }) (has_or_lacks (tool.names asked) seen)
    program_end seen program (one ∷ list) are = (faults (one ∷ list), inr (record { seen = seen; program = program; are = are; some = λ none. cc }))

    found_end : ProgramOrFaults found → SomeLoadedEnd found
    found_end (inl many) = (limit TooManyPredicates, (refl, many))
    found_end (inr (inl list)) = (faults list.0, inl (record { few = list.1.0; are = list.1.1.0; some = list.1.1.1 }))
    found_end (inr (inr program)) =
        let list = laws.goals found program.0 was program.1 in
        program_end program.0 program.1 list.0 list.1

    -- they come to some end
    pub loaded_end : SomeLoadedEnd found
    loaded_end = found_end (laws.programs found was)
